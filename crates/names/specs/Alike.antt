-- The same bytes in two names, in each at a place of its own. A means of the code; nobody has to believe it.
use Rattle.std.specs.Prelude.{ℕ, ◌+◌, ◌-◌, ◌≤◌, ◌≡◌, List, length}
use Rattle.fields.specs.Part.{part}

-- the n bytes of a from i on are the n bytes of b from k on
pub record Alike (a b : List ℕ) (i k n : ℕ) : Type 0 where
  pub first : i + n ≤ length a
  pub second : k + n ≤ length b
  pub bytes : part a i n ≡ part b k n

-- from `from` in a and `at` in b on they are alike up to j in a, which is no further than `end`
abbrev pub Reached : List ℕ → List ℕ → ℕ → ℕ → ℕ → ℕ → Type 0
Reached a b from at end j = (from ≤ j) × (j ≤ end) × Alike a b from at (j - from)
