-- A part of a list.
use Rattle.std.specs.Prelude.{ℕ, ◌+◌, Bool, cond, List, [], length, take, drop, leb}

-- n places from `at` on lie inside s
abbrev pub inside : List ℕ → ℕ → ℕ → Bool
inside s at n = leb (at + n) (length s)

-- the n bytes of s from `at` on, or as many of them as s has
abbrev pub part : List ℕ → ℕ → ℕ → List ℕ
part s at n = take n (drop at s)

-- the part itself where it lies inside s, else the empty one
unfoldable pub part_of : List ℕ → ℕ → ℕ → List ℕ
part_of s at n = cond (inside s at n) (part s at n) []
