-- Which bytes are read as a value: its short form, with leading bytes 80 or none (FORMAT N3, N4).
use Rattle.std.specs.Prelude.{ℕ, ◌+◌, ◌^◌, ◌≤◌, ◌<◌, ◌≡◌, List, ◌++◌, length, replicate, Option, Some}
use Rattle.fields.specs.Part.{part}
use Rattle.encint.specs.Encint.{encoded}

-- the short form of v behind k bytes 80
abbrev pub padded : ℕ → ℕ → List ℕ
padded k v = replicate k 128 ++ encoded v

-- it stands in s at `at`, nine bytes at most
pub record PaddedAt (s : List ℕ) (at k v : ℕ) : Type 0 where
  pub small : v < 2 ^ 63
  pub few : k + length (encoded v) ≤ 9
  pub bytes : part s at (k + length (encoded v)) ≡ padded k v

-- a reading of s at `at` is exact
pub record ReadExact (s : List ℕ) (at : ℕ) (r : Option (ℕ × ℕ)) : Type 0 where
  -- what it says of the bytes: as many as it took, they are bytes 80, or none, and the value's short form;
  pub says : (v next : ℕ) → r ≡ Some (v, next) → (k : ℕ) × PaddedAt s at k v × (next ≡ at + (k + length (encoded v)))
  -- and such bytes are read so
  pub reads : (k v : ℕ) → PaddedAt s at k v → r ≡ Some (v, at + (k + length (encoded v)))
