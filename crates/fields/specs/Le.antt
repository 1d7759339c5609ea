-- Fixed numbers of a file: little-endian (FORMAT, Numbers).
use Rattle.std.specs.Prelude.{ℕ, zero, suc, ◌+◌, ◌*◌, ◌/◌, ◌%◌, List, [], ◌∷◌, get_or}

-- the number whose k bytes, lowest first, stand in s from `at` on; a byte past the end of s counts as 0
unfoldable pub le : ℕ → List ℕ → ℕ → ℕ
le zero s at = 0
le (suc k) s at = get_or s at 0 + 256 * le k s (at + 1)

-- the lowest k bytes of v, lowest first
unfoldable pub bytes : ℕ → ℕ → List ℕ
bytes zero v = []
bytes (suc k) v = v % 256 ∷ bytes k (v / 256)
