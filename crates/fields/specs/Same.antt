-- Equality of byte lists as a test, and of a part of a list with given bytes.
use Rattle.std.specs.Prelude.{ℕ, Bool, true, false, ◌&&◌, List, [], ◌∷◌, length, eqb}
use Rattle.fields.specs.Part.{inside, part}

-- a and b hold the same bytes
unfoldable pub same : List ℕ → List ℕ → Bool
same [] [] = true
same [] (y ∷ b) = false
same (x ∷ a) [] = false
same (x ∷ a) (y ∷ b) = eqb x y && same a b

-- the bytes of c stand in s at `at`, all of them inside s
unfoldable pub stands_at : List ℕ → ℕ → List ℕ → Bool
stands_at s at c = inside s at (length c) && same (part s at (length c)) c
