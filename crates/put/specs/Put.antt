-- Bytes written into a list at a place.
use Rattle.std.specs.Prelude.{ℕ, cond, List, length}
use Rattle.std.proofs.lemmas.List.Edits.{sets}
use Rattle.fields.specs.Part.{inside}

-- s with the bytes of l from `at` on; s itself where they have no room there
unfoldable pub put : List ℕ → ℕ → List ℕ → List ℕ
put s at l = cond (inside s at (length l)) (sets s at l) s
