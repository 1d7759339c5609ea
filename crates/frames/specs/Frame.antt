-- The bytes of a refusal (FORMAT P4).
use Rattle.std.specs.Prelude.{ℕ, ◌/◌, ◌%◌, List, [], ◌∷◌}
use Rattle.refusals.specs.declared.Refusal.{Refusal}
use Rattle.refusals.specs.Refusals.{number_of, chunk_number}

abbrev pub refusal_bytes : Refusal → List ℕ
refusal_bytes r =
    0xEE ∷ number_of r.rule ∷ chunk_number r / 0x1000000 ∷ chunk_number r / 0x10000 % 256 ∷ chunk_number r / 256 % 256 ∷ chunk_number r % 256 ∷ []
