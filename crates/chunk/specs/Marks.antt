-- The quick word of an entry, by its mark: how the check counts words and entries between them. A means; `mark_right_lem` of proofs/Quick ties it to `quick_at`.
use Rattle.std.specs.Prelude.{ℕ, ◌+◌, Bool, ◌||◌, List, ltb, eqb}
use Rattle.chunk_fields.specs.ChunkFields.{quick_word}

-- the entry that stands at a place is entry word * n + past, with past below n: it stands where its quick word says, if it has one
abbrev pub mark_right : List ℕ → ℕ → ℕ → ℕ → ℕ → Bool
mark_right s first word past at = ltb 0 past || (eqb word 0 || eqb (first + quick_word s word) at)
