-- `compose::write_words` meets its contract. The loop's invariant: what is left to be written makes the whole.
use Rattle.fields.proofs.Base.{◌≡◌, ◌+◌, ◌*◌, length, drop, sets}
use Rattle.compose.specs.NewChunk.{word_bytes}
use Rattle.compose.proofs.write_words.Given as goal

abbrev pub invariant-loop-i : goal.invariant-loop-i
invariant-loop-i l = (length l.out ≡ length l.initial.out) × (sets l.out (l.at + 4 * l.i) (word_bytes (drop l.i l.words)) ≡ sets l.initial.out l.at (word_bytes l.words))
