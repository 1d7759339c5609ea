use Rattle.fields.proofs.Base.{sym, ◌∙◌, ◌*◌, arith, length}
use Rattle.put.proofs.Put.{put_refused, put_done}
use Rattle.compose.specs.NewChunk.{word_bytes}
use Rattle.compose.proofs.Words.{length_words}
use Rattle.compose.proofs.put_words.Goals as goal

pub returns-then-out-at : goal.returns-then-out-at
returns-then-out-at c = let a = c.args in let w = a.words.now in let p = put_refused a.out.now a.at (4 * length w) (word_bytes w) (length_words w) (omega arith) in record { answer = sym p.0; written = sym p.1 }

pub returns-then-out-at-2 : goal.returns-then-out-at-2
returns-then-out-at-2 c = let a = c.args in let w = a.words.now in let p = put_refused a.out.now a.at (4 * length w) (word_bytes w) (length_words w) (omega arith) in record { answer = sym p.0; written = sym p.1 }

pub returns : goal.returns
returns c = let a = c.args in let w = a.words.now in let p = put_done a.out.now a.at (4 * length w) (word_bytes w) (length_words w) (omega arith) in record { answer = sym p.0; written = c.write_words.ensures ∙ sym p.1 }
