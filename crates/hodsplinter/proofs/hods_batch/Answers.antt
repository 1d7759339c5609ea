use Rattle.hodsplinter.proofs.hods_batch.Goals as goal

pub returns : goal.returns
returns c = record { answer = rw c.batch.ensures.answer at c.tell_batched.ensures; answers = c.batch.ensures.answers }
