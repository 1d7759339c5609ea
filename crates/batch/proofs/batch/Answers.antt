use Rattle.fields.proofs.Base.{sym, ◌∙◌}
use Rattle.std.proofs.lemmas.Result.{err_from_is_err_and}
use Rattle.batch.proofs.Called.{opened_batch, refused_batch}
use Rattle.batch.proofs.batch.Goals as goal

pub returns : goal.returns
returns c = let a = c.args in
    let r = opened_batch a.file.now c.in_ok-book.book a.names.now a.answers.now (sym c.in_ok-book.ensures) in
    record { answer = c.batch_in.ensures.answer ∙ r.0; answers = c.batch_in.ensures.answers ∙ r.1 }

pub returns-in_err-book : goal.returns-in_err-book
returns-in_err-book c = let a = c.args in
    let p = err_from_is_err_and c.from_residual.result c.from_residual.ensures.1 in
    let r = refused_batch a.file.now a.names.now a.answers.now _ (sym c.open.ensures ∙ c.in_err-book.was) in
    record { answer = rw (p.1, p.2) r.0; answers = r.1 }
