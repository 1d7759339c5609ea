use Rattle.fields.proofs.Base.{◌≡◌, sym, ap, ◌∙◌, ℕ, sets, Some, None, Ok}
use Rattle.batch.specs.Batch.{result_of}
use Rattle.batch.proofs.Results.{four}
use Rattle.batch.proofs.put_result.Goals as goal

pub returns-in-Ok-Some : goal.returns-in-Ok-Some
unfolding result_of
returns-in-Ok-Some c = let a = c.args in
    let f : c.in-Ok-Some.field-0 ≡ Some c.in-Ok-Some.x = rw c.in-Ok-Some.is at c.in-Ok-Some.field-0-is in
    c.put_four.ensures ∙ ap (λ r. sets a.out.now a.at (result_of r)) (sym (c.in-Ok-Some.is ∙ ap Ok f))

pub returns-in-Ok-None : goal.returns-in-Ok-None
unfolding result_of
returns-in-Ok-None c = let a = c.args in
    let f : c.in-Ok-None.field-0 ≡ None = rw c.in-Ok-None.is at c.in-Ok-None.field-0-is in
    c.put_four-in-Ok-None.ensures ∙ ap (λ r. sets a.out.now a.at (result_of r)) (sym (c.in-Ok-None.is ∙ ap Ok f))

pub returns-in-Err : goal.returns-in-Err
unfolding result_of
returns-in-Err c = let a = c.args in
    c.put_four-in-Err.ensures
    ∙ ap (λ (n : ℕ). sets a.out.now a.at (four n 0 0 0)) c.number.ensures
    ∙ ap (λ r. sets a.out.now a.at (result_of r)) (sym c.in-Err.is)
