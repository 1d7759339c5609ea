use Rattle.fields.proofs.Base.{◌≡◌, sym, ap, ◌∙◌, Some, Err}
use Rattle.batch.specs.Batch.{names_in}
use Rattle.batch.specs.Step.{counted_as}
use Rattle.batch.proofs.Called.{in_cut, in_short, in_done}
use Rattle.batch.proofs.batch_in.Goals as goal

pub returns-in_default : goal.returns-in_default
returns-in_default c = let a = c.args in
    let r = in_cut a.file.now a.book a.names.now a.answers.now (sym c.in_default.is ∙ c.count_names.ensures) in
    record { answer = ap (λ x. Err x) c.refuse.ensures ∙ r.0; answers = r.1 }

pub returns-then-answers-n : goal.returns-then-answers-n
returns-then-answers-n c =
    let count_is : Some c.in-Some.n ≡ counted_as 0 (names_in c.args.names.now) =
    sym c.in-Some.is ∙ c.count_names.ensures in
    let a = c.args in
    let r = in_short a.file.now a.book a.names.now a.answers.now _ count_is c.if-answers-n.true in
    record { answer = ap (λ x. Err x) c.refuse-then-answers-n.ensures ∙ r.0; answers = r.1 }

pub returns : goal.returns
returns c =
    let count_is : Some c.in-Some.n ≡ counted_as 0 (names_in c.args.names.now) =
    sym c.in-Some.is ∙ c.count_names.ensures in
    let a = c.args in
    let r = in_done a.file.now a.book a.names.now a.answers.now _ count_is c.put_results.new.out c.if-answers-n.false c.put_results.ensures in
    record { answer = r.0; answers = r.1 }
