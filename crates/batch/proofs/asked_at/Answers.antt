use Rattle.fields.proofs.Base.{le-leb, lt-leb, sym, arith, ◌+◌, length}
use Rattle.encint.proofs.Reading.{encint_next}
use Rattle.batch.specs.Batch.{asked_at}
use Rattle.batch.proofs.asked_at.Goals as goal

pub returns-in_err-n : goal.returns-in_err-n
unfolding asked_at
returns-in_err-n c = simp (c.from_residual.ensures, sym c.in_err-n.ensures.number)

pub overflow_sub-names : goal.overflow_sub-names
overflow_sub-names c = (encint_next _ _ (sym c.in_ok-n.ensures.number)).1

pub returns-then-names-start : goal.returns-then-names-start
unfolding asked_at
returns-then-names-start c = simp (sym c.in_ok-n.ensures.number, lt-leb (c.in_ok-n.start + c.in_ok-n.n) (length c.args.names.now) (omega arith))

pub returns : goal.returns
unfolding asked_at
returns c = let e = sym c.in_ok-n.ensures.number in
    let i = encint_next _ _ e in
    simp (e, le-leb (c.in_ok-n.start + c.in_ok-n.n) (length c.args.names.now) (omega arith))
