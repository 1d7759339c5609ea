use Rattle.fields.proofs.Base.{sym, ◌∙◌, arith}
use Rattle.pack.proofs.Filling.{Fitted, fitted, full}
use Rattle.pack.proofs.fill.Goals.{In-Some}
use Rattle.pack.proofs.fill.Goals as goal

-- the entry that comes next
next : (c : In-Some) → Fitted c.args.content c.args.input.now c.args.starts.now c.args.from.kind c.args.n c.loop-e.f.count c.loop-e.f.bytes c.loop-e.f.left c.loop-e.f.at c.in-Some.e c.in-Some.bytes
next c = fitted _ _ _ _ _ _ _ _ _ _ _ (sym c.next_fit.ensures ∙ c.in-Some.is)

pub returns-in_default : goal.returns-in_default
returns-in_default c = sym (full _ _ _ _ _ _ _ _ _ (sym c.next_fit.ensures ∙ c.in_default.is)) ∙ c.loop-e.invariant.2

pub overflow_sub-f : goal.overflow_sub-f
overflow_sub-f c =
    omega (arith, (next (goal.at.overflow_sub-f c).In-Some).some)

pub loop-e-smaller : goal.loop-e-smaller
loop-e-smaller c =
    let t = next (goal.at.loop-e-smaller c).In-Some in omega (arith, t.some)

pub loop-e-preserved : goal.loop-e-preserved
loop-e-preserved c =
    let t = next (goal.at.loop-e-preserved c).In-Some in
    let l = c.loop-e in
    (omega (arith, t.more, l.invariant.0), omega (arith, t.room), t.turn ∙ l.invariant.2)
