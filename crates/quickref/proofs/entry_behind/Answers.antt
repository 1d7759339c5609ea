use Rattle.fields.proofs.Base.{◌≡◌, sym, ap, ◌∙◌, ℕ, ◌+◌, ◌-◌, arith}
use Rattle.quickref.specs.Quickref.{after_at}
use Rattle.quickref.proofs.Steps.{after_bad, after_on, after_here}
use Rattle.quickref.proofs.entry_behind.Goals as goal

pub returns-in_err-at : goal.returns-in_err-at
returns-in_err-at c = let a = c.args in
    c.from_residual.ensures ∙ sym (after_bad a.limits a.kind a.c.now (a.past - c.loop.counter) c.loop.at (sym c.in_err-at.ensures)) ∙ c.loop.invariant

pub loop-preserved : goal.loop-preserved
loop-preserved c = let a = c.args in
    let e = c.in_ok-at.field-0 in
    let one_less : a.past - (c.loop.counter + 1) ≡ a.past - c.loop.counter - 1 = omega arith in
    ap (λ (n : ℕ). after_at a.limits a.kind a.c.now n e.next) one_less
    ∙ sym (after_on a.limits a.kind a.c.now (a.past - c.loop.counter) c.loop.at e (omega arith) (sym c.in_ok-at.ensures)) ∙ c.loop.invariant

pub returns : goal.returns
returns c = let a = c.args in
    c.item_at-2.ensures ∙ sym (after_here a.limits a.kind a.c.now (a.past - c.loop.counter) c.loop.at (omega arith)) ∙ c.loop.invariant
