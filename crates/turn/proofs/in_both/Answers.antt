use Rattle.fields.proofs.Base.{◌≡◌, sym, ◌∙◌, true, false}
use Rattle.turn.specs.Turn.{same_at, in_both}
use Rattle.turn.proofs.in_both.Goals as goal

pub returns-then-same_at : goal.returns-then-same_at
unfolding in_both
returns-then-same_at c = let a = c.args in
    let t : same_at a.x a.y ≡ true = sym c.same_at.ensures ∙ c.if-same_at.true in
    rw (t, c.after-first.ensures, c.after-second.ensures, c.one_same-totals.ensures)

pub returns : goal.returns
unfolding in_both
returns c = let a = c.args in
    let t : same_at a.x a.y ≡ false = sym c.same_at.ensures ∙ c.if-same_at.false in
    rw (t, c.after-first.ensures, c.after-second.ensures, c.show-a.ensures, c.show-b.ensures, c.one_changed-totals.ensures)
