use Rattle.fields.proofs.Base.{sym, add-sub_cancel_left, arith}
use Rattle.fields.proofs.Same.{stands_inside, stands_outside}
use Rattle.fields.proofs.stands_at.Goals as goal

pub returns-then-c-s : goal.returns-then-c-s
returns-then-c-s c = let a = c.args in
    rw (stands_inside a.s.now a.at a.c.now (omega arith)) (simp add-sub_cancel_left at c.equal.ensures)

pub returns-else-c-s : goal.returns-else-c-s
returns-else-c-s c = sym (stands_outside _ _ _ (omega arith))

pub returns-else-at-s : goal.returns-else-at-s
returns-else-at-s c = sym (stands_outside _ _ _ (omega arith))
