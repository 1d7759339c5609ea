use Rattle.fields.proofs.Base.{eq-eqb, ne_eqb}
use Rattle.quickref.specs.Quickref.{group_at}
use Rattle.quickref.proofs.group_at.Goals as goal

pub returns-then-g-eq0 : goal.returns-then-g-eq0
unfolding group_at
returns-then-g-eq0 c = rw (eq-eqb _ _ c.if-g-eq0.true) c.first_place-first.ensures

pub returns : goal.returns
unfolding group_at
returns c = rw (ne_eqb _ _ c.if-g-eq0.false, ← c.quick_place.ensures, ← c.first_place-first.ensures, ← c.le16.ensures)
