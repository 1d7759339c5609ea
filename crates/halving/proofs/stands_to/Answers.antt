use Rattle.fields.proofs.Base.{◌≡◌, sym, ap, ◌+◌, ◌≤◌, add-sub_cancel_left, arith, length, Some}
use Rattle.std.specs.Ordering.{is_lt}
use Rattle.names.specs.Names.{below}
use Rattle.entries.specs.Entry.{name_at}
use Rattle.entries.proofs.Laws.{name_next}
use Rattle.quickref.specs.Quickref.{group_at}
use Rattle.halving.specs.Halving.{group_above}
use Rattle.halving.proofs.stands_to.Goals.{In-Some}
use Rattle.halving.proofs.stands_to.Goals as goal

-- the group's first name, and that it lies inside the chunk
name_is : (c : In-Some) → let a = c.args in name_at a.c.now (group_at a.kind a.c.now a.g) ≡ Some (c.in-Some.n, c.in-Some.start)
name_is c = rw (← c.group_place.ensures) (sym c.in-Some.ensures)

inside : (c : In-Some) → c.in-Some.start + c.in-Some.n ≤ length c.args.c.now
inside c = (name_next _ _ _ _ (name_is c)).2

pub returns-in_default : goal.returns-in_default
unfolding group_above
returns-in_default c = rw (← c.group_place.ensures, ← c.name_at.ensures, c.in_default.is)

pub overflow_add-start : goal.overflow_add-start
overflow_add-start c = omega (arith, inside (goal.at.overflow_add-start c).In-Some)

pub slice_bounds-compare-end : goal.slice_bounds-compare-end
slice_bounds-compare-end c = omega (arith, inside (goal.at.slice_bounds-compare-end c).In-Some)

pub returns : goal.returns
unfolding group_above below
returns c = rw (name_is (goal.at.returns c).In-Some) (ap is_lt (simp add-sub_cancel_left at c.compare.ensures))
