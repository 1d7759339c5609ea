use Rattle.fields.proofs.Base.{◌≡◌, sym, ap, ◌∙◌, ℕ, ◌+◌, ◌-◌, ◌≤◌, ◌<◌, add-sub_cancel_left, arith, Option, Some, None}
use Rattle.fields.proofs.Le.{le_lt}
use Rattle.names.specs.Names.{compared}
use Rattle.entries.specs.Entry.{item_at, name_of}
use Rattle.entries.proofs.Laws.{Inside, item_inside}
use Rattle.entries.specs.declared.Kind.TheVariants.{Listing}
use Rattle.chunk_fields.specs.ChunkFields.{count_place}
use Rattle.quickref.specs.Quickref.{group_at}
use Rattle.halving.specs.Halving.{group_in, size_in}
use Rattle.halving.specs.Halvings.{halvings_in}
use Rattle.seek.specs.Count.{cost_in}
use Rattle.seek.specs.declared.Searched.{Searched}
use Rattle.seek.proofs.Counts.{spent_in, spent_next, spent_is, spent_fits}
use Rattle.seek.proofs.Steps.{find_from, find_end, find_bad, find_above, find_here, find_on}
use Rattle.seek.proofs.find.Goals.{After-group_for-group, In_default, In-Some, After-compare}
use Rattle.seek.proofs.find.Goals as goal
use Rattle.entries.specs.declared.Place.{Place}

-- the search ends
ended : (n m : ℕ) (h : Option Place) (w : Searched (Option Place)) → n ≡ m → record { answer = h; count = m } ≡ w → record { answer = h; count = n } ≡ w
ended n m h w p q = ap (λ (x : ℕ). record { answer = h; count = x }) p ∙ q

-- what the code says was compared, and that it fits
spent_told : (c : After-group_for-group) (left : ℕ) → let a = c.args in
    c.group_for-group.result.count + (c.group_for-group.result.size - left) ≡ spent_in a.limits Listing a.c.now (compared a.name.now) left
spent_told c left =
    let a = c.args in
    spent_is a.limits Listing a.c.now (compared a.name.now) _ _ c.group_for-group.ensures.1 c.group_for-group.ensures.2 left

room : (c : After-group_for-group) (left : ℕ) → let a = c.args in left ≤ size_in a.limits a.c.now (group_in a.limits Listing a.c.now (compared a.name.now))
    → (left ≤ c.group_for-group.result.size) × (c.group_for-group.result.size < 65536) × (c.group_for-group.result.count < 65536)
room c left h =
    let a = c.args in
    spent_fits a.limits Listing a.c.now (compared a.name.now) _ _ c.group_for-group.ensures.1 c.group_for-group.ensures.2
    (le_lt a.c.now (λ j. (c.type_inv.c j).fits) 2 count_place) left h

-- what was read is an entry, or is none
read_is : (c : In-Some) → let a = c.args in item_at a.limits Listing a.c.now c.loop-left.at ≡ Some c.in-Some.e
unfolding item_at
read_is c = sym c.listing_at.ensures ∙ c.in-Some.is

read_bad : (c : In_default) → let a = c.args in item_at a.limits Listing a.c.now c.loop-left.at ≡ None
unfolding item_at
read_bad c = sym c.listing_at.ensures ∙ c.in_default.is

-- the name lies inside the chunk
name_inside : (c : In-Some) → Inside c.args.c.now c.loop-left.at c.in-Some.e
name_inside c = item_inside c.args.limits Listing c.args.c.now c.loop-left.at c.in-Some.e (read_is c)

-- how the asked name stands to it
compared_is : (c : After-compare) → let a = c.args in c.compare.result ≡ compared a.name.now (name_of a.c.now c.in-Some.e)
compared_is c = simp add-sub_cancel_left at c.compare.ensures

pub loop-left-init : goal.loop-left-init
unfolding cost_in
loop-left-init c = let a = c.args in
    let s = size_in a.limits a.c.now (group_in a.limits Listing a.c.now (compared a.name.now)) in
    let z : spent_in a.limits Listing a.c.now (compared a.name.now) s ≡ halvings_in a.limits Listing a.c.now (compared a.name.now) = omega arith in (
      omega (arith, c.group_for-group.ensures.1),
      rw (c.group_for-group.ensures.0, c.group_for-group.ensures.1)
          (ap (λ (n : ℕ). find_from a.limits a.c.now (compared a.name.now) n s (group_at Listing a.c.now (group_in a.limits Listing a.c.now (compared a.name.now)))) z),
    )

pub spent-requires : goal.spent-requires
spent-requires c = room (goal.at.spent-requires c).After-group_for-group _ (omega (arith, c.loop-left.invariant.0))

pub returns-in_default : goal.returns-in_default
returns-in_default c =
    let a = c.args in
    ended _ _ None _ (c.spent.ensures ∙ spent_told (goal.at.returns-in_default c).After-group_for-group c.loop-left.left)
    (sym (find_bad a.limits a.c.now (compared a.name.now) (spent_in a.limits Listing a.c.now (compared a.name.now) c.loop-left.left) c.loop-left.left c.loop-left.at c.loop-left-test.true (read_bad (goal.at.returns-in_default c).In_default)) ∙ c.loop-left.invariant.1)

pub overflow_add-start : goal.overflow_add-start
overflow_add-start c = omega (arith, (name_inside (goal.at.overflow_add-start c).In-Some).name)

pub slice_bounds-compare-end : goal.slice_bounds-compare-end
slice_bounds-compare-end c = omega (arith, (name_inside (goal.at.slice_bounds-compare-end c).In-Some).name)

pub spent-requires-in-Less : goal.spent-requires-in-Less
spent-requires-in-Less c = room (goal.at.spent-requires-in-Less c).After-group_for-group _ (omega (arith, c.loop-left.invariant.0))

pub returns-in-Less : goal.returns-in-Less
returns-in-Less c =
    let a = c.args in
    let t = c.loop-left-test.true in
    ended _ _ None _ (c.spent-in-Less.ensures ∙ spent_told (goal.at.returns-in-Less c).After-group_for-group (c.loop-left.left - 1))
    (sym (find_above a.limits a.c.now (compared a.name.now) (spent_in a.limits Listing a.c.now (compared a.name.now) c.loop-left.left) c.loop-left.left c.loop-left.at c.in-Some.e t (read_is (goal.at.returns-in-Less c).In-Some) _
    (spent_next a.limits Listing a.c.now (compared a.name.now) c.loop-left.left t c.loop-left.invariant.0) (sym (compared_is (goal.at.returns-in-Less c).After-compare) ∙ c.in-Less.is)) ∙ c.loop-left.invariant.1)

pub spent-requires-in-Equal : goal.spent-requires-in-Equal
spent-requires-in-Equal c = room (goal.at.spent-requires-in-Equal c).After-group_for-group _ (omega (arith, c.loop-left.invariant.0))

pub returns-in-Equal : goal.returns-in-Equal
returns-in-Equal c =
    let a = c.args in
    let t = c.loop-left-test.true in
    ended _ _ (Some c.in-Some.e) _ (c.spent-in-Equal.ensures ∙ spent_told (goal.at.returns-in-Equal c).After-group_for-group (c.loop-left.left - 1))
    (sym (find_here a.limits a.c.now (compared a.name.now) (spent_in a.limits Listing a.c.now (compared a.name.now) c.loop-left.left) c.loop-left.left c.loop-left.at c.in-Some.e t (read_is (goal.at.returns-in-Equal c).In-Some) _
    (spent_next a.limits Listing a.c.now (compared a.name.now) c.loop-left.left t c.loop-left.invariant.0) (sym (compared_is (goal.at.returns-in-Equal c).After-compare) ∙ c.in-Equal.is)) ∙ c.loop-left.invariant.1)

pub loop-left-preserved : goal.loop-left-preserved
loop-left-preserved c =
    let a = c.args in
    let t = c.loop-left-test.true in (
      omega (arith, c.loop-left.invariant.0),
      sym (find_on a.limits a.c.now (compared a.name.now) (spent_in a.limits Listing a.c.now (compared a.name.now) c.loop-left.left) c.loop-left.left c.loop-left.at c.in-Some.e t (read_is (goal.at.loop-left-preserved c).In-Some) _
          (spent_next a.limits Listing a.c.now (compared a.name.now) c.loop-left.left t c.loop-left.invariant.0) (sym (compared_is (goal.at.loop-left-preserved c).After-compare) ∙ c.in-Greater.is)) ∙ c.loop-left.invariant.1,
    )

pub spent-requires-2 : goal.spent-requires-2
spent-requires-2 c = room (goal.at.spent-requires-2 c).After-group_for-group _ (omega (arith, c.loop-left.invariant.0))

pub returns : goal.returns
returns c =
    let a = c.args in
    ended _ _ None _ (c.spent-2.ensures ∙ spent_told (goal.at.returns c).After-group_for-group c.loop-left.left)
    (sym (find_end a.limits a.c.now (compared a.name.now) (spent_in a.limits Listing a.c.now (compared a.name.now) c.loop-left.left) c.loop-left.left c.loop-left.at c.loop-left-test.false) ∙ c.loop-left.invariant.1)
