use Rattle.fields.proofs.Base.{◌≡◌, refl, sym, ap, ap₂, ◌∙◌, ℕ, ◌+◌, ◌-◌, ◌≤◌, ◌<◌, add-sub_cancel_left, arith, length, Option, Some, None}
use Rattle.fields.specs.Part.{part}
use Rattle.fields.proofs.Le.{le_lt}
use Rattle.names.specs.Names.{compared}
use Rattle.entries.specs.Entry.{index_at, item_at, with_item}
use Rattle.entries.proofs.Laws.{name_next, index_broken, index_wide, index_whole}
use Rattle.entries.specs.declared.Kind.TheVariants.{Index}
use Rattle.chunk_fields.specs.ChunkFields.{count_place}
use Rattle.quickref.specs.Quickref.{group_at}
use Rattle.halving.specs.Halving.{group_in, size_in}
use Rattle.halving.specs.Halvings.{halvings_in}
use Rattle.seek.specs.Seek.{choose_in, child_of}
use Rattle.seek.specs.Count.{cost_in}
use Rattle.seek.specs.declared.Searched.{Searched}
use Rattle.seek.proofs.Counts.{spent_in, spent_next, spent_is, spent_fits}
use Rattle.seek.proofs.Steps.{choose_from, choose_end, choose_unnamed, choose_above, choose_equal, choose_barred, choose_on}
use Rattle.seek.proofs.choose.Goals.{After-group_for-group, In-Some, After-compare, After-read}
use Rattle.seek.proofs.choose.Goals as goal
use Rattle.entries.specs.declared.Place.{Place}

-- the child of what was chosen, beside the count
abbrev child_from : Searched (Option Place) → Searched (Option ℕ)
child_from r = record { answer = child_of r.answer; count = r.count }

-- the search ends with the best child
ended : (r : Searched (Option ℕ)) (best : Option ℕ) (h : Option Place) (n m : ℕ) (w : Searched (Option Place)) → r ≡ record { answer = best; count = n } → n ≡ m → best ≡ child_of h
    → record { answer = h; count = m } ≡ w → r ≡ child_from w
ended r best h n m w e p b q = e ∙ ap₂ (λ (x : Option ℕ) (y : ℕ). record { answer = x; count = y }) b p ∙ ap child_from q

-- what the code says was compared, and that it fits
spent_told : (c : After-group_for-group) (left : ℕ) → let a = c.args in
    c.group_for-group.result.count + (c.group_for-group.result.size - left) ≡ spent_in a.limits Index a.c.now (compared a.name.now) left
spent_told c left =
    let a = c.args in
    spent_is a.limits Index a.c.now (compared a.name.now) _ _ c.group_for-group.ensures.1 c.group_for-group.ensures.2 left

room : (c : After-group_for-group) (left : ℕ) → let a = c.args in left ≤ size_in a.limits a.c.now (group_in a.limits Index a.c.now (compared a.name.now))
    → (left ≤ c.group_for-group.result.size) × (c.group_for-group.result.size < 65536) × (c.group_for-group.result.count < 65536)
room c left h =
    let a = c.args in
    spent_fits a.limits Index a.c.now (compared a.name.now) _ _ c.group_for-group.ensures.1 c.group_for-group.ensures.2
    (le_lt a.c.now (λ j. (c.type_inv.c j).fits) 2 count_place) left h

-- the name that was read lies inside the chunk
inside : (c : In-Some) → c.in-Some.from + c.in-Some.n ≤ length c.args.c.now
inside c = (name_next _ _ _ _ (sym c.in-Some.ensures)).2

-- how the asked name stands to it
compared_is : (c : After-compare) → let a = c.args in c.compare.result ≡ compared a.name.now (part a.c.now c.in-Some.from c.in-Some.n)
compared_is c = simp add-sub_cancel_left at c.compare.ensures

-- an entry whose name is below, with no good child behind it, ends the search with what was best before
barred_is : (c : After-read) (x : Searched (Option ℕ)) → let a = c.args in let g = c.group_for-group.result in
    x ≡ record { answer = c.loop-left.best; count = g.count + (g.size - (c.loop-left.left - 1)) } → item_at a.limits Index a.c.now c.loop-left.at ≡ None
    → x ≡ child_from (record { answer = choose_in a.limits a.c.now (compared a.name.now); count = cost_in a.limits Index a.c.now (compared a.name.now) })
barred_is c x e g =
    let a = c.args in
    let i = c.loop-left.invariant in
    let told = spent_is a.limits Index a.c.now (compared a.name.now) _ _ c.group_for-group.ensures.1 c.group_for-group.ensures.2 (c.loop-left.left - 1) in
    let order : c.compare.result ≡ compared a.name.now (part a.c.now c.in-Some.from c.in-Some.n) = simp add-sub_cancel_left at c.compare.ensures in
    ended _ _ _ _ _ _ e told i.1
    (sym (choose_barred a.limits a.c.now (compared a.name.now) i.0 (spent_in a.limits Index a.c.now (compared a.name.now) c.loop-left.left) c.loop-left.left c.loop-left.at _ _ c.loop-left-test.true (sym c.in-Some.ensures) _
    (spent_next a.limits Index a.c.now (compared a.name.now) c.loop-left.left c.loop-left-test.true i.3) (sym order ∙ c.in-Greater.is) g) ∙ i.2)

pub loop-left-init : goal.loop-left-init
unfolding cost_in
loop-left-init c = let a = c.args in
    let s = size_in a.limits a.c.now (group_in a.limits Index a.c.now (compared a.name.now)) in
    let z : spent_in a.limits Index a.c.now (compared a.name.now) s ≡ halvings_in a.limits Index a.c.now (compared a.name.now) = omega arith in (
      None,
      refl,
      rw (c.group_for-group.ensures.0, c.group_for-group.ensures.1)
          (ap (λ (n : ℕ). choose_from a.limits a.c.now (compared a.name.now) None n s (group_at Index a.c.now (group_in a.limits Index a.c.now (compared a.name.now)))) z),
      omega (arith, c.group_for-group.ensures.1),
    )

pub child_of-requires : goal.child_of-requires
child_of-requires c = room (goal.at.child_of-requires c).After-group_for-group _ (omega (arith, c.loop-left.invariant.3))

pub returns-in_default : goal.returns-in_default
returns-in_default c =
    let a = c.args in
    let i = c.loop-left.invariant in
    ended _ _ _ _ _ _ c.child_of.ensures (spent_told (goal.at.returns-in_default c).After-group_for-group c.loop-left.left) i.1
    (sym (choose_unnamed a.limits a.c.now (compared a.name.now) i.0 (spent_in a.limits Index a.c.now (compared a.name.now) c.loop-left.left) c.loop-left.left c.loop-left.at c.loop-left-test.true (sym c.name_at.ensures ∙ c.in_default.is)) ∙ i.2)

pub overflow_add-behind : goal.overflow_add-behind
overflow_add-behind c = omega (arith, inside (goal.at.overflow_add-behind c).In-Some)

pub slice_bounds-compare-end : goal.slice_bounds-compare-end
slice_bounds-compare-end c = omega (arith, inside (goal.at.slice_bounds-compare-end c).In-Some)

pub child_of-requires-in-Less : goal.child_of-requires-in-Less
child_of-requires-in-Less c = room (goal.at.child_of-requires-in-Less c).After-group_for-group _ (omega (arith, c.loop-left.invariant.3))

pub returns-in-Less : goal.returns-in-Less
returns-in-Less c =
    let a = c.args in
    let i = c.loop-left.invariant in
    ended _ _ _ _ _ _ c.child_of-in-Less.ensures (spent_told (goal.at.returns-in-Less c).After-group_for-group (c.loop-left.left - 1)) i.1
    (sym (choose_above a.limits a.c.now (compared a.name.now) i.0 (spent_in a.limits Index a.c.now (compared a.name.now) c.loop-left.left) c.loop-left.left c.loop-left.at _ _ c.loop-left-test.true (sym c.in-Some.ensures) _
    (spent_next a.limits Index a.c.now (compared a.name.now) c.loop-left.left c.loop-left-test.true i.3) (sym (compared_is (goal.at.returns-in-Less c).After-compare) ∙ c.in-Less.is)) ∙ i.2)

pub child_of-requires-in-Equal : goal.child_of-requires-in-Equal
child_of-requires-in-Equal c = room (goal.at.child_of-requires-in-Equal c).After-group_for-group _ (omega (arith, c.loop-left.invariant.3))

pub returns-in-Equal : goal.returns-in-Equal
returns-in-Equal c =
    let a = c.args in
    let i = c.loop-left.invariant in
    let e = choose_equal a.limits a.c.now (compared a.name.now) i.0 (spent_in a.limits Index a.c.now (compared a.name.now) c.loop-left.left) c.loop-left.left c.loop-left.at _ _ c.loop-left-test.true (sym c.in-Some.ensures) _
    (spent_next a.limits Index a.c.now (compared a.name.now) c.loop-left.left c.loop-left-test.true i.3) (sym (compared_is (goal.at.returns-in-Equal c).After-compare) ∙ c.in-Equal.is) in
    c.child_of-in-Equal.ensures
    ∙ ap₂ (λ (x : Option ℕ) (m : ℕ). record { answer = x; count = m })
    (c.child_at.ensures ∙ ap (λ x. with_item (index_at a.limits.count a.c.now c.loop-left.at) x (λ e. Some e.child)) i.1 ∙ e.0) (spent_told (goal.at.returns-in-Equal c).After-group_for-group (c.loop-left.left - 1) ∙ e.1)
    ∙ ap child_from i.2

pub child_of-requires-in_default-read : goal.child_of-requires-in_default-read
child_of-requires-in_default-read c = room (goal.at.child_of-requires-in_default-read c).After-group_for-group _ (omega (arith, c.loop-left.invariant.3))

pub returns-in_default-read : goal.returns-in_default-read
returns-in_default-read c =
    let a = c.args in
    barred_is (goal.at.returns-in_default-read c).After-read _ c.child_of-in_default-read.ensures
    (index_broken a.limits a.c.now c.loop-left.at _ _ (sym c.in-Some.ensures) (sym c.read.ensures.number ∙ c.in_default-read.is))

pub child_of-requires-then-limits-child : goal.child_of-requires-then-limits-child
child_of-requires-then-limits-child c = room (goal.at.child_of-requires-then-limits-child c).After-group_for-group _ (omega (arith, c.loop-left.invariant.3))

pub returns-then-limits-child : goal.returns-then-limits-child
returns-then-limits-child c =
    let a = c.args in
    barred_is (goal.at.returns-then-limits-child c).After-read _ c.child_of-then-limits-child.ensures (index_wide a.limits a.c.now c.loop-left.at _ _ (sym c.in-Some.ensures) _ _ (sym c.in-Some-read.ensures.number) c.if-limits-child.true)

pub loop-left-preserved : goal.loop-left-preserved
loop-left-preserved c =
    let read_is : let a = c.args in
    item_at a.limits Index a.c.now c.loop-left.at
    ≡ Some (record { at = c.loop-left.at; start = c.in-Some.from; len = c.in-Some.n; section = 0; offset = 0; size = 0; child = c.in-Some-read.child; next = c.in-Some-read.next }) =
    let a = c.args in
    index_whole a.limits a.c.now c.loop-left.at _ _ (sym c.in-Some.ensures) _ _ (sym c.in-Some-read.ensures.number) c.if-limits-child.false in
    let a = c.args in
    let i = c.loop-left.invariant in (
      Some (record { at = c.loop-left.at; start = c.in-Some.from; len = c.in-Some.n; section = 0; offset = 0; size = 0; child = c.in-Some-read.child; next = c.in-Some-read.next }),
      refl,
      sym (choose_on a.limits a.c.now (compared a.name.now) i.0 (spent_in a.limits Index a.c.now (compared a.name.now) c.loop-left.left) c.loop-left.left c.loop-left.at _ _ c.loop-left-test.true (sym c.in-Some.ensures) _
          (spent_next a.limits Index a.c.now (compared a.name.now) c.loop-left.left c.loop-left-test.true i.3) (sym (compared_is (goal.at.loop-left-preserved c).After-compare) ∙ c.in-Greater.is) _ read_is) ∙ i.2,
      omega (arith, i.3),
    )

pub child_of-requires-2 : goal.child_of-requires-2
child_of-requires-2 c = room (goal.at.child_of-requires-2 c).After-group_for-group _ (omega (arith, c.loop-left.invariant.3))

pub returns : goal.returns
returns c =
    let a = c.args in
    let i = c.loop-left.invariant in
    ended _ _ _ _ _ _ c.child_of-2.ensures (spent_told (goal.at.returns c).After-group_for-group c.loop-left.left) i.1 (sym (choose_end a.limits a.c.now (compared a.name.now) i.0 (spent_in a.limits Index a.c.now (compared a.name.now) c.loop-left.left) c.loop-left.left c.loop-left.at c.loop-left-test.false) ∙ i.2)
