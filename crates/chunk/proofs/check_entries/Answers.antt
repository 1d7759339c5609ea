use Rattle.fields.proofs.Base.{eq-eqb, ne_eqb, ◌≡◌, sym, ◌∙◌, cond, [], arith, add-sub_cancel_left, ◌+◌, ◌*◌, eqb, Some, Err}
use Rattle.entries.specs.Entry.{item_at}
use Rattle.entries.proofs.Laws.{Inside, item_inside}
use Rattle.chunk_fields.specs.ChunkFields.{first_place}
use Rattle.chunk.specs.Chunk.{entries_at, parsed_with, checked_entries}
use Rattle.chunk.specs.Answer.{chunk_of}
use Rattle.chunk.proofs.Quick.{mark_right_lem}
use Rattle.chunk.proofs.Turn.{at_start, turn, turn_bad, at_end}
use Rattle.chunk.proofs.check_entries.Goals.{In-Some, After-loop-left}
use Rattle.chunk.proofs.check_entries.Goals as goal
use Rattle.refusals.specs.declared.Rule.TheVariants.{BadEntry, QuickWords, NameOrder}

-- the entry that is read, and that its parts are inside the chunk
read_is : (c : In-Some) → let a = c.args in item_at a.limits a.kind a.c.now c.loop-left.at ≡ Some c.in-Some.e
read_is c = sym c.item_at.ensures ∙ c.in-Some.is

read_inside : (c : In-Some) → Inside c.args.c.now c.loop-left.at c.in-Some.e
read_inside c = item_inside _ _ _ _ _ (read_is c)

-- behind the last entry
ended : (c : After-loop-left) → let l = c.loop-left in let a = c.args in
    cond (eqb l.at a.end) (cond l.rises (cond l.quick (chunk_of (parsed_with a.kind a.c.now [])) (Err QuickWords)) (Err NameOrder)) (Err BadEntry)
    ≡ chunk_of (checked_entries a.n a.kind a.c.now (entries_at a.limits a.kind a.c.now a.end a.total (first_place a.kind)))
ended c =
    let l = c.loop-left in
    let a = c.args in
    sym (at_end a.n a.kind a.c.now a.limits a.end l.rises l.quick _ l.left l.at l.last.now c.loop-left-test.false)
    ∙ l.invariant.2

pub loop-left-init : goal.loop-left-init
loop-left-init c = let a = c.args in
    let z : 0 * a.n + 0 ≡ 0 = omega arith in (
      omega arith,
      omega arith,
      rw (z, c.first_place-first.ensures) (at_start a.n a.kind a.c.now (entries_at a.limits a.kind a.c.now a.end a.total (first_place a.kind))),
    )

pub returns-in_default : goal.returns-in_default
returns-in_default c = let l = c.loop-left in
    let a = c.args in
    turn_bad a.n a.kind a.c.now a.limits a.end l.rises l.quick _ l.left l.at l.last.now
    c.loop-left-test.true (sym c.item_at.ensures ∙ c.in_default.is)
    ∙ l.invariant.2

pub overflow_add-name : goal.overflow_add-name
overflow_add-name c = omega (arith, (read_inside (goal.at.overflow_add-name c).In-Some).name)

pub slice_bounds-name-end : goal.slice_bounds-name-end
slice_bounds-name-end c = (read_inside (goal.at.slice_bounds-name-end c).In-Some).name

pub loop-left-preserved : goal.loop-left-preserved
loop-left-preserved c =
    let l = c.loop-left in
    let a = c.args in
    let w = l.m.word in
    let p = l.m.past in
    let place = c.in-Some.e in (
      c.next_mark-m.ensures.0,
      omega (arith, c.next_mark-m.ensures.1),
      rw (
        c.next_mark-m.ensures.1,
        c.still_rises-rises.ensures,
        add-sub_cancel_left,
        c.still_quick-quick.ensures,
        c.first_place-first.ensures,
        ← mark_right_lem a.n w p l.invariant.0 a.c.now (first_place a.kind) place.at,
      )
          (sym (turn a.n a.kind a.c.now a.limits a.end l.rises l.quick (w * a.n + p) l.left l.at l.last.now place c.loop-left-test.true (read_is (goal.at.loop-left-preserved c).In-Some))
          ∙ l.invariant.2),
    )

pub returns-then-at-end : goal.returns-then-at-end
returns-then-at-end c =
    simp (ne_eqb _ _ c.if-at-end.true) at (ended (goal.at.returns-then-at-end c).After-loop-left)

pub returns-then-not-rises : goal.returns-then-not-rises
returns-then-not-rises c =
    simp (eq-eqb _ _ c.if-at-end.false, c.if-not-rises.true) at (ended (goal.at.returns-then-not-rises c).After-loop-left)

pub returns-then-not-quick : goal.returns-then-not-quick
returns-then-not-quick c =
    simp (eq-eqb _ _ c.if-at-end.false, c.if-not-rises.false, c.if-not-quick.true) at (ended (goal.at.returns-then-not-quick c).After-loop-left)

pub returns : goal.returns
returns c =
    c.good_chunk.ensures
    ∙ simp (eq-eqb _ _ c.if-at-end.false, c.if-not-rises.false, c.if-not-quick.false) at (ended (goal.at.returns c).After-loop-left)
