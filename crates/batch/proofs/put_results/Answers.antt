use Rattle.fields.proofs.Base.{◌≡◌, sym, ap, ◌∙◌, ◌+◌, ◌≤◌, ◌<◌, add-sub_cancel_left, arith, length, sets, Some}
use Rattle.batch.specs.Batch.{asked_at, result_of}
use Rattle.batch.proofs.Asked.{asked_inside}
use Rattle.batch.proofs.Results.{left_end, left_cut, left_room, left_turn}
use Rattle.batch.proofs.put_results.Goals.{In-Some}
use Rattle.batch.proofs.put_results.Goals as goal

-- the request that is read, and what there is room for
read_is : (c : In-Some) → asked_at c.args.names.now c.loop-at.at ≡ Some (c.in-Some.n, c.in-Some.start)
read_is c = sym c.asked_at.ensures ∙ c.in-Some.is

inside : (c : In-Some) → (c.loop-at.at < c.in-Some.start) × (c.in-Some.start + c.in-Some.n ≤ length c.args.names.now) × (c.loop-at.to + 32 ≤ length c.loop-at.out)
inside c =
    let a = c.args in
    let i = asked_inside _ _ _ _ (read_is c) in
    (i.0, i.1, left_room a.file.now a.book a.names.now _ _ _ _ c.loop-at.invariant c.loop-at-test.true _ _ (read_is c))

pub returns-in_default : goal.returns-in_default
returns-in_default c = let a = c.args in
    left_cut a.file.now a.book a.names.now a.out.now c.loop-at.out c.loop-at.at c.loop-at.to c.loop-at.invariant c.loop-at-test.true
    (sym c.asked_at.ensures ∙ c.in_default.is)

pub overflow_add-start : goal.overflow_add-start
overflow_add-start c = omega (arith, inside (goal.at.overflow_add-start c).In-Some)

pub slice_bounds-fetch-end : goal.slice_bounds-fetch-end
slice_bounds-fetch-end c = omega (arith, inside (goal.at.slice_bounds-fetch-end c).In-Some)

pub put_result-requires : goal.put_result-requires
put_result-requires c = (inside (goal.at.put_result-requires c).In-Some).2

pub loop-at-smaller : goal.loop-at-smaller
loop-at-smaller c = omega (arith, inside (goal.at.loop-at-smaller c).In-Some)

pub loop-at-preserved : goal.loop-at-preserved
loop-at-preserved c =
    let a = c.args in
    left_turn a.file.now a.book a.names.now a.out.now c.loop-at.out c.loop-at.at c.loop-at.to c.loop-at.invariant c.loop-at-test.true _ _ (read_is (goal.at.loop-at-preserved c).In-Some) _
    (c.put_result.ensures ∙ ap (λ r. sets c.loop-at.out c.loop-at.to (result_of r)) (simp add-sub_cancel_left at c.fetch.ensures.answer))

pub returns : goal.returns
returns c = let a = c.args in
    left_end a.file.now a.book a.names.now a.out.now c.loop-at.out c.loop-at.at c.loop-at.to c.loop-at.invariant c.loop-at-test.false
