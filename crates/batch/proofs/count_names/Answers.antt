use Rattle.fields.proofs.Base.{◌≡◌, sym, ◌∙◌, ◌+◌, ◌≤◌, ◌<◌, arith, length, Some}
use Rattle.batch.specs.Batch.{asked_at}
use Rattle.batch.proofs.Asked.{asked_inside, counting_start, counting_end, counting_cut, counting_more}
use Rattle.batch.proofs.count_names.Goals.{In_ok-len}
use Rattle.batch.proofs.count_names.Goals as goal

-- the name that is read, which lies inside
read_is : (c : In_ok-len) → asked_at c.args.names.now c.loop-at.at ≡ Some (c.in_ok-len.len, c.in_ok-len.start)
read_is c = sym c.in_ok-len.ensures

inside : (c : In_ok-len) → (c.loop-at.at < c.in_ok-len.start) × (c.in_ok-len.start + c.in_ok-len.len ≤ length c.args.names.now)
inside c = asked_inside _ _ _ _ (read_is c)

pub loop-at-init : goal.loop-at-init
loop-at-init c = counting_start c.args.names.now

pub returns-in_err-len : goal.returns-in_err-len
returns-in_err-len c = c.from_residual.ensures ∙ counting_cut c.args.names.now c.loop-at.n c.loop-at.at c.loop-at.invariant c.loop-at-test.true (sym c.in_err-len.ensures)

pub overflow_add-at : goal.overflow_add-at
overflow_add-at c = omega (arith, inside (goal.at.overflow_add-at c).In_ok-len)

pub loop-at-smaller : goal.loop-at-smaller
loop-at-smaller c = omega (arith, inside (goal.at.loop-at-smaller c).In_ok-len)

pub loop-at-preserved : goal.loop-at-preserved
loop-at-preserved c =
    counting_more c.args.names.now c.loop-at.n c.loop-at.at c.loop-at.invariant _ _ c.loop-at-test.true (read_is (goal.at.loop-at-preserved c).In_ok-len)

pub returns : goal.returns
returns c = counting_end c.args.names.now c.loop-at.n c.loop-at.at c.loop-at.invariant c.loop-at-test.false
