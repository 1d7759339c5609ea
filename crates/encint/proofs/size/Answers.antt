use Rattle.fields.proofs.Base.{◌-◌, arith}
use Rattle.encint.proofs.Writing.{encoded_none, length_encoded, room, less_step, groups_step, groups_zero}
use Rattle.encint.proofs.size.Goals as goal

pub returns-then-v-gt9223372036854775807 : goal.returns-then-v-gt9223372036854775807
returns-then-v-gt9223372036854775807 c = rw (encoded_none c.args.v (omega arith))

pub loop-w-preserved : goal.loop-w-preserved
loop-w-preserved c = let l = c.loop-w in
    let r = room l.n l.w l.invariant.0 l.invariant.1 c.loop-w-test.true in
    (omega arith, less_step l.n l.w r l.invariant.1, omega (arith, groups_step l.n l.w r c.loop-w-test.true))

pub returns : goal.returns
returns c = let l = c.loop-w in
    omega (arith, length_encoded c.args.v (omega arith), groups_zero (9 - l.n) l.w (omega arith))
