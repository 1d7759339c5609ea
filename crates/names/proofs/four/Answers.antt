use Rattle.fields.proofs.Base.{arith}
use Rattle.fields.proofs.Le.{le_split}
use Rattle.names.proofs.four.Goals as goal

pub returns : goal.returns
returns c = let a = c.args in
    let e = le_split 2 2 a.s.now a.i in
    record { is = omega (arith, e, c.two.ensures.is, c.two-2.ensures.is); below = omega (arith, c.two.ensures.below, c.two-2.ensures.below) }
