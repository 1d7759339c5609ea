use Rattle.fields.proofs.Base.{arith}
use Rattle.fields.proofs.Le.{le_split}
use Rattle.names.proofs.eight.Goals as goal

pub returns : goal.returns
returns c = let a = c.args in
    let e = le_split 4 4 a.s.now a.i in
    omega (arith, e, c.four.ensures.is, c.four-2.ensures.is)
