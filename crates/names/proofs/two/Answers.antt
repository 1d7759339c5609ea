use Rattle.fields.proofs.Base.{◌+◌, arith}
use Rattle.fields.specs.Le.{le}
use Rattle.names.proofs.two.Goals as goal

pub returns : goal.returns
unfolding le
returns c = let i = c.args.i in
    record { is = omega arith; below = omega (arith, (c.type_inv.s i).fits, (c.type_inv.s (i + 1)).fits) }
