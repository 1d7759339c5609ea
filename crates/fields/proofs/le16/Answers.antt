use Rattle.fields.proofs.Base.{arith}
use Rattle.fields.specs.Le.{le}
use Rattle.fields.proofs.le16.Goals as goal

pub returns-then-s-at-gt1 : goal.returns-then-s-at-gt1
unfolding le
returns-then-s-at-gt1 c = omega arith
