-- `fold` meets its contract: each way out settles the two tests of the definition.
use Rattle.fields.proofs.Base.{arith, le-leb, lt-leb}
use Rattle.names.specs.Names.{folded}
use Rattle.names.proofs.fold.Goals as goal

pub returns-then-b-le90 : goal.returns-then-b-le90
unfolding folded
returns-then-b-le90 c = let b = c.args.b in rw (le-leb 0x41 b (omega arith), le-leb b 0x5A (omega arith)) (omega arith)

pub returns-else-b-le90 : goal.returns-else-b-le90
unfolding folded
returns-else-b-le90 c = let b = c.args.b in rw (le-leb 0x41 b (omega arith), lt-leb b 0x5A (omega arith))

pub returns-else-b-ge65 : goal.returns-else-b-ge65
unfolding folded
returns-else-b-ge65 c = rw (lt-leb 0x41 c.args.b (omega arith))
