use Rattle.fields.proofs.Base.{◌^◌, arith, lt-ltb, le-ltb, le-leb, lt-leb}
use Rattle.writer.specs.Plan.{in_bounds}
use Rattle.writer.proofs.is_taken.Goals as goal

pub returns-then-density-gt7 : goal.returns-then-density-gt7
unfolding in_bounds
returns-then-density-gt7 c = rw (lt-leb c.args.density 7 c.if-density-gt7.true)

pub returns-then-content-gt4611686018427387903 : goal.returns-then-content-gt4611686018427387903
unfolding in_bounds
returns-then-content-gt4611686018427387903 c = rw (le-leb c.args.density 7 c.if-density-gt7.false, le-ltb c.args.content (2 ^ 62) (omega arith))

pub returns : goal.returns
unfolding in_bounds
returns c = rw (le-leb c.args.density 7 c.if-density-gt7.false, lt-ltb c.args.content (2 ^ 62) (omega arith))
