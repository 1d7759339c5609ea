use Rattle.fields.proofs.Base.{arith, eq-eqb, ne_eqb}
use Rattle.layout.specs.Layout.{new_root}
use Rattle.layout.proofs.root_chunk.Goals as goal

pub returns-then-depth-eq1 : goal.returns-then-depth-eq1
unfolding new_root
returns-then-depth-eq1 c = rw (eq-eqb c.args.depth 1 c.if-depth-eq1.true) c.no_chunk.ensures

pub returns-then-count-eq0 : goal.returns-then-count-eq0
unfolding new_root
returns-then-count-eq0 c = rw (ne_eqb c.args.depth 1 c.if-depth-eq1.false) (omega arith)

pub returns : goal.returns
unfolding new_root
returns c = rw (ne_eqb c.args.depth 1 c.if-depth-eq1.false)
