use Rattle.fields.proofs.Base.{eq-eqb, ne_eqb}
use Rattle.layout.specs.Layout.{new_previous}
use Rattle.layout.proofs.previous.Goals as goal

pub returns-then-c-eq0 : goal.returns-then-c-eq0
unfolding new_previous
returns-then-c-eq0 c = rw (eq-eqb c.args.c 0 c.if-c-eq0.true) c.no_chunk.ensures

pub returns : goal.returns
unfolding new_previous
returns c = rw (ne_eqb c.args.c 0 c.if-c-eq0.false)
