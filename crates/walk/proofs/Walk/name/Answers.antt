use Rattle.walk.specs.Walk.{name_here}
use Rattle.walk.proofs.Walk.name.Goals as goal

pub returns : goal.returns
unfolding name_here
returns c = rw (← c.chunk_bytes.ensures) c.part.ensures
