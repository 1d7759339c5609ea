use Rattle.search.specs.Search.{child_in}
use Rattle.search.proofs.child_in.Goals as goal

pub returns : goal.returns
unfolding child_in
returns c = rw (← c.limits.ensures, ← c.chunk_bytes-index.ensures) c.choose.ensures
