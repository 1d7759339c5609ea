-- What the answer on a whole chunk says of its meaning.
use Rattle.chunk.specs.Chunk.{Parsed, bad, listing, index}
use Rattle.chunk.specs.declared.Chunk.{Chunk}
use Rattle.chunk.specs.declared.Chunk.TheVariants.{Listing, Index}
use Rattle.std.specs.Prelude.{Result, Ok, Err}
use Rattle.refusals.specs.declared.Rule.{Rule}

abbrev pub chunk_of : Parsed → Result Chunk Rule
chunk_of (bad n) = Err n
chunk_of (listing prev next es) = Ok (Listing prev next)
chunk_of (index es) = (Ok Index)
