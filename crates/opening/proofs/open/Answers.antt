use Rattle.fields.proofs.Base.{sym}
use Rattle.header.proofs.Accepted.{header_accepted}
use Rattle.opening.proofs.open.Goals as goal

pub open_chunks-requires : goal.open_chunks-requires
open_chunks-requires c = (header_accepted _ _ (sym c.in_ok-book.ensures)).count_high
