use mathlib.Core.Path.{ap}
use lib.ListN.{length}
use Rattle.hodsplinter.proofs.hods_part.Goals as goal

pub returns : goal.returns
returns c = ap length c.part.ensures
