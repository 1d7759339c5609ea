use mathlib.Core.Path.{refl}
use Rattle.hodsplinter.proofs.hods_compare_start.Goals as goal

pub returns : goal.returns
returns c = record { answer = refl; cursor = rw (c.start-at.ensures.answer, c.record_in.ensures, c.record_in-2.ensures) at c.walks_numbers.ensures }
