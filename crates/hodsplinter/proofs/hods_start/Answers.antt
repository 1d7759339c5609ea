use mathlib.Core.Path.{refl}
use Rattle.hodsplinter.proofs.hods_start.Goals as goal

pub returns : goal.returns
returns c = record { answer = refl; numbers = rw (c.start.ensures, c.record_in.ensures) at c.cursor_numbers.ensures }
