use Rattle.fields.proofs.Base.{ap}
use Rattle.turn.specs.Turn.{beside_first}
use Rattle.turn.specs.declared.Turn.TheVariants.{Tell}
use Rattle.turn.proofs.beside_first.Goals as goal

pub returns-in-Err : goal.returns-in-Err
unfolding beside_first
returns-in-Err c = rw (← c.peek.ensures, c.in-Err.is) (ap Tell c.refused_by.ensures)

pub returns-in-Ok-None : goal.returns-in-Ok-None
unfolding beside_first
returns-in-Ok-None c = rw (← c.peek.ensures, c.in-Ok-None.is, c.in-Ok-None.field-0-is) c.only_first.ensures

pub returns-in-Ok-Some : goal.returns-in-Ok-Some
unfolding beside_first
returns-in-Ok-Some c = rw (← c.peek.ensures, c.in-Ok-Some.is, c.in-Ok-Some.field-0-is) c.paired.ensures
