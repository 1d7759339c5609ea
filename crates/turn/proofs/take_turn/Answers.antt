use Rattle.fields.proofs.Base.{ap}
use Rattle.turn.specs.Turn.{turned}
use Rattle.turn.specs.declared.Turn.TheVariants.{Tell}
use Rattle.turn.proofs.take_turn.Goals as goal

pub returns-in-Err : goal.returns-in-Err
unfolding turned
returns-in-Err c = rw (← c.peek.ensures, c.in-Err.is) (ap Tell c.refused_by.ensures)

pub returns-in-Ok-None : goal.returns-in-Ok-None
unfolding turned
returns-in-Ok-None c = rw (← c.peek.ensures, c.in-Ok-None.is, c.in-Ok-None.field-0-is) c.behind_first.ensures

pub returns-in-Ok-Some : goal.returns-in-Ok-Some
unfolding turned
returns-in-Ok-Some c = rw (← c.peek.ensures, c.in-Ok-Some.is, c.in-Ok-Some.field-0-is) c.beside_first.ensures
