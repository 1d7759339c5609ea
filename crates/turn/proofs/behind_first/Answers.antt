use Rattle.fields.proofs.Base.{refl, ap}
use Rattle.turn.specs.Turn.{behind_first}
use Rattle.turn.specs.declared.Turn.TheVariants.{Tell}
use Rattle.turn.proofs.behind_first.Goals as goal

pub returns-in-Err : goal.returns-in-Err
unfolding behind_first
returns-in-Err c = rw (← c.peek.ensures, c.in-Err.is) (ap Tell c.refused_by.ensures)

pub returns-in-Ok-None : goal.returns-in-Ok-None
unfolding behind_first
returns-in-Ok-None c = rw (← c.peek.ensures, c.in-Ok-None.is, c.in-Ok-None.field-0-is) refl

pub returns-in-Ok-Some : goal.returns-in-Ok-Some
unfolding behind_first
returns-in-Ok-Some c = rw (← c.peek.ensures, c.in-Ok-Some.is, c.in-Ok-Some.field-0-is) c.only_second.ensures
