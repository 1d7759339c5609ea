use Rattle.opening.proofs.is_before.Goals as goal

pub returns : goal.returns
returns c = rw (← c.first_name.ensures) c.is_below.ensures
