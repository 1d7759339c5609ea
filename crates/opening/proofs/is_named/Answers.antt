use Rattle.opening.proofs.is_named.Goals as goal

pub returns : goal.returns
returns c = rw (← c.first_name.ensures) c.equal.ensures
