-- The loop ends since behind each entry the walk has fewer entries to come to.
use Rattle.walk.specs.Walk.{weight}
use Rattle.list.proofs.write_entries.Given as goal

abbrev pub decreases-loop-e : goal.decreases-loop-e
decreases-loop-e g l = weight l.at
