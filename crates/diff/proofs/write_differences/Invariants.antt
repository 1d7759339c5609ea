-- The loop ends since the cursor behind a difference has fewer entries to come to.
use Rattle.turn.specs.Turn.{load}
use Rattle.diff.proofs.write_differences.Given as goal

abbrev pub decreases-loop-behind : goal.decreases-loop-behind
decreases-loop-behind g l = load l.at
