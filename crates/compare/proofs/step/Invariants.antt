-- The invariant: the step at the cursor that was come to is the step asked for.
use Rattle.fields.proofs.Base.{◌≡◌}
use Rattle.walk.specs.Walk.{weight}
use Rattle.compare.specs.Compare.{compare_step}
use Rattle.compare.proofs.step.Given as goal

abbrev pub invariant-loop-step : goal.invariant-loop-step
invariant-loop-step l = compare_step l.file1 l.one l.file2 l.two l.at ≡ compare_step l.file1 l.one l.file2 l.two l.initial.at

abbrev pub decreases-loop-step : goal.decreases-loop-step
decreases-loop-step l = weight l.at.first
