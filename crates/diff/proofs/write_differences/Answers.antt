use Rattle.std.proofs.Common.{sym, ◌∙◌}
use Rattle.turn.specs.Turn.{load}
use Rattle.diff.proofs.Ending.{next_lighter}
use Rattle.diff.proofs.write_differences.Goals as goal

pub loop-behind-smaller : goal.loop-behind-smaller
loop-behind-smaller g c = next_lighter (load c.loop-behind.at) c.step-step.result _ (sym c.write_step.ensures ∙ c.in-Some.is) c.step-step.ensures.ends
