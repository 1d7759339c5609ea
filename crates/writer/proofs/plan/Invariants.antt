use Rattle.fields.proofs.Base.{◌≡◌, true, ◌-◌}
use Rattle.entries.specs.declared.Kind.TheVariants.{Listing}
use Rattle.source.specs.Input.{given, input_right}
use Rattle.pack.specs.Levels.{level}
use Rattle.writer.proofs.Shaping.{Shaping}
use Rattle.writer.proofs.plan.Given as goal

abbrev pub invariant-loop-end : goal.invariant-loop-end
invariant-loop-end l = (input_right l.content l.input ≡ true) × Shaping l.content l.input l.n (level l.n Listing (given l.content l.input)) l.m l.starts l.depth l.base l.end

abbrev pub decreases-loop-end : goal.decreases-loop-end
decreases-loop-end l = 6 - l.depth
