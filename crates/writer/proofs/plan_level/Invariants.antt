use Rattle.fields.proofs.Base.{◌≡◌}
use Rattle.entries.specs.declared.Kind.TheVariants.{Index}
use Rattle.writer.proofs.Planning.{Planning}
use Rattle.writer.proofs.plan_level.Given as goal

abbrev pub invariant-loop-e : goal.invariant-loop-e
invariant-loop-e l = (l.c.kind ≡ Index) × Planning l.content l.input l.n l.base l.end l.initial.starts l.starts l.c.left l.c.at l.j

abbrev pub decreases-loop-e : goal.decreases-loop-e
decreases-loop-e l = l.c.left
