use Rattle.fields.proofs.Base.{◌≡◌}
use Rattle.writer.proofs.Leveled.{Leveled}
use Rattle.writer.proofs.put_level.Given as goal

abbrev pub invariant-loop-out : goal.invariant-loop-out
invariant-loop-out l = (l.c.kind ≡ l.initial.c.kind) × Leveled l.content l.input l.starts l.initial.c.kind l.n l.m l.initial.c.left l.initial.c.at l.end l.initial.out l.out l.c.left l.c.at l.j

abbrev pub decreases-loop-out : goal.decreases-loop-out
decreases-loop-out l = l.c.left
