use Rattle.fields.proofs.Base.{◌≡◌, ◌+◌, ◌-◌}
use Rattle.names.specs.Alike.{Reached}
use Rattle.names.proofs.same_up_to.Given as goal

abbrev pub invariant-loop-j : goal.invariant-loop-j
invariant-loop-j l = (l.k ≡ l.at + (l.j - l.from)) × Reached l.a l.b l.from l.at l.end l.j

abbrev pub decreases-loop-j : goal.decreases-loop-j
decreases-loop-j l = l.end - l.j
