-- `compare` meets its contract. The loop's invariant: what is left of the two names compares as the whole names do.
use Rattle.fields.proofs.Base.{◌≡◌, ◌-◌, ◌≤◌, drop}
use Rattle.names.specs.Names.{compared}
use Rattle.names.proofs.compare.Given as goal

abbrev pub invariant-loop-i : goal.invariant-loop-i
invariant-loop-i l = (l.i ≤ l.end) × (compared l.a l.b ≡ compared (drop l.i l.a) (drop l.i l.b))

abbrev pub decreases-loop-i : goal.decreases-loop-i
decreases-loop-i l = l.end - l.i
