-- `compose::put_entries` meets its contract. The loop's invariant: what is taken is written, and with what is yet to be taken is the whole.
use Rattle.fields.proofs.Base.{◌≡◌, length}
use Rattle.compose.proofs.Turns.{Putting}
use Rattle.compose.proofs.put_entries.Given as goal

abbrev pub invariant-loop-e : goal.invariant-loop-e
invariant-loop-e l = (length l.out ≡ length l.initial.out) × Putting l.content l.input l.starts l.kind l.initial.f.left l.initial.f.at l.n l.out l.f

abbrev pub decreases-loop-e : goal.decreases-loop-e
decreases-loop-e l = l.f.left
