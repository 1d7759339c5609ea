-- `compose::put_run` meets its contract. The loop's invariant: what is left to be written makes the whole.
use Rattle.fields.proofs.Base.{◌≡◌, ◌+◌, ◌≤◌, length, drop, sets}
use Rattle.fields.specs.Part.{part}
use Rattle.compose.proofs.put_run.Given as goal

abbrev pub invariant-loop-i : goal.invariant-loop-i
invariant-loop-i l = (l.i ≤ l.n) × (length l.out ≡ length l.initial.out) × (sets l.out (l.at + l.i) (drop l.i (part l.input l.start l.n)) ≡ sets l.initial.out l.at (part l.input l.start l.n))
