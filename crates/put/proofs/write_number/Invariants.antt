-- `fields::write_number` meets its contract. The loop's invariant: what is left to be written makes the whole.
use Rattle.fields.proofs.Base.{◌≡◌, ◌+◌, ◌-◌, ◌≤◌, length, sets}
use Rattle.fields.specs.Le.{bytes}
use Rattle.put.proofs.write_number.Given as goal

abbrev pub invariant-loop-i : goal.invariant-loop-i
invariant-loop-i l = (l.i ≤ l.k) × (length l.out ≡ length l.initial.out) × (sets l.out (l.at + l.i) (bytes (l.k - l.i) l.x) ≡ sets l.initial.out l.at (bytes l.k l.v))
