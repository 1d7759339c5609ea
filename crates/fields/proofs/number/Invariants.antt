-- `fields::number` meets its contract. The loop's invariant: v is the number that the bytes from i on make.
use Rattle.fields.proofs.Base.{◌≡◌, ◌≤◌, ◌-◌, ◌+◌}
use Rattle.fields.specs.Le.{le}
use Rattle.fields.proofs.number.Given as goal

abbrev pub invariant-loop-i : goal.invariant-loop-i
invariant-loop-i l = (l.i ≤ l.k) × (l.v ≡ le (l.k - l.i) l.s (l.at + l.i))
