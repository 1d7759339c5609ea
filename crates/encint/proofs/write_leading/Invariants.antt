-- `encint::write_leading` meets its contract. The loop's invariant: what is left to be written makes the whole.
use Rattle.fields.proofs.Base.{◌≡◌, ◌++◌, ◌+◌, ◌≤◌, length, take, drop}
use Rattle.encint.specs.Encint.{leading}
use Rattle.encint.proofs.write_leading.Given as goal

abbrev pub invariant-loop-j : goal.invariant-loop-j
invariant-loop-j l = (l.j ≤ l.n) × (length l.out ≡ length l.initial.out) × (take l.at l.out ++ leading l.j l.x (drop (l.at + l.j) l.out) ≡ take l.at l.initial.out ++ leading l.n l.w (drop (l.at + l.n) l.initial.out))
