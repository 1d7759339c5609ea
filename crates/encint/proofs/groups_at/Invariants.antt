-- `encint::groups_at` meets its contract. The loop's invariant: what is left makes the whole, of a value that stays small.
use Rattle.fields.proofs.Base.{◌≡◌, ◌+◌, ◌-◌, ◌^◌, ◌≤◌, ◌<◌, drop}
use Rattle.encint.specs.Encint.{rest}
use Rattle.encint.proofs.groups_at.Given as goal

-- from place i on, `at + 9 - i` bytes may come
abbrev pub invariant-loop-i : goal.invariant-loop-i
invariant-loop-i l = (l.at ≤ l.i) × (l.i ≤ l.at + 9) × (l.v < 128 ^ (9 - (l.at + 9 - l.i))) × (rest 9 0 l.at (drop l.at l.s) ≡ rest (l.at + 9 - l.i) l.v l.i (drop l.i l.s))
