-- `encint::size` meets its contract. The loop's invariant: the groups counted and those that are left make all.
use Rattle.fields.proofs.Base.{◌≡◌, ◌+◌, ◌-◌, ◌/◌, ◌^◌, ◌≤◌, ◌<◌}
use Rattle.encint.specs.Encint.{seven_bit_groups}
use Rattle.encint.proofs.size.Given as goal

abbrev pub invariant-loop-w : goal.invariant-loop-w
invariant-loop-w l = (l.n ≤ 9) × (l.w < 128 ^ (9 - l.n)) × (seven_bit_groups 8 (l.v / 128) + 1 ≡ l.n + seven_bit_groups (9 - l.n) l.w)

abbrev pub decreases-loop-w : goal.decreases-loop-w
decreases-loop-w l = l.w
