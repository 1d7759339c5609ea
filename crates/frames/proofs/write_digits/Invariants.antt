use Rattle.fields.proofs.Base.{◌-◌, ◌≤◌, length}
use Rattle.frames.proofs.write_digits.Given as goal

abbrev pub invariant-loop-from : goal.invariant-loop-from
invariant-loop-from g l = l.from ≤ length l.bytes

abbrev pub decreases-loop-from : goal.decreases-loop-from
decreases-loop-from g l = length l.bytes - l.from
