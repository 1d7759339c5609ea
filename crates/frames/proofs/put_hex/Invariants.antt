use Rattle.frames.proofs.Hex.{Left}
use Rattle.frames.proofs.put_hex.Given as goal

abbrev pub invariant-loop-i : goal.invariant-loop-i
invariant-loop-i l = Left l.bytes l.initial.line l.line l.i
