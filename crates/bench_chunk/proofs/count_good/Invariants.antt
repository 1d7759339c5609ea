use Rattle.std.proofs.Common.{◌≡◌, length}
use Rattle.bench_chunk.proofs.count_good.Given as goal

abbrev pub invariant-loop-i : goal.invariant-loop-i
invariant-loop-i l = length l.buf ≡ length l.initial.buf
