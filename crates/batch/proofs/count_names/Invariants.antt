use Rattle.fields.proofs.Base.{◌-◌, length}
use Rattle.batch.proofs.Asked.{Counting}
use Rattle.batch.proofs.count_names.Given as goal

abbrev pub invariant-loop-at : goal.invariant-loop-at
invariant-loop-at l = Counting l.names l.n l.at

abbrev pub decreases-loop-at : goal.decreases-loop-at
decreases-loop-at l = length l.names - l.at
