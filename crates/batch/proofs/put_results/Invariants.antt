use Rattle.fields.proofs.Base.{◌-◌, length}
use Rattle.batch.proofs.Results.{Left}
use Rattle.batch.proofs.put_results.Given as goal

abbrev pub invariant-loop-at : goal.invariant-loop-at
invariant-loop-at l = Left l.file l.book l.names l.initial.out l.out l.at l.to

abbrev pub decreases-loop-at : goal.decreases-loop-at
decreases-loop-at l = length l.names - l.at
