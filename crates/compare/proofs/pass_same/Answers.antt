use Rattle.compare.proofs.Passing.{passed_none}
use Rattle.compare.proofs.pass_same.Goals as goal

pub returns-then-not-record_fits : goal.returns-then-not-record_fits
returns-then-not-record_fits c = passed_none _ _ _ _ _

pub returns-then-not-record_fits-2 : goal.returns-then-not-record_fits-2
returns-then-not-record_fits-2 c = passed_none _ _ _ _ _
