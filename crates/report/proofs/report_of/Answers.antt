use Rattle.report.specs.Report.{report_at}
use Rattle.report.proofs.report_of.Goals as goal

pub returns : goal.returns
unfolding report_at
returns c = rw c.place_in.ensures
