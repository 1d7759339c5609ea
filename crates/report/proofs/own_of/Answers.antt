use Rattle.report.specs.Report.{own_at}
use Rattle.report.proofs.own_of.Goals as goal

pub returns : goal.returns
unfolding own_at
returns c = rw (c.place_in.ensures, c.distance.ensures)
