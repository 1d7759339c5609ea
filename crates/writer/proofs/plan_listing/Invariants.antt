use Rattle.writer.proofs.Listings.{Reading}
use Rattle.writer.proofs.plan_listing.Given as goal

abbrev pub invariant-loop-e : goal.invariant-loop-e
invariant-loop-e l = Reading l.content l.input l.n l.initial.starts l.starts l.left l.at l.last l.f

abbrev pub decreases-loop-e : goal.decreases-loop-e
decreases-loop-e l = l.left
