use Rattle.page.proofs.Writing.{Left}
use Rattle.page.proofs.put_reports.Given as goal

abbrev pub invariant-loop-i : goal.invariant-loop-i
invariant-loop-i l = Left l.file l.book l.chunk l.initial.out l.out l.at l.i
