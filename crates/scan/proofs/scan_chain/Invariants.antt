use Rattle.fields.proofs.Base.{◌≡◌, ◌-◌}
use Rattle.lookup.specs.Reply.{reply_to}
use Rattle.scan.specs.Scan.{plain_in}
use Rattle.scan.proofs.Steps.{plain_at}
use Rattle.scan.proofs.scan_chain.Given as goal

-- from the chunk that is reached it comes to the same
abbrev pub invariant-loop : goal.invariant-loop
invariant-loop l = reply_to l.book (plain_at l.file l.book l.name (l.book.count - l.counter) l.c) ≡ reply_to l.book (plain_in l.file l.book l.name)
