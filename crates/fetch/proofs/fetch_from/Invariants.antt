use Rattle.fields.proofs.Base.{◌≡◌, ◌+◌, ◌-◌}
use Rattle.lookup.specs.Reply.{reply_to}
use Rattle.fetch.specs.Fetch.{fetch_at}
use Rattle.fetch.proofs.fetch_from.Given as goal

-- from the chunk that is reached it comes to the same
abbrev pub invariant-loop : goal.invariant-loop
invariant-loop l = reply_to l.book (fetch_at l.file l.book l.name (l.level + 1 - l.counter) l.at) ≡ reply_to l.book (fetch_at l.file l.book l.name l.level l.c)
