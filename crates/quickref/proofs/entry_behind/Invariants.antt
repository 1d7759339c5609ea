use Rattle.fields.proofs.Base.{◌≡◌, ◌-◌}
use Rattle.quickref.specs.Quickref.{after_at}
use Rattle.quickref.proofs.entry_behind.Given as goal

abbrev pub invariant-loop : goal.invariant-loop
invariant-loop l = after_at l.limits l.kind l.c (l.past - l.counter) l.at ≡ after_at l.limits l.kind l.c l.past l.from
