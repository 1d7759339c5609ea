use Rattle.fields.proofs.Base.{le-ltb, arith, ◌-◌}
use Rattle.quickref.specs.Quickref.{nth_in}
use Rattle.quickref.proofs.last_entry.Goals as goal

pub returns-then-total-lt1 : goal.returns-then-total-lt1
unfolding nth_in
returns-then-total-lt1 c = let r = c.entry_count-total.result in
    rw (← c.entry_count-total.ensures, le-ltb (r - 1) r (omega arith))
