use Rattle.fields.proofs.Base.{lt-ltb, le-ltb, arith}
use Rattle.chunk.proofs.Quick.{capped}
use Rattle.quickref.specs.Quickref.{nth_in}
use Rattle.quickref.proofs.nth_entry.Goals as goal

pub returns-then-total-i : goal.returns-then-total-i
unfolding nth_in
returns-then-total-i c = let a = c.args in
    rw (← c.entry_count-total.ensures, le-ltb a.i c.entry_count-total.result (omega arith))

pub returns : goal.returns
unfolding nth_in
returns c = let n = c.spacing-n in
    let a = c.args in
    let same = capped a.limits.density in
    rw (← c.entry_count-total.ensures, lt-ltb a.i c.entry_count-total.result (omega arith), ← same.words a.i (omega arith), ← same.rests a.i (omega arith), ← n.ensures, ← c.group_at.ensures)
    c.entry_behind.ensures
