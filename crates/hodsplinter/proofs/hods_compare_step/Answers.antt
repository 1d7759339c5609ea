use Rattle.hodsplinter.proofs.hods_compare_step.Goals as goal

pub returns : goal.returns
returns c =
    let e = rw (c.walks_in-at.ensures, c.record_in.ensures, c.record_in-2.ensures) at c.step-told.ensures.answer in
    let t = c.tell_comparison.ensures in
    record { answer = rw e at t.code; cursor = rw e at t.cursor; numbers = rw e at t.numbers; totals = rw e at t.totals }
