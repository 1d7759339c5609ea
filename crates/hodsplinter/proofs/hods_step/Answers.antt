use Rattle.hodsplinter.proofs.hods_step.Goals as goal

pub returns : goal.returns
returns c =
    let e = rw (c.record_in.ensures, c.cursor_in-at.ensures) at c.step-told.ensures in
    let t = c.tell_step.ensures in
    record { answer = rw e at t.code; cursor = rw e at t.cursor; numbers = rw e at t.numbers }
