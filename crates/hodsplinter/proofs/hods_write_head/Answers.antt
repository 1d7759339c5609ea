use Rattle.hodsplinter.proofs.hods_write_head.Goals as goal

pub returns : goal.returns
returns c =
    let w = c.write_head-told.ensures in
    let t = c.tell_written.ensures in
    record { answer = rw w.answer at t.code; output = rw (← w.answer) w.output; numbers = rw w.answer at t.numbers }
