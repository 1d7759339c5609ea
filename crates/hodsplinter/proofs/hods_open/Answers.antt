use Rattle.hodsplinter.proofs.hods_open.Goals as goal

pub returns : goal.returns
returns c =
    let t = c.tell_opened.ensures in
    record { answer = rw c.open.ensures at t.code; numbers = rw c.open.ensures at t.numbers }
