use Rattle.numbers.proofs.Owned.{own_told}
use Rattle.hodsplinter.proofs.hods_own.Goals as goal

pub returns : goal.returns
returns c =
    let e = rw (c.record_in.ensures, c.cursor_in-at.ensures) at c.own-own.ensures.bytes in
    let b = rw (c.record_in.ensures, c.cursor_in-at.ensures) at c.own-own.ensures.beside in
    let t = c.tell_own.ensures in
    record { answer = rw e at t.code; numbers = rw e at t.numbers; step = own_told _ _ _ _ _ b t.code }
