use Rattle.numbers.specs.Numbers.{record_in}
use Rattle.numbers.proofs.Replied.{promised}
use Rattle.hodsplinter.proofs.hods_lookup_opened.Goals as goal

pub returns : goal.returns
returns c =
    let a = c.args in
    let q = c.record_in.ensures in
    let e = rw q at c.fetch-found.ensures.answer in
    let agrees = rw q at c.fetch-found.ensures.agrees in
    let w = promised a.file.now (record_in a.«record».now) a.name.now _ _ a.answer.now _ _ e agrees c.tell_reply.ensures.code c.tell_reply.ensures.numbers in
    record { answer = w.0; numbers = w.1.0; agrees = w.1.1 }
