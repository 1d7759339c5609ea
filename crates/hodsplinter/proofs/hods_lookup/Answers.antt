use Rattle.hodsplinter.proofs.hods_lookup.Goals as goal

pub returns : goal.returns
returns c =
    let q = c.record_in.ensures in
    let e = rw q at c.lookup-found.ensures.answer in
    record {
      answer = rw e at c.tell_lookup.ensures.code;
      trail = rw q at c.lookup-found.ensures.places;
      numbers = rw e at c.tell_lookup.ensures.numbers;
    }
