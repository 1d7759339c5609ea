use Rattle.hodsplinter.proofs.hods_chunk_page.Goals as goal

pub returns : goal.returns
returns c =
    let q = c.record_in.ensures in
    let e = rw q at c.chunk_page-page.ensures.answer in
    record {
      answer = rw e at c.tell_page.ensures.code;
      entries = rw q at c.chunk_page-page.ensures.written;
      numbers = rw e at c.tell_page.ensures.numbers;
    }
