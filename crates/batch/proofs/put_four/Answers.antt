use Rattle.batch.proofs.Results.{four_puts}
use Rattle.batch.proofs.put_four.Goals as goal

pub returns : goal.returns
returns c = let a = c.args in
    four_puts a.out.now c.put64.new.out c.put64-2.new.out c.put64-3.new.out c.put64-4.new.out
    a.at a.status a.section a.offset a.size c.requires
    c.put64.ensures.written c.put64-2.ensures.written c.put64-3.ensures.written c.put64-4.ensures.written
