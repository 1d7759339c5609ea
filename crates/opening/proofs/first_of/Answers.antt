use Rattle.opening.proofs.Firsts.{first_of_good}
use Rattle.opening.proofs.first_of.Goals as goal

pub returns : goal.returns
returns c = let a = c.args in
    let p = c.requires in
    first_of_good a.file.now a.book p.0 a.c p.1 c.first_entry.result
    (rw (← c.limits.ensures, ← c.chunk_bytes-bytes.ensures, ← c.kind_of.ensures) c.first_entry.ensures)
