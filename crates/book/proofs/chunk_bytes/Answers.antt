use Rattle.fields.proofs.Base.{sym, add-sub_cancel_left, arith}
use Rattle.fields.proofs.Parts.{part_inside, part_outside}
use Rattle.book.specs.Book.{chunk_bytes, chunk_place}
use Rattle.book.proofs.chunk_bytes.Goals as goal

pub returns-then-chunk_room-number : goal.returns-then-chunk_room-number
unfolding chunk_bytes
returns-then-chunk_room-number c = let a = c.args in
    sym (part_outside a.file.now (chunk_place a.book a.c) 4096 (omega arith))

pub returns : goal.returns
unfolding chunk_bytes
returns c = let a = c.args in
    rw (add-sub_cancel_left, part_inside a.file.now (chunk_place a.book a.c) 4096 (omega arith))
