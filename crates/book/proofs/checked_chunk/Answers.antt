use Rattle.fields.proofs.Base.{le-ltb, lt-ltb, arith}
use Rattle.book.specs.Book.{directory_of, checked_chunk}
use Rattle.book.proofs.checked_chunk.Goals as goal

pub returns-then-book-c : goal.returns-then-book-c
unfolding checked_chunk
returns-then-book-c c = let a = c.args in rw (le-ltb a.c a.book.count (omega arith))

pub returns : goal.returns
unfolding checked_chunk directory_of
returns c = let a = c.args in
    rw (lt-ltb a.c a.book.count (omega arith), ← c.limits.ensures, ← c.chunk_bytes.ensures) c.check.ensures
