use Rattle.fields.proofs.Base.{le-leb, lt-leb, ◌+◌, arith}
use Rattle.book.specs.Book.{chunk_place}
use Rattle.report.proofs.place_in.Goals as goal

pub returns-then-len-first : goal.returns-then-len-first
returns-then-len-first c = let a = c.args in rw (lt-leb (chunk_place a.book a.c + a.start) a.len (omega arith))

pub returns-then-len-first-lt84 : goal.returns-then-len-first-lt84
returns-then-len-first-lt84 c = let a = c.args in rw (lt-leb (chunk_place a.book a.c + a.start) a.len (omega arith))

pub returns-then-room-c : goal.returns-then-room-c
returns-then-room-c c = let a = c.args in rw (lt-leb (chunk_place a.book a.c + a.start) a.len (omega arith))

pub returns-then-room-c-2 : goal.returns-then-room-c-2
returns-then-room-c-2 c = let a = c.args in rw (lt-leb (chunk_place a.book a.c + a.start) a.len (omega arith))

pub returns : goal.returns
returns c = let a = c.args in rw (le-leb (chunk_place a.book a.c + a.start) a.len (omega arith))
