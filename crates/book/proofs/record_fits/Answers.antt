use Rattle.fields.proofs.Base.{le-leb, lt-leb, arith}
use Rattle.book.specs.Book.{record_fits}
use Rattle.book.proofs.record_fits.Goals as goal

pub returns-then-book-gt7 : goal.returns-then-book-gt7
unfolding record_fits
returns-then-book-gt7 c = let b = c.args.book in simp (lt-leb b.density 7 (omega arith))

pub returns-then-book-lt1 : goal.returns-then-book-lt1
unfolding record_fits
returns-then-book-lt1 c = let b = c.args.book in simp (le-leb b.density 7 (omega arith), lt-leb 1 b.depth (omega arith))

pub returns-then-book-gt5 : goal.returns-then-book-gt5
unfolding record_fits
returns-then-book-gt5 c = let b = c.args.book in simp (le-leb b.density 7 (omega arith), le-leb 1 b.depth (omega arith), lt-leb b.depth 5 (omega arith))

pub returns-then-book-lt1-2 : goal.returns-then-book-lt1-2
unfolding record_fits
returns-then-book-lt1-2 c = let b = c.args.book in simp (le-leb b.density 7 (omega arith), le-leb 1 b.depth (omega arith), le-leb b.depth 5 (omega arith), lt-leb 1 b.count (omega arith))

pub returns-then-book-gt4096 : goal.returns-then-book-gt4096
unfolding record_fits
returns-then-book-gt4096 c = let b = c.args.book in simp (le-leb b.density 7 (omega arith), le-leb 1 b.depth (omega arith), le-leb b.depth 5 (omega arith), le-leb 1 b.count (omega arith), lt-leb b.count 4096 (omega arith))

pub returns : goal.returns
unfolding record_fits
returns c = let b = c.args.book in simp (le-leb b.density 7 (omega arith), le-leb 1 b.depth (omega arith), le-leb b.depth 5 (omega arith), le-leb 1 b.count (omega arith), le-leb b.count 4096 (omega arith))
