use Rattle.fields.proofs.Base.{arith, le-leb, lt-leb}
use Rattle.pack.specs.Fill.{row_size, size_of}
use Rattle.pack.proofs.Sizes.{counted}
use Rattle.pack.proofs.entry_size.Goals as goal

pub returns-then-e-gt4096 : goal.returns-then-e-gt4096
unfolding size_of
returns-then-e-gt4096 c = rw (lt-leb c.args.e.len 4096 c.if-e-gt4096.true)

pub overflow_add-name : goal.overflow_add-name
overflow_add-name c = omega (arith, counted _ c.size.ensures)

pub overflow_add-result : goal.overflow_add-result
overflow_add-result c = omega (arith, counted _ c.size.ensures, counted _ c.size-in-Listing.ensures)

pub overflow_add-result-in-Listing : goal.overflow_add-result-in-Listing
overflow_add-result-in-Listing c = omega (arith, counted _ c.size.ensures, counted _ c.size-in-Listing.ensures, counted _ c.size-in-Listing-2.ensures)

pub overflow_add-result-in-Listing-2 : goal.overflow_add-result-in-Listing-2
overflow_add-result-in-Listing-2 c = omega (arith, counted _ c.size.ensures, counted _ c.size-in-Listing.ensures, counted _ c.size-in-Listing-2.ensures, counted _ c.size-in-Listing-3.ensures)

pub returns-in-Listing : goal.returns-in-Listing
unfolding row_size size_of
returns-in-Listing c = rw (le-leb c.args.e.len 4096 c.if-e-gt4096.false, c.in-Listing.is, c.size.ensures, c.size-in-Listing.ensures, c.size-in-Listing-2.ensures, c.size-in-Listing-3.ensures)

pub overflow_add-result-in-Index : goal.overflow_add-result-in-Index
overflow_add-result-in-Index c = omega (arith, counted _ c.size.ensures, counted _ c.size-in-Index.ensures)

pub returns-in-Index : goal.returns-in-Index
unfolding row_size size_of
returns-in-Index c = rw (le-leb c.args.e.len 4096 c.if-e-gt4096.false, c.in-Index.is, c.size.ensures, c.size-in-Index.ensures)
