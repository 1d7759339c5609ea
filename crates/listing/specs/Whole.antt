-- Several steps: what they report, and where they come to. The listing of a whole book, and what steps promise of it.
use Rattle.std.specs.Prelude.{ℕ, zero, suc, ◌≡◌, length, take, Result, Ok, Err}
use mathlib.Core.List.{List, [], ◌∷◌, ◌++◌, flat_map}
use Rattle.refusals.specs.Refusals.{no_chunk}
use Rattle.header.specs.declared.Record.{Record}
use Rattle.tree.specs.Chain.{chain}
use Rattle.tree.specs.Exact.{ChainListed}
use Rattle.book.specs.Book.{directory_of, shape_of}
use Rattle.report.specs.declared.Report.{Report}
use Rattle.listing.specs.Listing.{start_of, stepped, reports_in}
use Rattle.listing.specs.declared.Cursor.{Cursor}
use Rattle.listing.specs.declared.Step.{Step}
use Rattle.listing.specs.declared.Step.TheVariants.{Entry, End}
use Rattle.refusals.specs.declared.Refusal.{Refusal}

-- ---- steps, each at the cursor that the one before handed back

-- what a step reports: an entry, or none
abbrev pub report_in : Result Step Refusal → List Report
report_in (Ok (Entry r at)) = r ∷ []
report_in (Ok (End at)) = []
report_in (Err n) = []

-- the cursor that a step at `at` hands back; a refusal hands none back, and so leaves the one there was
abbrev pub cursor_in : Cursor → Result Step Refusal → Cursor
cursor_in at (Ok (Entry r next)) = next
cursor_in at (Ok (End next)) = next
cursor_in at (Err n) = at

module _ (s : List ℕ) (book : Record) where
  -- what n steps from a cursor report
  unfoldable pub steps_from : ℕ → Cursor → List Report
  steps_from zero at = []
  steps_from (suc n) at = report_in (stepped s book at) ++ steps_from n (cursor_in at (stepped s book at))

  -- the cursor after n steps
  unfoldable pub cursor_after : ℕ → Cursor → Cursor
  cursor_after zero at = at
  cursor_after (suc n) at = cursor_after n (cursor_in at (stepped s book at))

  -- ---- the whole listing: every entry of every chunk of the chain, in order

  unfoldable pub whole_listing : List Report
  whole_listing = flat_map (reports_in s book) (chain (directory_of s book) (shape_of book))

  -- the cursor after as many steps as it has entries
  unfoldable pub last_cursor : Cursor
  last_cursor = cursor_after (length whole_listing) (start_of book)

-- the steps from the start report exactly the whole listing, and then the end
pub record ListingExact (s : List ℕ) (book : Record) : Type 0 where
  -- as many steps as it has entries report it,
  pub reports : steps_from s book (length (whole_listing s book)) (start_of book) ≡ whole_listing s book
  -- an entry at each step, in order, and steps beyond report none;
  pub each : (n : ℕ) → steps_from s book n (start_of book) ≡ take n (whole_listing s book)
  -- behind the last entry is the end (K10),
  pub ends : (last_cursor s book).chunk ≡ no_chunk
  -- where every further step says so and hands the same cursor back
  pub stays : (n : ℕ) → stepped s book (cursor_after s book n (last_cursor s book)) ≡ Ok (End (last_cursor s book))
  -- the chain has every listing chunk below the count, each once, and the names of its entries rise
  pub complete : ChainListed (directory_of s book) (shape_of book)
