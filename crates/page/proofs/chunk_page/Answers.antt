use Rattle.fields.proofs.Base.{◌≡◌, sym, ap, ◌∙◌, arith, Ok, Err}
use Rattle.chunk_fields.specs.ChunkFields.{entry_count}
use Rattle.book.specs.Book.{chunk_bytes}
use Rattle.book.proofs.Checked.{Linked, checked_listing, checked_index, checked_refused}
use Rattle.page.proofs.Paging.{page_unfit, page_other, page_short, page_done}
use Rattle.page.proofs.chunk_page.Goals.{In-Ok-Listing, After-entry_count-total}
use Rattle.page.proofs.chunk_page.Goals as goal

-- the chunk is one of the listing, and how many entries it has
linked_is : (c : In-Ok-Listing) → Linked c.args.file.now c.args.book c.args.chunk c.in-Ok-Listing.field-0-0 c.in-Ok-Listing.next
linked_is c = checked_listing _ _ _ _ _ (sym c.checked_chunk.ensures ∙ (c.in-Ok-Listing.is ∙ ap Ok c.in-Ok-Listing.field-0-is))

count_is : (c : After-entry_count-total) → c.entry_count-total.result ≡ entry_count (chunk_bytes c.args.file.now c.args.book c.args.chunk)
count_is c = rw (← c.chunk_bytes.ensures) c.entry_count-total.ensures

pub returns-then-not-record_fits : goal.returns-then-not-record_fits
returns-then-not-record_fits c = let a = c.args in
    let r = page_unfit a.file.now a.book a.chunk a.out.now (sym c.record_fits.ensures ∙ c.if-not-record_fits.true) in
    record { answer = ap Err c.refuse.ensures ∙ r.answer; written = r.written }

pub returns-in-Ok-Index : goal.returns-in-Ok-Index
returns-in-Ok-Index c = let a = c.args in
    let o = (checked_index a.file.now a.book a.chunk (sym c.checked_chunk.ensures ∙ (c.in-Ok-Index.is ∙ ap Ok c.in-Ok-Index.field-0-is))).1 in
    let r = page_other a.file.now a.book a.chunk a.out.now (sym c.record_fits.ensures ∙ c.if-not-record_fits.false) o in
    record { answer = ap Err c.refuse-in-Ok-Index.ensures ∙ r.answer; written = r.written }

pub returns-in-Err : goal.returns-in-Err
returns-in-Err c = let a = c.args in
    let o = (checked_refused a.file.now a.book a.chunk _ (sym c.checked_chunk.ensures ∙ c.in-Err.is)).1 in
    let r = page_other a.file.now a.book a.chunk a.out.now (sym c.record_fits.ensures ∙ c.if-not-record_fits.false) o in
    record { answer = ap Err c.refuse-in-Err.ensures ∙ r.answer; written = r.written }

pub returns-then-out-total : goal.returns-then-out-total
returns-then-out-total c = let a = c.args in
    page_short a.file.now a.book a.chunk a.out.now (sym c.record_fits.ensures ∙ c.if-not-record_fits.false) (linked_is (goal.at.returns-then-out-total c).In-Ok-Listing).below
    c.entry_count-total.result (count_is (goal.at.returns-then-out-total c).After-entry_count-total) c.if-out-total.true

pub put_reports-requires : goal.put_reports-requires
put_reports-requires c =
    let n = count_is (goal.at.put_reports-requires c).After-entry_count-total in
    record { chunk_value = (linked_is (goal.at.put_reports-requires c).In-Ok-Listing).kind; chunk_in_bounds = omega arith }

pub returns : goal.returns
returns c = let a = c.args in
    let l = linked_is (goal.at.returns c).In-Ok-Listing in
    page_done a.file.now a.book a.chunk a.out.now (sym c.record_fits.ensures ∙ c.if-not-record_fits.false) l.below
    c.entry_count-total.result (count_is (goal.at.returns c).After-entry_count-total) c.if-out-total.false _ l.next_is _ c.put_reports.ensures
