use Rattle.fields.proofs.Base.{◌≡◌, sym, ap, ◌∙◌, true, Ok, Err}
use Rattle.refusals.specs.Refusals.{no_chunk}
use Rattle.chunk.specs.declared.Chunk.TheVariants.{Listing}
use Rattle.book.specs.Book.{record_fits, checked_chunk}
use Rattle.book.proofs.Checked.{checked_listing, checked_index, checked_refused}
use Rattle.listing.proofs.Stepping.{step_unfit, step_end, step_other, step_entry}
use Rattle.listing.proofs.Cursor.step.Goals as goal

pub returns-then-not-record_fits : goal.returns-then-not-record_fits
returns-then-not-record_fits c = let a = c.args in
    ap Err c.refuse.ensures ∙ sym (step_unfit a.file.now a.book a.self (sym c.record_fits.ensures ∙ c.if-not-record_fits.true))

pub returns-then-self-no_chunk : goal.returns-then-self-no_chunk
returns-then-self-no_chunk c =
    let fits_is : let a = c.args in record_fits a.file.now a.book ≡ true =
    sym c.record_fits.ensures ∙ c.if-not-record_fits.false in
    let a = c.args in
    sym (step_end a.file.now a.book a.self fits_is (c.if-self-no_chunk.true ∙ c.no_chunk.ensures))

pub step_in-requires : goal.step_in-requires
step_in-requires c =
    let met_is : let a = c.args in
    checked_chunk a.file.now a.book a.self.chunk ≡ Ok (Listing c.in-Ok-Listing.field-0-0 c.in-Ok-Listing.next) =
    sym c.checked_chunk.ensures ∙ (c.in-Ok-Listing.is ∙ ap Ok c.in-Ok-Listing.field-0-is) in
    let a = c.args in
    let m = checked_listing a.file.now a.book a.self.chunk _ _ met_is in
    record { chunk_value = m.kind; chunk_value_2 = m.next_is }

pub returns-in-Ok-Listing : goal.returns-in-Ok-Listing
returns-in-Ok-Listing c =
    let fits_is : let a = c.args in record_fits a.file.now a.book ≡ true =
    sym c.record_fits.ensures ∙ c.if-not-record_fits.false in
    let met_is : let a = c.args in
    checked_chunk a.file.now a.book a.self.chunk ≡ Ok (Listing c.in-Ok-Listing.field-0-0 c.in-Ok-Listing.next) =
    sym c.checked_chunk.ensures ∙ (c.in-Ok-Listing.is ∙ ap Ok c.in-Ok-Listing.field-0-is) in
    let another : c.args.self.chunk ≡ no_chunk → ⊥ =
    λ q. c.if-self-no_chunk.false (q ∙ sym c.no_chunk.ensures) in
    let a = c.args in
    let m = checked_listing a.file.now a.book a.self.chunk _ _ met_is in
    c.step_in.ensures ∙ sym (step_entry a.file.now a.book a.self fits_is another m.below)

pub returns-in-Ok-Index : goal.returns-in-Ok-Index
returns-in-Ok-Index c =
    let fits_is : let a = c.args in record_fits a.file.now a.book ≡ true =
    sym c.record_fits.ensures ∙ c.if-not-record_fits.false in
    let another : c.args.self.chunk ≡ no_chunk → ⊥ =
    λ q. c.if-self-no_chunk.false (q ∙ sym c.no_chunk.ensures) in
    let a = c.args in
    ap Err c.refuse-in-Ok-Index.ensures
    ∙ sym (step_other a.file.now a.book a.self fits_is another
    (checked_index a.file.now a.book a.self.chunk (sym c.checked_chunk.ensures ∙ (c.in-Ok-Index.is ∙ ap Ok c.in-Ok-Index.field-0-is))).1)

pub returns-in-Err : goal.returns-in-Err
returns-in-Err c =
    let fits_is : let a = c.args in record_fits a.file.now a.book ≡ true =
    sym c.record_fits.ensures ∙ c.if-not-record_fits.false in
    let another : c.args.self.chunk ≡ no_chunk → ⊥ =
    λ q. c.if-self-no_chunk.false (q ∙ sym c.no_chunk.ensures) in
    let a = c.args in
    ap Err c.refuse-in-Err.ensures
    ∙ sym (step_other a.file.now a.book a.self fits_is another
    (checked_refused a.file.now a.book a.self.chunk _ (sym c.checked_chunk.ensures ∙ c.in-Err.is)).1)
