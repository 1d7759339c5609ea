use Rattle.fields.proofs.Base.{◌≡◌, sym, ap, ◌∙◌, Some, None, Ok}
use Rattle.entries.specs.declared.Kind.TheVariants.{Listing}
use Rattle.quickref.specs.Quickref.{nth_in}
use Rattle.book.specs.Book.{limits_of, chunk_bytes}
use Rattle.book.proofs.Checked.{Linked, checked_listing, checked_index, checked_refused}
use Rattle.listing.proofs.Owning.{own_unfit, own_other, own_missing, own_there, owned_answer}
use Rattle.listing.proofs.Cursor.own.Goals.{In-Ok-Listing}
use Rattle.listing.proofs.Cursor.own.Goals as goal

-- the chunk is one of the listing
linked_is : (c : In-Ok-Listing) → Linked c.args.file.now c.args.book c.args.self.chunk c.in-Ok-Listing.field-0-0 c.in-Ok-Listing.field-0-1
linked_is c = checked_listing _ _ _ _ _ (sym c.checked_chunk.ensures ∙ (c.in-Ok-Listing.is ∙ ap Ok c.in-Ok-Listing.field-0-is))

pub returns-then-not-record_fits : goal.returns-then-not-record_fits
returns-then-not-record_fits c = let a = c.args in
    owned_answer a.file.now (λ j. (c.type_inv.file j).fits) a.book a.self _ (sym (own_unfit _ _ _ (sym c.record_fits.ensures ∙ c.if-not-record_fits.true)))

pub returns-in-Ok-Index : goal.returns-in-Ok-Index
returns-in-Ok-Index c = let a = c.args in
    owned_answer a.file.now (λ j. (c.type_inv.file j).fits) a.book a.self _
    (sym (own_other _ _ _ (checked_index a.file.now a.book a.self.chunk (sym c.checked_chunk.ensures ∙ (c.in-Ok-Index.is ∙ ap Ok c.in-Ok-Index.field-0-is))).1))

pub returns-in-Err : goal.returns-in-Err
returns-in-Err c = let a = c.args in
    owned_answer a.file.now (λ j. (c.type_inv.file j).fits) a.book a.self _
    (sym (own_other _ _ _ (checked_refused a.file.now a.book a.self.chunk _ (sym c.checked_chunk.ensures ∙ c.in-Err.is)).1))

pub returns-in_err-e : goal.returns-in_err-e
returns-in_err-e c =
    let l = linked_is (goal.at.returns-in_err-e c).In-Ok-Listing in
    let a = c.args in
    let q : nth_in (limits_of a.file.now a.book) Listing (chunk_bytes a.file.now a.book a.self.chunk) a.self.entry ≡ None =
    rw (← c.limits.ensures, ← c.chunk_bytes-c.ensures) (sym c.in_err-e.ensures) in
    owned_answer a.file.now (λ j. (c.type_inv.file j).fits) a.book a.self _
    (c.from_residual.ensures ∙ sym (own_missing _ _ _ (sym c.record_fits.ensures ∙ c.if-not-record_fits.false) l.below l.kind q))

pub returns : goal.returns
returns c =
    let l = linked_is (goal.at.returns c).In-Ok-Listing in
    let a = c.args in
    let q : nth_in (limits_of a.file.now a.book) Listing (chunk_bytes a.file.now a.book a.self.chunk) a.self.entry ≡ Some c.in_ok-e.e =
    rw (← c.limits.ensures, ← c.chunk_bytes-c.ensures) (sym c.in_ok-e.ensures) in
    owned_answer a.file.now (λ j. (c.type_inv.file j).fits) a.book a.self _
    (ap Some c.own_of.ensures ∙ sym (own_there _ _ _ (sym c.record_fits.ensures ∙ c.if-not-record_fits.false) l.below l.kind _ q))
