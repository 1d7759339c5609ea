use Rattle.fields.proofs.Base.{◌≡◌, sym, ap, ap₂, ◌∙◌, false, ℕ, ◌-◌, arith, Some, Ok, Err}
use Rattle.entries.specs.declared.Kind.{Kind}
use Rattle.chunk_fields.specs.ChunkFields.{first_place, entry_count}
use Rattle.chunk.specs.declared.Chunk.TheVariants.{Listing}
use Rattle.book.specs.Book.{chunk_bytes, checked_chunk}
use Rattle.book.proofs.Checked.{checked_listing, checked_index, checked_refused}
use Rattle.book.proofs.Read.{entries_length}
use Rattle.walk.specs.Walk.{is_over}
use Rattle.walk.proofs.Entering.{enter_inside, enter_over, enter_none, enter_barred, enter_chunk}
use Rattle.walk.proofs.enter.Goals as goal

pub returns-then-w-gt0 : goal.returns-then-w-gt0
returns-then-w-gt0 c = let a = c.args in sym (enter_inside a.file.now a.book a.w c.if-w-gt0.true)

pub returns-then-is_over : goal.returns-then-is_over
returns-then-is_over c = let a = c.args in
    sym (enter_over a.file.now a.book a.w c.if-w-gt0.false (sym c.is_over.ensures ∙ c.if-is_over.true))

pub returns-then-w-lt1 : goal.returns-then-w-lt1
returns-then-w-lt1 c =
    let on : let a = c.args in is_over a.book a.w ≡ false =
    sym c.is_over.ensures ∙ c.if-is_over.false in
    let a = c.args in
    ap Err c.no_reading.ensures ∙ sym (enter_none a.file.now a.book a.w c.if-w-gt0.false on (omega arith))

pub returns-in-Ok-Index : goal.returns-in-Ok-Index
returns-in-Ok-Index c =
    let a = c.args in
    let barred = enter_barred a.file.now a.book a.w c.if-w-gt0.false (sym c.is_over.ensures ∙ c.if-is_over.false)
    (checked_index a.file.now a.book a.w.next (sym c.checked_chunk.ensures ∙ c.in-Ok-Index.is ∙ ap Ok c.in-Ok-Index.field-0-is)).1 in
    cc

pub returns-in-Err : goal.returns-in-Err
returns-in-Err c =
    let a = c.args in
    let barred = enter_barred a.file.now a.book a.w c.if-w-gt0.false (sym c.is_over.ensures ∙ c.if-is_over.false)
    (checked_refused a.file.now a.book a.w.next _ (sym c.checked_chunk.ensures ∙ c.in-Err.is)).1 in
    cc

pub returns : goal.returns
returns c =
    let on : let a = c.args in is_over a.book a.w ≡ false =
    sym c.is_over.ensures ∙ c.if-is_over.false in
    let met_is : let a = c.args in
    checked_chunk a.file.now a.book a.w.next ≡ Ok (Listing c.in-Ok-Listing.field-0-0 c.in-Ok-Listing.next) =
    sym c.checked_chunk.ensures ∙ c.in-Ok-Listing.is ∙ ap Ok c.in-Ok-Listing.field-0-is in
    let count_is : let a = c.args in
    c.entry_count-left.result ≡ entry_count (chunk_bytes a.file.now a.book a.w.next) =
    rw (← c.chunk_bytes.ensures) c.entry_count-left.ensures in
    let a = c.args in
    let d = checked_listing a.file.now a.book a.w.next _ _ met_is in
    ap (λ (i : ℕ). Ok (Some (record { chunk = a.w.next; at = i; left = c.entry_count-left.result; next = c.in-Ok-Listing.next; more = a.w.more - 1 }))) c.first_place-at.ensures
    ∙ ap₂ (λ (n k : ℕ). Ok (Some (record { chunk = a.w.next; at = first_place Kind.Listing; left = n; next = k; more = a.w.more - 1 })))
    (count_is ∙ sym (entries_length a.file.now a.book a.w.next d.kind)) (sym d.next_is)
    ∙ sym (enter_chunk a.file.now a.book a.w c.if-w-gt0.false on (omega arith) d.below)
