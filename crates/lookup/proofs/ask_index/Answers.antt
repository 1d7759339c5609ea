use Rattle.fields.proofs.Base.{sym, ap, ◌∙◌, Some, Ok}
use Rattle.book.proofs.Checked.{checked_index, checked_refused, checked_no_index}
use Rattle.lookup.proofs.Steps.{index_barred, index_leads}
use Rattle.lookup.proofs.ask_index.Goals as goal

pub returns-in-Err : goal.returns-in-Err
returns-in-Err c = let a = c.args in
    index_barred a.file.now a.book a.name.now a.c (checked_refused a.file.now a.book a.c c.in-Err.field-0 (sym c.checked_chunk.ensures ∙ c.in-Err.is)).0

pub returns-in-Ok-Listing : goal.returns-in-Ok-Listing
returns-in-Ok-Listing c = let a = c.args in
    index_barred a.file.now a.book a.name.now a.c
    (checked_no_index a.file.now a.book a.c _ (sym (c.in-Ok-Listing.is ∙ ap Ok c.in-Ok-Listing.field-0-is) ∙ c.checked_chunk.ensures) (λ q. cc))

pub returns-in-Ok-Index : goal.returns-in-Ok-Index
returns-in-Ok-Index c = let a = c.args in
    ap Some c.child_in.ensures
    ∙ index_leads a.file.now a.book a.name.now a.c (checked_index a.file.now a.book a.c (sym c.checked_chunk.ensures ∙ (c.in-Ok-Index.is ∙ ap Ok c.in-Ok-Index.field-0-is))).0
