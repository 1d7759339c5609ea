use Rattle.fields.proofs.Base.{sym, ap, ◌∙◌, Ok, arith, rules}
use Rattle.book.proofs.Checked.{checked_listing, checked_no_listing}
use Rattle.search.proofs.Searching.{search_found, search_next, search_barred}
use Rattle.search.proofs.search_in.Goals as goal

pub returns-in_default : goal.returns-in_default
returns-in_default c =
    let a = c.args in
    search_barred a.file.now a.book a.name.now a.c (checked_no_listing a.file.now a.book a.c c.checked_chunk.result c.checked_chunk.ensures (λ p n q. search rules))

pub returns-in_default-2 : goal.returns-in_default-2
returns-in_default-2 c =
    let a = c.args in
    search_barred a.file.now a.book a.name.now a.c (checked_no_listing a.file.now a.book a.c c.checked_chunk.result c.checked_chunk.ensures (λ p n q. grind arith))

pub returns-in-Some : goal.returns-in-Some
returns-in-Some c =
    let a = c.args in
    let e = c.in-Ok-Listing in
    let l = checked_listing a.file.now a.book a.c e.field-0-0 e.next (sym c.checked_chunk.ensures ∙ (e.is ∙ ap Ok e.field-0-is)) in
    search_found a.file.now a.book a.name.now a.c l.below _ _ c.find_in-found.ensures c.in-Some.is

pub returns-in-None : goal.returns-in-None
returns-in-None c =
    let a = c.args in
    let e = c.in-Ok-Listing in
    let l = checked_listing a.file.now a.book a.c e.field-0-0 e.next (sym c.checked_chunk.ensures ∙ (e.is ∙ ap Ok e.field-0-is)) in
    search_next a.file.now a.book a.name.now a.c l.below _ _ l.next_is c.find_in-found.ensures c.in-None.is
