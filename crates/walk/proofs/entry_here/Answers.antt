use Rattle.fields.proofs.Base.{◌≡◌, sym, ap, ◌∙◌, Err}
use Rattle.entries.specs.Entry.{item_at}
use Rattle.entries.specs.declared.Kind.TheVariants.{Listing}
use Rattle.book.specs.Book.{limits_of, chunk_bytes}
use Rattle.walk.proofs.Entering.{here_entry, here_none}
use Rattle.walk.proofs.entry_here.Goals as goal

pub returns-in-Some : goal.returns-in-Some
unfolding item_at
returns-in-Some c =
    let item_is : let a = c.args in
    c.listing_at.result ≡ item_at (limits_of a.file.now a.book) Listing (chunk_bytes a.file.now a.book a.w.chunk) a.w.at =
    rw (← c.limits-limits.ensures, ← c.chunk_bytes-c.ensures) c.listing_at.ensures in
    let a = c.args in
    sym (here_entry a.file.now a.book a.w _ (sym item_is ∙ c.in-Some.is))

pub returns-in-None : goal.returns-in-None
unfolding item_at
returns-in-None c =
    let item_is : let a = c.args in
    c.listing_at.result ≡ item_at (limits_of a.file.now a.book) Listing (chunk_bytes a.file.now a.book a.w.chunk) a.w.at =
    rw (← c.limits-limits.ensures, ← c.chunk_bytes-c.ensures) c.listing_at.ensures in
    let a = c.args in
    ap Err c.no_reading.ensures
    ∙ sym (here_none a.file.now a.book a.w (sym item_is ∙ c.in-None.is))
