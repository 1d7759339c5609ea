use Rattle.fields.proofs.Base.{◌≡◌, sym, ap, ◌∙◌, ◌*◌, arith, sets, Some}
use Rattle.entries.specs.Entry.{item_at}
use Rattle.entries.specs.declared.Kind.TheVariants.{Listing}
use Rattle.chunk_fields.specs.ChunkFields.{entry_count}
use Rattle.book.specs.Book.{limits_of, chunk_bytes}
use Rattle.page.specs.Page.{five_of}
use Rattle.page.proofs.Writing.{left_start, left_there, left_turn, left_end}
use Rattle.page.proofs.put_reports.Goals as goal

pub loop-i-init : goal.loop-i-init
loop-i-init c = rw c.first_place-at.ensures (left_start c.args.file.now c.args.book c.args.chunk c.requires.chunk_value c.args.out.now)

pub returns-in_default : goal.returns-in_default
unfolding item_at
returns-in_default c =
    let count_is : let a = c.args in
    c.entry_count-total.result ≡ entry_count (chunk_bytes a.file.now a.book a.chunk) =
    rw (← c.chunk_bytes-c.ensures) c.entry_count-total.ensures in
    let read_is : let a = c.args in
    c.listing_at.result ≡ item_at (limits_of a.file.now a.book) Listing (chunk_bytes a.file.now a.book a.chunk) c.loop-i.at =
    rw (← c.limits-limits.ensures, ← c.chunk_bytes-c.ensures) c.listing_at.ensures in
    let never_bad : ⊥ =
    let n = count_is in
    left_there c.args.file.now c.args.book c.args.chunk c.requires.chunk_value _ _ _ _ c.loop-i.invariant (omega arith)
    (sym read_is ∙ c.in_default.is) in
    absurd never_bad

pub loop-i-preserved : goal.loop-i-preserved
unfolding item_at
loop-i-preserved c =
    let count_is : let a = c.args in
    c.entry_count-total.result ≡ entry_count (chunk_bytes a.file.now a.book a.chunk) =
    rw (← c.chunk_bytes-c.ensures) c.entry_count-total.ensures in
    let read_is : let a = c.args in
    c.listing_at.result ≡ item_at (limits_of a.file.now a.book) Listing (chunk_bytes a.file.now a.book a.chunk) c.loop-i.at =
    rw (← c.limits-limits.ensures, ← c.chunk_bytes-c.ensures) c.listing_at.ensures in
    let good_is : let a = c.args in
    item_at (limits_of a.file.now a.book) Listing (chunk_bytes a.file.now a.book a.chunk) c.loop-i.at ≡ Some c.in-Some.e =
    sym read_is ∙ c.in-Some.is in
    let n = count_is in
    left_turn c.args.file.now c.args.book c.args.chunk c.requires.chunk_value _ _ _ _ _ _ c.loop-i.invariant (omega arith) good_is
    (c.put_report.ensures ∙ ap (λ r. sets c.loop-i.out (5 * c.loop-i.i) (five_of r)) c.report_of.ensures)

pub returns : goal.returns
returns c =
    let count_is : let a = c.args in
    c.entry_count-total.result ≡ entry_count (chunk_bytes a.file.now a.book a.chunk) =
    rw (← c.chunk_bytes-c.ensures) c.entry_count-total.ensures in
    let n = count_is in
    left_end c.args.file.now c.args.book c.args.chunk c.requires.chunk_value _ _ _ _ c.loop-i.invariant (omega arith)
