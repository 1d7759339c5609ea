use Rattle.fields.proofs.Base.{◌≡◌, sym, ap, ap₂, ◌∙◌, ◌+◌, arith, Some, Ok, Err}
use Rattle.entries.specs.declared.Kind.TheVariants.{Listing}
use Rattle.chunk_fields.specs.ChunkFields.{entry_count}
use Rattle.quickref.specs.Quickref.{nth_in}
use Rattle.book.specs.Book.{limits_of, chunk_bytes}
use Rattle.listing.specs.Listing.{cursor_at}
use Rattle.listing.specs.declared.Step.TheVariants.{Entry}
use Rattle.listing.proofs.Stepping.{read_absent, read_low, read_inside, read_last}
use Rattle.listing.proofs.step_in.Goals.{In-Some, After-nth_entry, After-entry_count-total}
use Rattle.listing.proofs.step_in.Goals as goal

-- what is looked for, the entry that is found, and how many its chunk has
sought_is : (c : After-nth_entry) → let a = c.args in c.nth_entry.result ≡ nth_in (limits_of a.file.now a.book) Listing (chunk_bytes a.file.now a.book a.at.chunk) a.at.entry
sought_is c = rw (← c.limits.ensures, ← c.chunk_bytes-c.ensures) c.nth_entry.ensures

hit_is : (c : In-Some) → let a = c.args in nth_in (limits_of a.file.now a.book) Listing (chunk_bytes a.file.now a.book a.at.chunk) a.at.entry ≡ Some c.in-Some.e
hit_is c = rw (← c.limits.ensures, ← c.chunk_bytes-c.ensures) (sym c.nth_entry.ensures ∙ c.in-Some.is)

counted : (c : After-entry_count-total) → let a = c.args in c.entry_count-total.result ≡ entry_count (chunk_bytes a.file.now a.book a.at.chunk)
counted c = rw (← c.chunk_bytes-c.ensures) c.entry_count-total.ensures

pub returns-in_default : goal.returns-in_default
returns-in_default c =
    let a = c.args in
    ap Err c.refuse.ensures
    ∙ sym (read_absent a.file.now a.book a.at c.requires.chunk_value (sym (sought_is (goal.at.returns-in_default c).After-nth_entry) ∙ c.in_default.is))

pub overflow_add-after : goal.overflow_add-after
overflow_add-after c =
    let a = c.args in
    omega (arith, read_low a.file.now a.book a.at c.requires.chunk_value _ (hit_is (goal.at.overflow_add-after c).In-Some), counted (goal.at.overflow_add-after c).After-entry_count-total)

pub returns-then-after-total : goal.returns-then-after-total
returns-then-after-total c =
    let a = c.args in
    let n = counted (goal.at.returns-then-after-total c).After-entry_count-total in
    ap (λ r. Ok (Entry r (cursor_at a.at.chunk (a.at.entry + 1)))) c.report_of-r.ensures
    ∙ sym (read_inside a.file.now a.book a.at c.requires.chunk_value _ (hit_is (goal.at.returns-then-after-total c).In-Some) (omega arith))

pub returns : goal.returns
returns c =
    let a = c.args in
    let n = counted (goal.at.returns c).After-entry_count-total in
    ap₂ (λ r k. Ok (Entry r (cursor_at k 0))) c.report_of-r.ensures (sym c.requires.chunk_value_2)
    ∙ sym (read_last a.file.now a.book a.at c.requires.chunk_value _ (hit_is (goal.at.returns c).In-Some) (omega arith))
