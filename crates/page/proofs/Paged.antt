-- A page gives what the steps give, for any file and any record: its numbers are those of the entries that the steps from entry 0 of its chunk
-- report while they stay in that chunk, and its next chunk is the one that they go on in.
use Rattle.fields.proofs.Base.{◌≡◌, refl, sym, ap, ◌∙◌, Bool, true, false, cond, List, ℕ, arith, length, length-map, sets, Ok, Err}
use Rattle.fields.proofs.Tests.{and_both}
use Rattle.refusals.specs.Refusals.{refusal_of}
use Rattle.chunk.specs.Chunk.{entries_in}
use Rattle.header.specs.declared.Record.{Record}
use Rattle.tree.specs.Shape.{next_of}
use Rattle.book.specs.Book.{directory_of, record_fits}
use Rattle.report.specs.Report.{report_of}
use Rattle.listing.specs.Listing.{cursor_at, reports_in, can_list}
use Rattle.page.specs.Page.{numbers_of, has_room, page_of, page_in, PageSteps}
use Rattle.listing.specs.Whole.{steps_from}
use Rattle.page.specs.declared.Page.TheVariants.{Entries, Short}
use Rattle.listing.proofs.Run.{run_steps, run_chunk, cursor_inside}
use Rattle.refusals.specs.declared.Rule.TheVariants.{BadRecord}

-- what a page with entries tells
answered : (a b : Bool) (k m n next : ℕ) → cond a (cond b (Ok (Entries k m)) (Ok Short)) (Err (refusal_of BadRecord)) ≡ Ok (Entries n next)
    → (a ≡ true) × (b ≡ true) × (k ≡ n) × (m ≡ next)
answered true true k m n next e = (refl, refl, (let z : k ≡ n = cc in z), (let z : m ≡ next = cc in z))
answered true false k m n next e = absurd (let z : ◌≡◌ {A = ℕ} 0 1 = cc in omega arith)
answered false b k m n next e = absurd (let z : ◌≡◌ {A = ℕ} 0 1 = cc in omega arith)

pub page_steps : (s : List ℕ) (book : Record) (c : ℕ) (t : List ℕ) (n next : ℕ) → page_of s book c (length t) ≡ Ok (Entries n next) → PageSteps s book c t n next
unfolding page_of page_in can_list
page_steps s book c t n next e =
    let es = entries_in (directory_of s book c) in
    let a = answered (can_list s book c) (has_room s book c (length t)) (length es) (next_of (directory_of s book c)) n next e in
    let can = and_both (record_fits s book) _ a.0 in
    let rs = reports_in s book c in
    let k : length rs ≡ n = length-map es (report_of book c) ∙ a.2 in
    let m = run_steps s book (cursor_at c 0) (cursor_at (next_of (directory_of s book c)) 0) rs (run_chunk s book c can.0 can.1) in
    let all : steps_from s book n (cursor_at c 0) ≡ rs = rw k at m.0 in
    record {
      count = ap length all ∙ k;
      numbers = rw (a.0, a.1) (ap (λ x. sets t 0 (numbers_of x)) (sym all));
      inside = λ i l. cursor_inside s book c can.0 can.1 i 0 (omega (arith, a.2)) ∙ ap (cursor_at c) (omega arith);
      behind = (rw k at m.1) ∙ ap (λ x. cursor_at x 0) a.3;
    }
