-- On a book that opening accepts, the search along the chain replies what lookup answers, for every name: `engines_agree`.
-- And a refusal is 15 or 17, with no chunk: `scan_refusal`.
use Rattle.fields.proofs.Base.{◌≡◌, sym, ap, ◌∙◌, ◌⊎◌, List, ℕ, ◌≤◌, Option, Result, Ok, Err}
use Rattle.refusals.specs.Refusals.{refusal_of}
use Rattle.refusals.specs.declared.Refusal.{Refusal}
use Rattle.header.specs.declared.Record.{Record}
use Rattle.tree.proofs.Reading.{plain_same}
use Rattle.book.specs.Book.{directory_of, shape_of}
use Rattle.opening.specs.Opened.{opened}
use Rattle.opening.proofs.Accepted.{opened_book}
use Rattle.lookup.specs.Lookup.{looked_up}
use Rattle.lookup.specs.Reply.{replied_to, reply_of, SameAsLookup}
use Rattle.lookup.proofs.Replies.{looked_reply, replied_refusal}
use Rattle.scan.specs.Scan.{plain_in, scanned}
use Rattle.scan.specs.Complete.{CompleteOnChain}
use Rattle.scan.proofs.Completed.{scan_complete}
use Rattle.refusals.specs.declared.Rule.TheVariants.{BadName, BadRecord}
use Rattle.report.specs.declared.Report.{Report}

pub engines_agree : (s : List ℕ) (book : Record) (name : List ℕ) → opened s ≡ Ok book → (places : ℕ) → 5 ≤ places
    → scanned s book name ≡ reply_of (looked_up s book name places)
unfolding scanned
engines_agree s book name accepts places h =
    ap (replied_to s book name) (plain_same (directory_of s book) (shape_of book) (opened_book s book accepts).directory name)
    ∙ sym (looked_reply s book name places h)

-- the clauses of `scan`
abbrev pub Promised : List ℕ → Record → List ℕ → Result (Option Report) Refusal → Type 0
Promised s book name r = record { answer : r ≡ scanned s book name; agrees : SameAsLookup s book name r; complete : CompleteOnChain s book name r }

pub promised : (s : List ℕ) (book : Record) (name : List ℕ) (r : Result (Option Report) Refusal) → r ≡ scanned s book name → Promised s book name r
promised s book name r p = record { answer = p; agrees = λ o places h. p ∙ engines_agree s book name o places h; complete = rw p (scan_complete s book name) }

-- ---- a refusal

pub scan_refusal : (s : List ℕ) (book : Record) (name : List ℕ) (x : Refusal) → scanned s book name ≡ Err x → (x ≡ refusal_of BadName) ⊎ (x ≡ refusal_of BadRecord)
unfolding scanned
scan_refusal s book name x = replied_refusal s book name (plain_in s book name) x
