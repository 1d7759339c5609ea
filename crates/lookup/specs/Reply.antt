-- The answer of a search that leaves no trail, and what a lookup answers without its effort.
use Rattle.std.specs.Prelude.{◌≡◌, cond, List, ℕ, ◌≤◌, Option, Some, None, Result, Ok, Err}
use Rattle.refusals.specs.Refusals.{refusal_of}
use Rattle.names.specs.Names.{askable}
use Rattle.header.specs.declared.Record.{Record}
use Rattle.tree.specs.Descent.{Outcome, found, absent, refused}
use Rattle.book.specs.Book.{record_fits}
use Rattle.report.specs.Report.{report_of}
use Rattle.opening.specs.Opened.{opened}
use Rattle.lookup.specs.Lookup.{looked_up}
use Rattle.lookup.specs.declared.Answer.{Answer}
use Rattle.refusals.specs.declared.Rule.TheVariants.{BadName, BadRecord}
use Rattle.refusals.specs.declared.Refusal.{Refusal}
use Rattle.report.specs.declared.Report.{Report}

-- what a search that comes to an outcome answers: found has the five numbers of the entry (K6); 17 where it met a chunk that cannot be read (R17, K13)
abbrev pub reply_to : Record → Outcome → Result (Option Report) Refusal
reply_to book (found c e) = Ok (Some (report_of book c e))
reply_to book absent = (Ok None)
reply_to book refused = Err (refusal_of BadRecord)

-- the checks in their order (RO5): the name (R15), the record (R17, K12); then the search, which comes to an outcome
unfoldable pub replied_to : List ℕ → Record → List ℕ → Outcome → Result (Option Report) Refusal
replied_to s book name o = cond (askable name) (cond (record_fits s book) (reply_to book o) (Err (refusal_of BadRecord))) (Err (refusal_of BadName))

-- an answer of lookup without its effort
abbrev pub reply_of : Result Answer Refusal → Result (Option Report) Refusal
reply_of (Ok (Answer.Found n x)) = Ok (Some x)
reply_of (Ok (Answer.Absent n)) = (Ok None)
reply_of (Err x) = Err x

-- on a book that opening accepts, with its record, the reply is lookup's, for every trail that is long enough (K20)
abbrev pub SameAsLookup : List ℕ → Record → List ℕ → Result (Option Report) Refusal → Type 0
SameAsLookup s book name r = opened s ≡ Ok book → (places : ℕ) → 5 ≤ places → r ≡ reply_of (looked_up s book name places)
