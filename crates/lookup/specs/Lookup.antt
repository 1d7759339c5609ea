-- The lookup of a name in a file by a record, which may be made up: its answer, and what it leaves in the lent trail (FORMAT, Asking).
use Rattle.std.specs.Prelude.{Bool, true, false, cond, List, [], ◌∷◌, ℕ, ◌+◌, length, leb, Result, Ok, Err}
use Rattle.std.proofs.lemmas.List.Edits.{sets}
use Rattle.refusals.specs.Refusals.{refusal_of}
use Rattle.names.specs.Names.{askable}
use Rattle.header.specs.declared.Record.{Record}
use Rattle.tree.specs.Descent.{Outcome, found, absent, refused, outcome, trail}
use Rattle.book.specs.Book.{directory_of, shape_of, record_fits}
use Rattle.report.specs.Report.{report_of}
use Rattle.search.specs.Search.{cost_at}
use Rattle.lookup.specs.declared.Effort.{Effort}
use Rattle.lookup.specs.declared.Answer.{Answer}
use Rattle.lookup.specs.declared.Answer.TheVariants.{Found, Absent}
use Rattle.refusals.specs.declared.Rule.TheVariants.{BadName, ShortTrail, BadRecord}
use Rattle.refusals.specs.declared.Refusal.{Refusal}

-- ---- the descent in a file, read with the record's numbers (K2, Q1 to Q6)

-- what it comes to
abbrev pub outcome_in : List ℕ → Record → List ℕ → Outcome
outcome_in s book name = outcome (directory_of s book) (shape_of book) name

-- the numbers of its chunks, in order
abbrev pub trail_in : List ℕ → Record → List ℕ → List ℕ
trail_in s book name = trail (directory_of s book) (shape_of book) name

-- how many they are
abbrev pub count_in : List ℕ → Record → List ℕ → ℕ
count_in s book name = length (trail_in s book name)

-- how many comparisons of the asked name are made in chunks of these numbers
unfoldable pub costs : List ℕ → Record → List ℕ → List ℕ → ℕ
costs s book name [] = 0
costs s book name (c ∷ cs) = cost_at s book name c + costs s book name cs

-- what the descent takes: its chunks (K5), and the comparisons in them (K26)
abbrev pub effort_in : List ℕ → Record → List ℕ → Effort
effort_in s book name = record { chunks = count_in s book name; comparisons = costs s book name (trail_in s book name) }

-- ---- the answer

-- what a descent answers (K3): found has the five numbers of the entry (K6), and found and absent, which are no refusals (RO9), have what it took, n;
-- 17 where it met a chunk that is none of its level (R17, RO7, K13, K14)
abbrev pub answer_of : Record → Effort → Outcome → Result Answer Refusal
answer_of book n (found c e) = Ok (Found n (report_of book c e))
answer_of book n absent = Ok (Absent n)
answer_of book n refused = Err (refusal_of BadRecord)

-- the checks in their order (RO5): the name (R15), the number of the trail's places (R16), the record (R17, K12); then the descent
unfoldable pub looked_up : List ℕ → Record → List ℕ → ℕ → Result Answer Refusal
looked_up s book name places =
    cond (askable name)
    (cond (leb 5 places)
    (cond (record_fits s book)
    (answer_of book (effort_in s book name) (outcome_in s book name))
    (Err (refusal_of BadRecord)))
    (Err (refusal_of ShortTrail)))
    (Err (refusal_of BadName))

-- ---- the trail

abbrev pub is_refusal : Result Answer Refusal → Bool
is_refusal (Ok (Found n x)) = false
is_refusal (Ok (Absent n)) = false
is_refusal (Err x) = true

-- what becomes of a trail with an answer: after a refusal it is as it was (RO8)
abbrev pub unless : Result Answer Refusal → List ℕ → List ℕ → List ℕ
unless r was is = cond (is_refusal r) was is

-- the numbers of the descent's chunks from place 0 on (K4), the later places as they were (K5)
unfoldable pub trail_after : List ℕ → Record → List ℕ → List ℕ → List ℕ
trail_after s book name was = unless (looked_up s book name (length was)) was (sets was 0 (trail_in s book name))
