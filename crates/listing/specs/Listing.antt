-- Listing: the cursor, the answer of a step, and an entry's own bytes (FORMAT K7 to K13, K25).
use Rattle.std.specs.Prelude.{ℕ, ◌+◌, Bool, cond, ◌&&◌, List, map, length, ltb, eqb, Option, Some, None, Result, Ok, Err}
use Rattle.refusals.specs.Refusals.{no_chunk, refusal_of}
use Rattle.chunk.specs.Chunk.{Parsed, entries_in}
use Rattle.quickref.specs.Quickref.{Sought, absent, found, nth}
use Rattle.header.specs.declared.Record.{Record}
use Rattle.tree.specs.Shape.{next_of, listing_chunk}
use Rattle.book.specs.Book.{directory_of, shape_of, record_fits}
use Rattle.report.specs.Report.{report_of, own_of, OwnBytes}
use Rattle.report.specs.declared.Report.{Report}
use Rattle.listing.specs.declared.Cursor.{Cursor}
use Rattle.listing.specs.declared.Step.{Step}
use Rattle.listing.specs.declared.Step.TheVariants.{End}
use Rattle.refusals.specs.declared.Rule.TheVariants.{BadRecord}
use Rattle.refusals.specs.declared.Refusal.{Refusal}
use Rattle.report.specs.declared.Own.{Own}

-- chunk c can be listed: the record can be asked, and c is a listing chunk below the count (K12, K13)
unfoldable pub can_list : List ℕ → Record → ℕ → Bool
can_list s book c = record_fits s book && listing_chunk (directory_of s book) (shape_of book) c

-- the reports of all entries of chunk c
abbrev pub reports_in : List ℕ → Record → ℕ → List Report
reports_in s book c = map (report_of book c) (entries_in (directory_of s book c))

-- ---- the cursor

-- at entry i of chunk c (K8)
abbrev pub cursor_at : ℕ → ℕ → Cursor
cursor_at c i = record { chunk = c; entry = i }

-- where it starts: entry 0 of the first listing chunk (K8)
abbrev pub start_of : Record → Cursor
start_of book = cursor_at book.first 0

-- one entry on from entry i of chunk c, which is p: behind the last entry, entry 0 of its next chunk, as stored (K9)
unfoldable pub moved_on : Parsed → ℕ → ℕ → Cursor
moved_on p c i = cond (ltb (i + 1) (length (entries_in p))) (cursor_at c (i + 1)) (cursor_at (next_of p) 0)

-- ---- a step

-- the entry that is there, reported (K7), and the cursor moved on
abbrev pub step_of : Record → Parsed → ℕ → ℕ → Sought → Result Step Refusal
step_of book p c i absent = Err (refusal_of BadRecord)
step_of book p c i (found e) = Ok (Step.Entry (report_of book c e) (moved_on p c i))

-- at a cursor in a chunk that is p: 17, which belongs to no chunk (R17, RO7), where it lacks the entry (K13)
unfoldable pub entry_step : Record → Parsed → Cursor → Result Step Refusal
entry_step book p at = step_of book p at.chunk at.entry (nth at.entry (entries_in p))

-- the record first (K12), then the end, with any entry number (K10), then the chunk and the entry (K11, K13)
unfoldable pub stepped : List ℕ → Record → Cursor → Result Step Refusal
stepped s book at =
    cond (record_fits s book)
    (cond (eqb at.chunk no_chunk)
    (Ok (End at))
    (cond (listing_chunk (directory_of s book) (shape_of book) at.chunk)
    (entry_step book (directory_of s book at.chunk) at)
    (Err (refusal_of BadRecord))))
    (Err (refusal_of BadRecord))

-- ---- own bytes

-- those of the entry that is there
abbrev pub owned_of : Record → ℕ → Sought → Option Own
owned_of book c absent = None
owned_of book c (found e) = Some (own_of book c e)

-- of the entry at a cursor; nothing where the record, the chunk or the entry number is refused, or at the end (K25)
unfoldable pub owned_at : List ℕ → Record → Cursor → Option Own
owned_at s book at =
    cond (can_list s book at.chunk) (owned_of book at.chunk (nth at.entry (entries_in (directory_of s book at.chunk)))) None

-- beside a step at the same cursor: own bytes exactly where it reports an entry, and those of that entry
abbrev pub OwnBeside : List ℕ → Result Step Refusal → Option Own → Type 0
OwnBeside s (Ok (Step.Entry r next)) (Some o) = OwnBytes s r o
OwnBeside s (Ok (Step.Entry r next)) None = ⊥
OwnBeside s (Ok (End at)) (Some o) = ⊥
OwnBeside s (Ok (End at)) None = Unit {0}
OwnBeside s (Err x) (Some o) = ⊥
OwnBeside s (Err x) None = Unit {0}
