-- Lookup in an opened book: the descent for a name that checks no chunk (FORMAT K22 to K24). On any bytes it answers what the searches in one chunk make
-- of them.
use Rattle.std.specs.Prelude.{◌≡◌, List, ℕ, Option, Some, Result, Ok}
use Rattle.header.specs.declared.Record.{Record}
use Rattle.tree.specs.Tree.{top}
use Rattle.tree.specs.Descent.{Outcome}
use Rattle.tree.specs.Fetch.{fetch_from}
use Rattle.book.specs.Book.{limits_of, chunk_bytes, shape_of}
use Rattle.search.specs.Search.{Stands}
use Rattle.report.specs.declared.Report.{Report}
use Rattle.lookup.specs.Reply.{replied_to}
use Rattle.refusals.specs.declared.Refusal.{Refusal}

-- the descent from chunk c of a level on, read with the record's numbers (K2)
abbrev pub fetch_at : List ℕ → Record → List ℕ → ℕ → ℕ → Outcome
fetch_at s book name level c = fetch_from (limits_of s book) (chunk_bytes s book) name level c

-- from the top (Q1), whose level is the depth, after the checks of name and record (RO5)
unfoldable pub fetched : List ℕ → Record → List ℕ → Result (Option Report) Refusal
fetched s book name = replied_to s book name (fetch_at s book name book.depth (top (shape_of book)))

-- what is found stands where it is reported, on any bytes (K24)
abbrev pub FoundStands : List ℕ → List ℕ → Result (Option Report) Refusal → Type 0
FoundStands s name r = (x : Report) → r ≡ Ok (Some x) → Stands s name x
