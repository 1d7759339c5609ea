-- The search for a name along the chain of a file, read by a record, which may be made up; no index entry is followed (FORMAT K16 to K19).
use Rattle.std.specs.Prelude.{List, ℕ, Option, Result}
use Rattle.header.specs.declared.Record.{Record}
use Rattle.tree.specs.Descent.{Outcome}
use Rattle.tree.specs.Reading.{plain}
use Rattle.book.specs.Book.{directory_of, shape_of}
use Rattle.lookup.specs.Reply.{replied_to}
use Rattle.refusals.specs.declared.Refusal.{Refusal}
use Rattle.report.specs.declared.Report.{Report}

-- what it comes to in a file, read with the record's numbers (K2)
abbrev pub plain_in : List ℕ → Record → List ℕ → Outcome
plain_in s book name = plain (directory_of s book) (shape_of book) name

-- the answer, after the checks of name and record (RO5)
unfoldable pub scanned : List ℕ → Record → List ℕ → Result (Option Report) Refusal
scanned s book name = replied_to s book name (plain_in s book name)
