use Rattle.fields.proofs.Base.{◌≡◌, ◌-◌, ◌≤◌}
use Rattle.book.specs.Book.{directory_of}
use Rattle.opening.specs.Passes.{surveyed}
use Rattle.opening.proofs.survey_chunks.Given as goal

abbrev pub invariant-loop-c : goal.invariant-loop-c
invariant-loop-c l = (l.listings ≤ l.c) × (surveyed (directory_of l.file l.book) (l.book.count - l.c) l.c l.listings ≡ surveyed (directory_of l.file l.book) l.book.count 0 0)
