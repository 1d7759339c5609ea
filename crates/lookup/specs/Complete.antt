-- What a lookup is worth on a book that opening accepts, for a name of 1 to 1,024 bytes and a trail of five places or more: it finds exactly what
-- is there, and its trail is the descent.
use Rattle.std.specs.Prelude.{◌≡◌, ◌↔◌, ◌≢◌, true, false, List, ◌++◌, ℕ, drop, Result, Ok, Err}
use Rattle.refusals.specs.declared.Refusal.{Refusal}
use Rattle.names.specs.Names.{below}
use Rattle.entries.specs.Entry.{Entry}
use Rattle.header.specs.declared.Record.{Record}
use Rattle.tree.specs.Shape.{first_name}
use Rattle.tree.specs.Exact.{Holds}
use Rattle.book.specs.Book.{directory_of, shape_of}
use Rattle.report.specs.Report.{report_of}
use Rattle.report.specs.declared.Report.{Report}
use Rattle.lookup.specs.Lookup.{trail_in, count_in, effort_in}
use Rattle.lookup.specs.declared.Effort.{Effort}
use Rattle.lookup.specs.declared.Answer.{Answer}
use Rattle.lookup.specs.declared.Answer.TheVariants.{Found, Absent}

-- listing chunk c of the book, below the count, holds the name: that of its entry e compares equal (FORMAT Q5)
abbrev pub HoldsIn : List ℕ → Record → List ℕ → ℕ → Entry → Type 0
HoldsIn s book name c e = Holds (directory_of s book) (shape_of book) name c e

-- the book's first name (FORMAT Q7)
abbrev pub book_first : List ℕ → Record → List ℕ
book_first s book = first_name (directory_of s book book.first)

-- `r` is the answer; `was` and `is` are the trail before and after
pub record Complete (s : List ℕ) (book : Record) (name was : List ℕ) (r : Result Answer Refusal) (is : List ℕ) : Type 0 where
  -- an entry that a listing chunk holds is found, and is the one reported;
  pub held_found : (c : ℕ) (e : Entry) → HoldsIn s book name c e → r ≡ Ok (Found (effort_in s book name) (report_of book c e))
  -- what is found is an entry that a listing chunk holds;
  pub found_held : (x : Report) (n : Effort) → r ≡ Ok (Found n x) → (c : ℕ) × (e : Entry) × HoldsIn s book name c e × (x ≡ report_of book c e)
  -- there is no more than one such entry
  pub only : (c d : ℕ) (e f : Entry) → HoldsIn s book name c e → HoldsIn s book name d f → (c ≡ d) × (e ≡ f)
  -- absent is the answer exactly where no listing chunk holds the name; a refusal never is
  pub absent_iff : (r ≡ Ok (Absent (effort_in s book name))) ↔ ((c : ℕ) (e : Entry) → ¬ HoldsIn s book name c e)
  pub never_refused : (x : Refusal) → r ≢ Err x
  -- the trail begins with the chunks of the descent, and its later places stay
  pub places : is ≡ trail_in s book name ++ drop (count_in s book name) was
  -- there is one such chunk for a name below the book's first, else there are as many as the depth says
  pub count_when_below : below name (book_first s book) ≡ true → count_in s book name ≡ 1
  pub count_else : below name (book_first s book) ≡ false → count_in s book name ≡ book.depth
