-- A page: all entries of one chunk at once, and what it has to do with the steps in that chunk (FORMAT K7, K12, K13).
use Rattle.std.specs.Prelude.{ℕ, ◌*◌, ◌<◌, ◌≡◌, Bool, cond, ◌&&◌, length, leb, Result, Ok, Err}
use mathlib.Core.List.{List, [], ◌∷◌, flat_map}
use Rattle.std.proofs.lemmas.List.Edits.{sets}
use Rattle.refusals.specs.Refusals.{refusal_of}
use Rattle.chunk.specs.Chunk.{entries_in}
use Rattle.header.specs.declared.Record.{Record}
use Rattle.tree.specs.Shape.{next_of}
use Rattle.book.specs.Book.{directory_of}
use Rattle.report.specs.declared.Report.{Report}
use Rattle.listing.specs.Listing.{can_list, reports_in, cursor_at}
use Rattle.listing.specs.Whole.{steps_from, cursor_after}
use Rattle.page.specs.declared.Page.{Page}
use Rattle.page.specs.declared.Page.TheVariants.{Entries, Short}
use Rattle.refusals.specs.declared.Rule.TheVariants.{BadRecord}
use Rattle.refusals.specs.declared.Refusal.{Refusal}

-- the five numbers of a report in their order (K6, K7)
abbrev pub five_of : Report → List ℕ
five_of r = r.place ∷ r.length ∷ r.section ∷ r.offset ∷ r.size ∷ []

-- those of some reports, one behind another
unfoldable pub numbers_of : List Report → List ℕ
numbers_of rs = flat_map five_of rs

module _ (s : List ℕ) (book : Record) (c : ℕ) where
  -- its entries have room in n places
  unfoldable pub has_room : ℕ → Bool
  has_room n = leb (5 * length (entries_in (directory_of s book c))) n

  -- the answer for a slice of n places: the count of the entries, and the chunk's next as stored
  unfoldable pub page_of : ℕ → Result Page Refusal
  page_of n =
      cond (can_list s book c)
      (cond (has_room n) (Ok (Entries (length (entries_in (directory_of s book c))) (next_of (directory_of s book c)))) (Ok Short))
      (Err (refusal_of BadRecord))

  -- the slice t with the entries' numbers from place 0 on; t itself where they are refused (RO8) or have no room
  unfoldable pub page_in : List ℕ → List ℕ
  page_in t = cond (can_list s book c && has_room (length t)) (sets t 0 (numbers_of (reports_in s book c))) t

-- ---- a page of n entries in the slice t, with its next chunk, and the steps in chunk c

pub record PageSteps (s : List ℕ) (book : Record) (c : ℕ) (t : List ℕ) (n next : ℕ) : Type 0 where
  -- n steps from entry 0 on report n entries, whose numbers are those of the page, five by five;
  pub count : length (steps_from s book n (cursor_at c 0)) ≡ n
  pub numbers : page_in s book c t ≡ sets t 0 (numbers_of (steps_from s book n (cursor_at c 0)))
  -- each of them is in the chunk,
  pub inside : (i : ℕ) → i < n → cursor_after s book i (cursor_at c 0) ≡ cursor_at c i
  -- and behind the last is entry 0 of the page's next chunk
  pub behind : cursor_after s book n (cursor_at c 0) ≡ cursor_at next 0
