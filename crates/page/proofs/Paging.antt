-- A page by its cases: the answer and the lent slice for each of its answers.
use Rattle.fields.proofs.Base.{◌≡◌, true, false, List, ℕ, ◌*◌, ◌≤◌, ◌<◌, arith, length, sets, le-leb, lt-leb, Result, Ok, Err}
use Rattle.refusals.specs.Refusals.{refusal_of}
use Rattle.chunk_fields.specs.ChunkFields.{entry_count}
use Rattle.chunk.specs.Chunk.{entries_in}
use Rattle.header.specs.declared.Record.{Record}
use Rattle.tree.specs.Shape.{next_of, listing_chunk}
use Rattle.tree.proofs.Chunks.{listing_chunk_lem}
use Rattle.book.specs.Book.{chunk_bytes, directory_of, shape_of, record_fits}
use Rattle.page.specs.Page.{numbers_of, has_room, page_of, page_in}
use Rattle.listing.specs.Listing.{reports_in, can_list}
use Rattle.page.specs.declared.Page.{Page}
use Rattle.page.specs.declared.Page.TheVariants.{Entries, Short}
use Rattle.book.proofs.Read.{entries_length}
use Rattle.refusals.specs.declared.Rule.TheVariants.{BadRecord}
use Rattle.refusals.specs.declared.Refusal.{Refusal}

module _ (s : List ℕ) (book : Record) (c : ℕ) (t : List ℕ) where
  -- the answer r, and the lent slice as it is then
  abbrev pub Answers : Result Page Refusal → List ℕ → Type 0
  Answers r u = record { answer : r ≡ page_of s book c (length t); written : u ≡ page_in s book c t }

  pub page_unfit : record_fits s book ≡ false → Answers (Err (refusal_of BadRecord)) t
  unfolding page_of page_in can_list
  page_unfit f = record { answer = rw f; written = rw f }

  module _ (f : record_fits s book ≡ true) where
    pub page_other : listing_chunk (directory_of s book) (shape_of book) c ≡ false → Answers (Err (refusal_of BadRecord)) t
    unfolding page_of page_in can_list
    page_other h = record { answer = rw (f, h); written = rw (f, h) }

    module _ (h : listing_chunk (directory_of s book) (shape_of book) c ≡ true) (n : ℕ) (z : n ≡ entry_count (chunk_bytes s book c)) where
      count_right : length (entries_in (directory_of s book c)) ≡ n
      count_right = let l = entries_length s book c (listing_chunk_lem (directory_of s book) (shape_of book) c h).1 in omega arith

      pub page_short : length t < 5 * n → Answers (Ok Short) t
      unfolding page_of page_in can_list has_room
      page_short l =
          let r = lt-leb (5 * n) (length t) l in
          record { answer = rw (f, h, count_right, r); written = rw (f, h, count_right, r) }

      pub page_done : 5 * n ≤ length t → (next : ℕ) → next_of (directory_of s book c) ≡ next
          → (u : List ℕ) → u ≡ sets t 0 (numbers_of (reports_in s book c)) → Answers (Ok (Entries n next)) u
      unfolding page_of page_in can_list has_room
      page_done l next q u e =
          let r = le-leb (5 * n) (length t) l in
          record { answer = rw (f, h, count_right, r, q); written = rw (f, h, count_right, r) e }
