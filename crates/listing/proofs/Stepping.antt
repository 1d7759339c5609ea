-- A step by its cases: one law for each of its answers.
use Rattle.fields.proofs.Base.{◌≡◌, sym, ap, ◌∙◌, true, false, List, ℕ, ◌+◌, ◌≤◌, ◌<◌, arith, length, lt-ltb, le-ltb, eq-eqb, ne_eqb, Option, Some, None, Ok, Err}
use Rattle.refusals.specs.Refusals.{no_chunk, refusal_of}
use Rattle.entries.specs.declared.Place.{Place}
use Rattle.entries.specs.declared.Kind.TheVariants.{Listing}
use Rattle.entries.specs.Entry.{Entry, entry_of}
use Rattle.chunk.specs.Chunk.{Parsed, entries_in}
use Rattle.chunk_fields.specs.ChunkFields.{entry_count}
use Rattle.quickref.specs.Quickref.{absent, found, nth, nth_in}
use Rattle.header.specs.declared.Record.{Record}
use Rattle.tree.specs.Shape.{is_listing, next_of, listing_chunk}
use Rattle.book.specs.Book.{limits_of, chunk_bytes, directory_of, shape_of, record_fits}
use Rattle.report.specs.Report.{report_of, report_at}
use Rattle.listing.specs.Listing.{cursor_at, moved_on, entry_step, stepped}
use Rattle.listing.specs.declared.Cursor.{Cursor}
use Rattle.listing.specs.declared.Step.TheVariants.{Entry as Reported, End}
use Rattle.tree.proofs.Chunks.{listing_chunk_lem}
use Rattle.book.proofs.Laws.{fits_told}
use Rattle.book.proofs.Read.{entries_length}
use Rattle.report.proofs.Reported.{nth_hit, nth_nothing}
use Rattle.refusals.specs.declared.Rule.TheVariants.{BadRecord}

-- at a cursor in a chunk that is p
module _ (book : Record) (p : Parsed) (at : Cursor) where
  pub entry_absent : nth at.entry (entries_in p) ≡ absent → entry_step book p at ≡ Err (refusal_of BadRecord)
  unfolding entry_step
  entry_absent h = rw h

  module _ (e : Entry) (h : nth at.entry (entries_in p) ≡ found e) where
    pub entry_inside : at.entry + 1 < length (entries_in p) → entry_step book p at ≡ Ok (Reported (report_of book at.chunk e) (cursor_at at.chunk (at.entry + 1)))
    unfolding entry_step moved_on
    entry_inside l = rw (h, lt-ltb _ _ l)

    pub entry_last : length (entries_in p) ≤ at.entry + 1 → entry_step book p at ≡ Ok (Reported (report_of book at.chunk e) (cursor_at (next_of p) 0))
    unfolding entry_step moved_on
    entry_last l = rw (h, le-ltb _ _ l)

-- the same of what was read in the bytes of the chunk
module _ (s : List ℕ) (book : Record) (at : Cursor) (is : is_listing (directory_of s book at.chunk) ≡ true) where
  abbrev bytes : List ℕ
  bytes = chunk_bytes s book at.chunk

  abbrev hit : Option Place
  hit = nth_in (limits_of s book) Listing bytes at.entry

  pub read_absent : hit ≡ None → entry_step book (directory_of s book at.chunk) at ≡ Err (refusal_of BadRecord)
  read_absent h = entry_absent book (directory_of s book at.chunk) at (nth_nothing s book at.chunk is at.entry h)

  module _ (e : Place) (h : hit ≡ Some e) where
    pub read_low : at.entry < entry_count bytes
    read_low = (nth_hit s book at.chunk is at.entry e h).0

    pub read_inside : at.entry + 1 < entry_count bytes
        → entry_step book (directory_of s book at.chunk) at ≡ Ok (Reported (report_at s book at.chunk e) (cursor_at at.chunk (at.entry + 1)))
    read_inside l =
        let n = nth_hit s book at.chunk is at.entry e h in
        let z = entries_length s book at.chunk is in
        entry_inside book (directory_of s book at.chunk) at (entry_of bytes e) n.1 (omega arith)
        ∙ ap (λ r. Ok (Reported r (cursor_at at.chunk (at.entry + 1)))) (sym n.2)

    pub read_last : entry_count bytes ≤ at.entry + 1
        → entry_step book (directory_of s book at.chunk) at ≡ Ok (Reported (report_at s book at.chunk e) (cursor_at (next_of (directory_of s book at.chunk)) 0))
    read_last l =
        let n = nth_hit s book at.chunk is at.entry e h in
        let z = entries_length s book at.chunk is in
        entry_last book (directory_of s book at.chunk) at (entry_of bytes e) n.1 (omega arith)
        ∙ ap (λ r. Ok (Reported r (cursor_at (next_of (directory_of s book at.chunk)) 0))) (sym n.2)

module _ (s : List ℕ) (book : Record) (at : Cursor) where
  pub step_unfit : record_fits s book ≡ false → stepped s book at ≡ Err (refusal_of BadRecord)
  unfolding stepped
  step_unfit f = rw f

  module _ (f : record_fits s book ≡ true) where
    pub step_end : at.chunk ≡ no_chunk → stepped s book at ≡ Ok (End at)
    unfolding stepped
    step_end h = rw (f, eq-eqb at.chunk no_chunk h)

    module _ (n : at.chunk ≡ no_chunk → ⊥) where
      pub step_other : listing_chunk (directory_of s book) (shape_of book) at.chunk ≡ false → stepped s book at ≡ Err (refusal_of BadRecord)
      unfolding stepped
      step_other h = rw (f, ne_eqb at.chunk no_chunk n, h)

      pub step_entry : listing_chunk (directory_of s book) (shape_of book) at.chunk ≡ true → stepped s book at ≡ entry_step book (directory_of s book at.chunk) at
      unfolding stepped
      step_entry h = rw (f, ne_eqb at.chunk no_chunk n, h)

-- the number of a listing chunk is not that of none
pub some_chunk : (s : List ℕ) (book : Record) (c : ℕ) → record_fits s book ≡ true → listing_chunk (directory_of s book) (shape_of book) c ≡ true → c ≡ no_chunk → ⊥
some_chunk s book c fits here e = omega (arith, (listing_chunk_lem (directory_of s book) (shape_of book) c here).0, (fits_told s book fits).few_chunks)
