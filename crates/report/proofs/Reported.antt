-- What was read in a chunk that has its bytes is reported as its entry says; the own bytes of an entry are its name and the numbers that are reported.
use Rattle.fields.proofs.Base.{◌≡◌, sym, ap, ◌∙◌, true, List, ℕ, ◌+◌, ◌-◌, ◌≤◌, ◌<◌, arith, length, get_or, le-leb, Some, None}
use Rattle.fields.specs.Part.{part, part_of}
use Rattle.fields.proofs.Parts.{length_part}
use Rattle.encint.specs.Encint.{encoded}
use Rattle.entries.specs.Entry.{item_at, name_of, Entry, entry_of}
use Rattle.entries.specs.declared.Limits.{Limits}
use Rattle.entries.specs.declared.Place.{Place}
use Rattle.entries.proofs.Laws.{item_inside}
use Rattle.entries.proofs.Padded.{entry_stands}
use Rattle.entries.specs.declared.Kind.TheVariants.{Listing}
use Rattle.chunk.specs.Chunk.{entries_in}
use Rattle.chunk_fields.specs.ChunkFields.{entry_count}
use Rattle.quickref.specs.Quickref.{absent, found, nth, sought_of, nth_in}
use Rattle.quickref.proofs.Steps.{nth_read}
use Rattle.quickref.proofs.Good.{nth_good}
use Rattle.header.specs.declared.Record.{Record}
use Rattle.tree.specs.Shape.{is_listing}
use Rattle.book.specs.Book.{limits_of, chunk_place, chunk_bytes, directory_of}
use Rattle.book.proofs.Laws.{chunk_inside, chunk_whole, chunk_part, chunk_small}
use Rattle.report.specs.Report.{report_of, report_at, own_of, own_at, OwnBytes}

module _ (s : List ℕ) (r : Record) (c : ℕ) where
  pub report_entry : (p : Place) → length (chunk_bytes s r c) ≡ 4096 → p.start + p.len ≤ 4096 → report_at s r c p ≡ report_of r c (entry_of (chunk_bytes s r c) p)
  unfolding report_at report_of
  report_entry p e h =
      let i = chunk_inside s r c e in
      let n = length_part (chunk_bytes s r c) p.start p.len (omega arith) in
      rw (le-leb (chunk_place r c + p.start) (length s) (omega arith), n)

  pub own_entry : (p : Place) → length (chunk_bytes s r c) ≡ 4096 → p.at ≤ 4096 → own_at s r c p ≡ own_of r c (entry_of (chunk_bytes s r c) p)
  unfolding own_at own_of
  own_entry p e h =
      let i = chunk_inside s r c e in
      rw (le-leb (chunk_place r c + p.at) (length s) (omega arith))

-- ---- a listing chunk of a book

module _ (s : List ℕ) (book : Record) (c : ℕ) (is : is_listing (directory_of s book c) ≡ true) where
  -- the bytes of the chunk, what they are held to, and their entries
  abbrev bytes : List ℕ
  bytes = chunk_bytes s book c

  abbrev limits : Limits
  limits = limits_of s book

  abbrev es : List Entry
  es = entries_in (directory_of s book c)

  -- what was read is reported as its entry says
  pub read_reported : (at : ℕ) (e : Place) → item_at limits Listing bytes at ≡ Some e → report_at s book c e ≡ report_of book c (entry_of bytes e)
  read_reported at e h =
      let z = chunk_whole s book c Listing is in
      let i = (item_inside limits Listing bytes at e h).name in
      report_entry s book c e (chunk_whole s book c Listing is) (omega arith)

  pub read_owned : (at : ℕ) (e : Place) → item_at limits Listing bytes at ≡ Some e → own_at s book c e ≡ own_of book c (entry_of bytes e)
  read_owned at e h =
      let z = chunk_whole s book c Listing is in
      let i = item_inside limits Listing bytes at e h in
      let m = i.moves in
      let n = i.ends in
      let q = i.same in
      own_entry s book c e (chunk_whole s book c Listing is) (omega arith)

  -- entry i as it is found
  pub nth_hit : (i : ℕ) (e : Place) → nth_in limits Listing bytes i ≡ Some e
      → (i < entry_count bytes) × (nth i es ≡ found (entry_of bytes e)) × (report_at s book c e ≡ report_of book c (entry_of bytes e))
  unfolding directory_of
  nth_hit i e h =
      let r = nth_read limits Listing bytes i e h in
      (r.0, sym (nth_good limits bytes Listing i is) ∙ ap (sought_of bytes) h, read_reported r.1 e r.2)

  pub nth_nothing : (i : ℕ) → nth_in limits Listing bytes i ≡ None → nth i es ≡ absent
  unfolding directory_of
  nth_nothing i h = sym (nth_good limits bytes Listing i is) ∙ ap (sought_of bytes) h

  -- the own bytes lie in the file, and are those of the chunk from the entry's place to the place behind it
  pub own_stored : (at : ℕ) (e : Place) → item_at limits Listing bytes at ≡ Some e
      → part_of s (own_of book c (entry_of bytes e)).place (own_of book c (entry_of bytes e)).length ≡ part bytes e.at (e.next - e.at)
  unfolding own_of
  own_stored at e h =
      let z = chunk_whole s book c Listing is in
      let i = item_inside limits Listing bytes at e h in
      let m = i.moves in
      let n = i.ends in
      let q = i.same in
      chunk_part s book c z e.at (e.next - e.at) (omega arith)

  -- and so with its name
  name_stored : (at : ℕ) (e : Place) → item_at limits Listing bytes at ≡ Some e
      → part_of s (report_of book c (entry_of bytes e)).place (report_of book c (entry_of bytes e)).length ≡ name_of bytes e
  unfolding report_of
  name_stored at e h =
      let z = chunk_whole s book c Listing is in
      let n = (item_inside limits Listing bytes at e h).name in
      let l : length (name_of bytes e) ≡ e.len = length_part bytes e.start e.len n in
      ap (part_of s (chunk_place book c + e.start)) l ∙ chunk_part s book c z e.start e.len (omega arith)

  -- the own bytes are the name, and around it the numbers that are reported, each in its short form behind bytes 80 or none
  pub own_padded : ((i : ℕ) → get_or s i 0 < 256) → (at : ℕ) (e : Place) → item_at limits Listing bytes at ≡ Some e
      → OwnBytes s (report_of book c (entry_of bytes e)) (own_of book c (entry_of bytes e))
  unfolding item_at report_of own_of
  own_padded b at e h =
      let p = entry_stands bytes (chunk_small s book c b) limits.content at e h in
      let n = (item_inside limits Listing bytes at e h).name in
      let l : length (name_of bytes e) ≡ e.len = length_part bytes e.start e.len n in
      let q : e.start ≡ e.at + (p.0.ahead + length (encoded e.len)) = p.1 in
      let m : length (encoded (length (name_of bytes e))) ≡ length (encoded e.len) = ap (λ (v : ℕ). length (encoded v)) l in
      record {
        entry = rw (own_stored at e h, name_stored at e h) p.0;
        name = omega arith;
      }
