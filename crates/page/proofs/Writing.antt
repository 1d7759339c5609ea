-- A page as it is written: the numbers of the entries that are left make the whole.
use Rattle.fields.proofs.Base.{◌≡◌, refl, sym, ap, ◌∙◌, true, List, [], ◌++◌, map, flat_map, ℕ, ◌+◌, ◌-◌, ◌*◌, ◌≤◌, ◌<◌, arith, length, drop, drop_of_length-le, sets, length-sets, Some, None}
use Rattle.put.proofs.Put.{sets_after}
use Rattle.entries.specs.Entry.{item_at, Entry}
use Rattle.entries.specs.declared.Place.{Place}
use Rattle.entries.specs.declared.Kind.TheVariants.{Listing}
use Rattle.chunk.specs.Chunk.{all, entries_at, entries_in}
use Rattle.chunk_fields.specs.ChunkFields.{first_place, entry_count, tail_length}
use Rattle.header.specs.declared.Record.{Record}
use Rattle.tree.specs.Shape.{is_listing}
use Rattle.book.specs.Book.{limits_of, chunk_bytes, directory_of}
use Rattle.report.specs.Report.{report_of, report_at}
use Rattle.report.specs.declared.Report.{Report}
use Rattle.page.specs.Page.{five_of, numbers_of}
use Rattle.listing.specs.Listing.{reports_in}
use Rattle.book.proofs.Read.{left_more, entries_left, entries_length}
use Rattle.report.proofs.Reported.{read_reported}

module _ (s : List ℕ) (book : Record) (c : ℕ) where
  abbrev es : List Entry
  es = entries_in (directory_of s book c)

  abbrev bytes : List ℕ
  bytes = chunk_bytes s book c

  -- before entry i is written: the entries from i on stand from `at` on, and with their numbers the page is whole
  pub record Left (t₀ : List ℕ) (t : List ℕ) (at i : ℕ) : Type 0 where
    pub low : i ≤ entry_count bytes
    pub size : length t ≡ length t₀
    pub read : entries_at (limits_of s book) Listing bytes (4096 - tail_length bytes) (entry_count bytes - i) at ≡ all (drop i es)
    pub whole : sets t (5 * i) (numbers_of (map (report_of book c) (drop i es))) ≡ sets t₀ 0 (numbers_of (reports_in s book c))

  module _ (is : is_listing (directory_of s book c) ≡ true) where
    pub left_start : (t : List ℕ) → Left t t (first_place Listing) 0
    left_start t = record { low = omega arith; size = refl; read = entries_left s book c is; whole = refl }

    -- an entry is there
    pub left_there : (t₀ t : List ℕ) (at i : ℕ) → Left t₀ t at i → i < entry_count bytes → item_at (limits_of s book) Listing bytes at ≡ None → ⊥
    left_there t₀ t at i h l b =
        let m = left_more (limits_of s book) bytes (4096 - tail_length bytes) (entry_count bytes) i at es l h.read in
        let q : None ≡ Some m.0 = sym b ∙ m.1 in
        let z : ◌≡◌ {A = ℕ} 0 1 = cc in
        omega arith

    -- a turn writes the numbers of entry i
    pub left_turn : (t₀ t u : List ℕ) (at i : ℕ) (e : Place) → Left t₀ t at i → i < entry_count bytes → item_at (limits_of s book) Listing bytes at ≡ Some e
        → u ≡ sets t (5 * i) (five_of (report_at s book c e)) → Left t₀ u e.next (i + 1)
    unfolding numbers_of flat_map
    left_turn t₀ t u at i e h l g q =
        let m = left_more (limits_of s book) bytes (4096 - tail_length bytes) (entry_count bytes) i at es l h.read in
        let p : m.0 ≡ e = (let z : Some m.0 ≡ Some e = sym m.1 ∙ g in cc) in
        let five = five_of (report_at s book c e) in
        let rest = numbers_of (map (report_of book c) (drop (i + 1) es)) in
        let f : five ++ rest ≡ numbers_of (map (report_of book c) (drop i es)) =
        rw (m.2, p) (ap (λ (r : Report). five_of r ++ rest) (read_reported s book c is at e g)) in
        let k : 5 * (i + 1) ≡ 5 * i + 5 = omega arith in
        record {
          low = omega arith;
          size = ap length q ∙ length-sets t (5 * i) five ∙ h.size;
          read = rw p at m.3;
          whole = rw (q, k) (sets_after t (5 * i) five rest ∙ ap (sets t (5 * i)) f ∙ h.whole);
        }

    -- none is left
    pub left_end : (t₀ t : List ℕ) (at i : ℕ) → Left t₀ t at i → entry_count bytes ≤ i → t ≡ sets t₀ 0 (numbers_of (reports_in s book c))
    unfolding numbers_of flat_map
    left_end t₀ t at i h l =
        let z = entries_length s book c is in
        let d : drop i es ≡ [] = drop_of_length-le es {i = i} (omega arith) in
        rw d at h.whole
