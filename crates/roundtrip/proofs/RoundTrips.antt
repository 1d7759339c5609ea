-- The round trip (`round_trip`): the head of a layout over entries that are cut so that they fit, with content of that length behind it, is a book
-- with the record that inputs and layout fix, and its listing is those entries.
use Rattle.fields.proofs.Base.{◌≡◌, refl, sym, ap, ap₂, subst, ◌∙◌, true, List, [], ◌∷◌, ◌++◌, map, flatten, flat_map, ℕ, zero, suc, ◌+◌, ◌-◌, ◌^◌, ◌<◌, arith, length, get_or, dec_le, Result, Ok}
use mathlib.Core.List.{map-append}
use Rattle.fields.specs.Part.{part}
use Rattle.fields.proofs.Parts.{part_inside, part_within}
use Rattle.fields.proofs.Tests.{never}
use Rattle.encint.specs.Encint.{encoded}
use Rattle.entries.specs.declared.Kind.TheVariants.{Listing}
use Rattle.entries.specs.Entry.{Entry}
use Rattle.chunk.specs.Chunk.{Parsed, bad, listing, index, is_good, is_kind, entries_in}
use Rattle.chunk_fields.specs.ChunkFields.{spacing_of, first_place}
use Rattle.chunk.proofs.Accepted.{chunk_accepted}
use Rattle.header.specs.declared.Record.{Record}
use Rattle.book.specs.Book.{limits_of, chunk_place, chunk_bytes, directory_of}
use Rattle.report.specs.Report.{report_of}
use Rattle.report.specs.declared.Report.{Report}
use Rattle.book.proofs.Laws.{chunk_inside}
use Rattle.opening.specs.Opened.{chunk_then, chunks_then, linked_book, opened}
use Rattle.listing.specs.Listing.{reports_in}
use Rattle.listing.specs.Whole.{whole_listing}
use Rattle.entries.specs.Stored.{Stored}
use Rattle.fields.proofs.Lists.{all_at, All, none, more}
use Rattle.source.proofs.Kept.{Kept}
use Rattle.pack.specs.Levels.{entry_size}
use Rattle.compose.proofs.Placed.{placed_from}
use Rattle.layout.specs.Layout.{Layout, layout_over, chunk_count, small_enough}
use Rattle.layout.proofs.Cut.{Cut, cut_kept, cut_ordered, cut_some}
use Rattle.roundtrip.specs.RoundTrip.{record_for, told_of, new_book, RoundTrip}
use Rattle.roundtrip.proofs.Meaning.{Means}
use Rattle.roundtrip.proofs.Numbers.{numbers}
use Rattle.roundtrip.proofs.Linking.{Links, links}
use Rattle.roundtrip.proofs.Meant.{head_good, means}
use Rattle.roundtrip.proofs.Names.{There, names_there}
use Rattle.refusals.specs.declared.Refusal.{Refusal}

-- ---- opening: no chunk is bad

then_good : (p : Parsed) (c : ℕ) (r : Result Record Refusal) → is_good p ≡ true → chunk_then p c r ≡ r
then_good (bad n) c r h = never h
then_good (listing prev next es) c r h = refl
then_good (index es) c r h = refl

all_good : (D : ℕ → Parsed) (r : Result Record Refusal) (n c : ℕ) → ((i : ℕ) → i < n → is_good (D (c + i)) ≡ true) → chunks_then D n c r ≡ r
unfolding chunks_then
all_good D r zero c h = refl
all_good D r (suc n) c h =
    then_good (D c) c _ (subst (λ (x : ℕ). is_good (D x) ≡ true) (omega arith) (h 0 (omega arith)))
    ∙ all_good D r n (c + 1) (λ i k. subst (λ (x : ℕ). is_good (D x) ≡ true) (omega arith) (h (i + 1) (omega arith)))

-- ---- listing: what the reports of a chunk tell

-- a report of an entry of chunk c tells of it
module _ (s : List ℕ) (book : Record) (c : ℕ) (whole : length (chunk_bytes s book c) ≡ 4096) where
  name_there : (e : Entry) → There (chunk_bytes s book c) e → part s (chunk_place book c + e.start) (length e.name) ≡ e.name
  unfolding chunk_bytes
  name_there e t =
      let i = chunk_inside s book c whole in
      sym (part_within s (chunk_place book c) 4096 e.start (length e.name) (omega (arith, t.inside)))
      ∙ ap (λ (x : List ℕ). part x e.start (length e.name)) (sym (part_inside s (chunk_place book c) 4096 i))
      ∙ t.bytes

  told_all : (content at : ℕ) (g : List Stored) → All (Kept content) g → All (There (chunk_bytes s book c)) (placed_from Listing at g)
      → map (told_of s) (map (report_of book c) (placed_from Listing at g)) ≡ g
  unfolding placed_from report_of
  told_all content at [] none none = refl
  told_all content at (e ∷ g) (more k ks) (more t ts) =
      let x : Entry =
      record {
        at = at;
        start = at + length (encoded (length e.name));
        name = e.name;
        section = e.section;
        offset = e.offset;
        size = e.size;
        child = e.child;
        next = at + entry_size Listing e;
      } in
      let head : told_of s (report_of book c x) ≡ e =
      ap₂ (λ (name : List ℕ) (child : ℕ). let r : Stored = record { name = name; section = e.section; offset = e.offset; size = e.size; child = child } in r)
      (name_there x t) (sym k.childless) in
      ap₂ (λ (y : Stored) (ys : List Stored). y ∷ ys) head (told_all content (at + entry_size Listing e) g ks ts)

-- reports of chunk after chunk
told_chunks : (f : ℕ → List Report) (t : Report → Stored) (c : ℕ) (gs : List (List Stored)) → ((i : ℕ) → i < length gs → map t (f (c + i)) ≡ get_or gs i [])
    → map t (flat_map f (numbers c (length gs))) ≡ flatten gs
unfolding numbers flat_map flatten
told_chunks f t c [] h = refl
told_chunks f t c (g ∷ gs) h =
    let first : map t (f c) ≡ g = subst (λ (x : ℕ). map t (f x) ≡ g) (omega arith) (h 0 (omega arith)) in
    map-append t (f c) (flat_map f (numbers (c + 1) (length gs)))
    ∙ ap₂ (λ (x y : List Stored). x ++ y) first
    (told_chunks f t (c + 1) gs (λ i k. subst (λ (x : ℕ). map t (f x) ≡ get_or gs i []) (omega arith) (h (suc i) (omega arith))))

module _ (density time language : ℕ) (es : List Stored) (gs : List (List Stored)) (content : List ℕ) (t : time < 2 ^ 32) (g : language < 2 ^ 32)
    (cut : Cut density (length content) es gs) (small : small_enough (layout_over (spacing_of density) gs) ≡ true) where
  abbrev l : Layout
  l = layout_over (spacing_of density) gs

  abbrev m : ℕ
  m = length l.leaves

  abbrev file : List ℕ
  file = new_book density time language l content

  abbrev book : Record
  book = record_for density time language l

  abbrev D : ℕ → Parsed
  D = directory_of file book

  meant : Means D l
  meant = means density time language es gs content t g cut small

  linked : Links D l
  linked =
      links D (spacing_of density) gs (cut_some density (length content) es gs cut) (cut_ordered density (length content) es gs cut) small meant

  good : (c : ℕ) → c < chunk_count l → is_good (D c) ≡ true
  good c h =
      elim (dec_le m c) [
        | yes k ↦ subst (λ (x : ℕ). is_good (D x) ≡ true) (omega arith) (ap is_good (meant.node (c - m) (omega arith)))
        | no k ↦ ap is_good (meant.leaf c (omega arith))
      ]

  opens : opened file ≡ Ok book
  unfolding opened linked_book record_for
  opens =
      rw (head_good density time language es gs content t g cut small)
      (all_good D (linked_book file book) (chunk_count l) 0 (λ i k. subst (λ (x : ℕ). is_good (D x) ≡ true) (omega arith) (good i k)) ∙ rw (linked.chain_passes, linked.tree_passes) refl)

  -- the reports of listing chunk c
  told : (c : ℕ) → c < length gs → map (told_of file) (reports_in file book c) ≡ get_or gs c []
  unfolding directory_of layout_over
  told c h =
      let e = meant.leaf c h in
      let a = chunk_accepted (limits_of file book) Listing (chunk_bytes file book c) (ap (is_kind Listing) e) in
      let there = names_there (limits_of file book) (chunk_bytes file book c) _ _ _ _ a.entries in
      let kept = all_at [] gs c (cut_kept density (length content) es gs cut) h in
      ap (λ (p : Parsed). map (told_of file) (map (report_of book c) (entries_in p))) e
      ∙ told_all file book c a.size (length content) (first_place Listing) (get_or gs c []) kept (subst (λ (p : Parsed). All (There (chunk_bytes file book c)) (entries_in p)) e there)

  lists : map (told_of file) (whole_listing file book) ≡ es
  unfolding whole_listing layout_over record_for
  lists =
      ap (λ (cs : List ℕ). map (told_of file) (flat_map (reports_in file book) cs)) linked.chain_is
      ∙ told_chunks (reports_in file book) (told_of file) 0 gs (λ i h. subst (λ (x : ℕ). map (told_of file) (reports_in file book x) ≡ get_or gs i []) (omega arith) (told i h))
      ∙ cut.whole

  pub round_trip : RoundTrip density time language l es file
  round_trip = record { opens = opens; lists = lists }
