-- A new book by its record: every chunk means the entries that its layout gives it.
use Rattle.fields.proofs.Base.{◌≡◌, refl, ap, ap₂, ◌∙◌, Bool, true, false, List, [], flatten, ℕ, ◌+◌, ◌-◌, ◌^◌, ◌≤◌, ◌<◌, arith, ℕ_discrete, length, get_or, ltb, ltb-true, eq-eqb, ne_eqb, Ok}
use Rattle.entries.specs.declared.Limits.{Limits}
use Rattle.entries.specs.declared.Kind.TheVariants.{Listing, Index}
use Rattle.chunk.specs.Chunk.{parsed}
use Rattle.chunk_fields.specs.ChunkFields.{spacing_of}
use Rattle.header.specs.Header.{header_of}
use Rattle.header.specs.declared.Record.{Record}
use Rattle.book.specs.Book.{limits_of, directory_of}
use Rattle.entries.specs.Stored.{Stored}
use Rattle.fields.proofs.Lists.{all_at, All, all_weaken}
use Rattle.source.proofs.Kept.{Kept}
use Rattle.compose.proofs.Placed.{Allowed}
use Rattle.compose.proofs.Reading.{parsed_new}
use Rattle.layout.specs.Headers.{head_length}
use Rattle.layout.specs.Layout.{Layout, layout_over, chunk_count, small_enough, new_previous, new_next, chunk_list}
use Rattle.roundtrip.specs.RoundTrip.{record_for, new_book}
use Rattle.roundtrip.proofs.Meaning.{Means}
use Rattle.layout.proofs.Small.{small_told}
use Rattle.layout.proofs.Rising.{groups_rise}
use Rattle.layout.proofs.Sound.{Child, Sound, Ordered, index_sound}
use Rattle.layout.proofs.Cut.{Cut, cut_kept, cut_ordered}
use Rattle.layout.proofs.Filled.{fit_room, leaves_some, nodes_fit, list_whole}
use Rattle.layout.proofs.Indexed.{indexed}
use Rattle.layout.proofs.Places.{length_book}
use Rattle.roundtrip.proofs.Framing.{header_read, leaf_read, node_read}

-- ---- the numbers of the chunks before and behind have room in their fields

prev_small : (c : ℕ) → c ≤ 4096 → new_previous c < 2 ^ 32
unfolding new_previous
prev_small c h =
    elim (ℕ_discrete c 0) [
      | yes e ↦ rw (eq-eqb c 0 e) (omega arith)
      | no e ↦ rw (ne_eqb c 0 e) (omega arith)
    ]

next_small : (m c : ℕ) → m ≤ 4096 → new_next m c < 2 ^ 32
unfolding new_next
next_small m c h = go (ltb (c + 1) m) refl
  where
    go : (t : Bool) → ltb (c + 1) m ≡ t → new_next m c < 2 ^ 32
    go true e = let b = ltb-true (c + 1) m e in rw e (omega arith)
    go false e = rw e (omega arith)

-- ---- entries that a chunk takes

kept_allowed : (limits : Limits) (e : Stored) → Kept limits.content e → Allowed limits Listing e
kept_allowed limits e k =
    record { some = k.some; short = k.short; numbers = (k.section, k.offset, k.size, k.within, k.childless) }

child_allowed : (limits : Limits) → limits.count ≤ 4096 → (e : Stored) → Child limits.count e → Allowed limits Index e
child_allowed limits h e k =
    record { some = k.some; short = k.short; numbers = (k.below, omega (arith, k.below), k.section, k.offset, k.size) }

module _ (density time language : ℕ) (es : List Stored) (gs : List (List Stored)) (content : List ℕ) (t : time < 2 ^ 32) (g : language < 2 ^ 32)
    (cut : Cut density (length content) es gs) (small : small_enough (layout_over (spacing_of density) gs) ≡ true) where
  abbrev n : ℕ
  n = spacing_of density

  abbrev l : Layout
  l = layout_over n gs

  abbrev m : ℕ
  m = length l.leaves

  abbrev file : List ℕ
  file = new_book density time language l content

  abbrev book : Record
  book = record_for density time language l

  -- ---- the layout

  abbrev ordered : Ordered gs
  ordered = cut_ordered density (length content) es gs cut

  nodes_sound : All (Sound (chunk_count l)) (flatten l.levels)
  unfolding layout_over
  nodes_sound = index_sound n (chunk_count l) 5 0 gs ordered (omega arith)

  few : chunk_count l ≤ 4096
  few = (small_told l small).0

  -- ---- the parts of the file

  abbrev whole : All (λ (c : List ℕ). length c ≡ 4096) (chunk_list n l)
  whole = list_whole density (length content) es gs cut

  abbrev some : 0 < m
  some = leaves_some density (length content) es gs cut

  one : length l.levels ≡ 0 → m ≡ 1
  unfolding layout_over
  one z = (indexed n 4 0 gs).one z some

  index_some : 0 < length l.levels → 0 < length (flatten l.levels)
  unfolding layout_over
  index_some h = (indexed n 4 0 gs).more h

  pub head_good : header_of file ≡ Ok book
  head_good = header_read density time language l content cut.dense t g cut.small small some one index_some whole

  abbrev limits : Limits
  limits = record { density = density; count = chunk_count l; content = length content }

  limits_are : limits_of file book ≡ limits
  unfolding limits_of record_for
  limits_are =
      let e : length file - head_length (chunk_count l) ≡ length content = omega (arith, length_book density time language l content whole) in
      ap (λ (c : ℕ). let r : Limits = record { density = density; count = chunk_count l; content = c } in r) e

  -- ---- the meaning of each chunk

  pub means : Means (directory_of file book) l
  unfolding directory_of layout_over
  means =
      record {
        leaf = λ c h.
            let x = get_or gs c [] in
            let f = all_at [] gs c cut.fit h in
            ap₂ parsed limits_are (leaf_read density time language l content cut.dense t g cut.small small some one index_some whole c h)
            ∙ parsed_new limits Listing (new_previous c) (new_next m c) x (prev_small c (omega (arith, few))) (next_small m c (omega (arith, few))) f.some (fit_room Listing n x f)
            (all_at [] gs c (groups_rise [] gs ordered.named ordered.order) h)
            (all_weaken (kept_allowed limits) (all_at [] gs c (cut_kept density (length content) es gs cut) h));
        node = λ i h.
            let x = get_or (flatten l.levels) i [] in
            let f = all_at [] (flatten l.levels) i (nodes_fit density (length content) es gs cut) h in
            let o = all_at [] (flatten l.levels) i nodes_sound h in
            ap₂ parsed limits_are (node_read density time language l content cut.dense t g cut.small small some one index_some whole i h)
            ∙ parsed_new limits Index (new_previous (m + i)) (new_next m (m + i)) x (prev_small (m + i) (omega (arith, few))) (next_small m (m + i) (omega (arith, few))) f.some (fit_room Index n x f)
            o.order (all_weaken (child_allowed limits few) o.entries);
      }
