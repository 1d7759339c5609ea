-- The entries of a listing chunk that passed its check, as they are read: their count, each behind the one before it.
use Rattle.fields.proofs.Base.{◌≡◌, sym, ap, ◌∙◌, true, List, ◌∷◌, ℕ, zero, suc, ◌+◌, ◌-◌, ◌≤◌, ◌<◌, arith, length, drop, drop-drop, Some}
use Rattle.entries.specs.Entry.{item_at, Entry, entry_of}
use Rattle.entries.specs.declared.Limits.{Limits}
use Rattle.entries.specs.declared.Place.{Place}
use Rattle.entries.proofs.Laws.{item_inside}
use Rattle.entries.specs.declared.Kind.TheVariants.{Listing}
use Rattle.chunk.specs.Chunk.{all, entries_at, entries_in}
use Rattle.chunk_fields.specs.ChunkFields.{entry_count, tail_length, first_place}
use Rattle.chunk.proofs.Accepted.{Accepted, chunk_accepted, entries_more, entries_count}
use Rattle.header.specs.declared.Record.{Record}
use Rattle.tree.specs.Shape.{is_listing}
use Rattle.book.specs.Book.{limits_of, chunk_bytes, directory_of}

-- ---- entries that are left: those from entry i on

rest_is : (i : ℕ) (es : List Entry) (e : Entry) (ds : List Entry) → drop i es ≡ e ∷ ds → drop (i + 1) es ≡ ds
rest_is i es e ds q = sym (drop-drop 1 i es) ∙ ap (drop 1) q

pub left_more : (limits : Limits) (s : List ℕ) (end n i at : ℕ) (es : List Entry) → i < n → entries_at limits Listing s end (n - i) at ≡ all (drop i es)
    → (p : Place) × (item_at limits Listing s at ≡ Some p) × (drop i es ≡ entry_of s p ∷ drop (i + 1) es)
    × (entries_at limits Listing s end (n - (i + 1)) p.next ≡ all (drop (i + 1) es))
left_more limits s end n i at es l e =
    let q : n - i ≡ suc (n - (i + 1)) = omega arith in
    let m = entries_more limits Listing s end (n - (i + 1)) at (drop i es) (rw q at e) in
    let r : drop (i + 1) es ≡ m.1 = rest_is i es (entry_of s m.0) m.1 m.3 in
    (m.0, m.2, rw r m.3, rw r m.4)

-- each takes a byte at least
entries_fit : (limits : Limits) (s : List ℕ) (end n at : ℕ) (es : List Entry) → entries_at limits Listing s end n at ≡ all es → at ≤ length s → at + n ≤ length s
entries_fit limits s end zero at es e l = omega arith
entries_fit limits s end (suc n) at es e l =
    let m = entries_more limits Listing s end n at es e in
    let i = item_inside limits Listing s at m.0 m.2 in
    let a = i.moves in
    let b = i.ends in
    let r = entries_fit limits s end n m.0.next m.1 m.4 (omega arith) in
    omega arith

-- ---- a listing chunk of a book

module _ (s : List ℕ) (book : Record) (c : ℕ) (is : is_listing (directory_of s book c) ≡ true) where
  -- the bytes of the chunk, what they are held to, and their entries
  abbrev bytes : List ℕ
  bytes = chunk_bytes s book c

  abbrev limits : Limits
  limits = limits_of s book

  abbrev es : List Entry
  es = entries_in (directory_of s book c)

  good : Accepted limits Listing bytes es
  unfolding directory_of
  good = chunk_accepted limits Listing bytes is

  pub entries_length : length es ≡ entry_count bytes
  entries_length = entries_count limits Listing bytes (4096 - tail_length bytes) (entry_count bytes) (first_place Listing) es good.entries

  pub entries_some : 0 < length es
  entries_some = let l = entries_length in let g = good.some in omega arith

  pub entries_few : length es ≤ 4096
  entries_few =
      let z = good.size in
      let l = entries_length in
      let f = entries_fit limits bytes (4096 - tail_length bytes) (entry_count bytes) (first_place Listing) es good.entries (omega arith) in
      omega arith

  -- all of them are left at first
  pub entries_left : entries_at limits Listing bytes (4096 - tail_length bytes) (entry_count bytes - 0) (first_place Listing) ≡ all es
  entries_left = let z : entry_count bytes - 0 ≡ entry_count bytes = omega arith in rw z good.entries

  pub entries_read : entries_at limits Listing bytes (4096 - tail_length bytes) (length es) (first_place Listing) ≡ all es
  entries_read = rw entries_length good.entries
