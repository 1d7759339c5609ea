-- What is read along the chain of a book that opens: all its entries, to the end, in the order of their names; and they are few.
use Rattle.fields.proofs.Base.{◌≡◌, sym, ap, ◌∙◌, List, [], ◌∷◌, map, ℕ, ◌<◌, ◌^◌, arith, length, length-map, Ok}
use Rattle.chunk.specs.Chunk.{Parsed}
use Rattle.header.specs.declared.Record.{Record}
use Rattle.header.proofs.Accepted.{header_accepted}
use Rattle.tree.specs.Lists.{Each}
use Rattle.tree.specs.Chain.{chain, chain_entries}
use Rattle.tree.specs.Reading.{Held, held_of}
use Rattle.tree.proofs.Lists.{in_map}
use Rattle.tree.proofs.Rising.{Before, rising_each}
use Rattle.tree.proofs.Linked.{good_filled, listed}
use Rattle.tree.proofs.Reading.{entry_in, reading_good, held_entries, chain_short, entries_short}
use Rattle.book.specs.Book.{directory_of, shape_of}
use Rattle.book.proofs.Read.{entries_few}
use Rattle.opening.specs.Opened.{opened}
use Rattle.opening.proofs.Accepted.{opened_book}
use Rattle.walk.specs.Exact.{reading_of}
use Rattle.compare.specs.Compared.{Ahead, whole_reading}

each_held : (hs : List Held) → Each Before (map entry_in hs) → Each Ahead hs
each_held [] r = tt
each_held (h ∷ hs) r = ((λ k m. r.0 k.entry (in_map entry_in hs k m)), each_held hs r.1)

-- ---- a book that opens

module _ (s : List ℕ) (book : Record) (o : opened s ≡ Ok book) where
  abbrev D : ℕ → Parsed
  D = directory_of s book

  abbrev held : List Held
  held = held_of D (chain D (shape_of book))

  pub book_read : reading_of s book ≡ whole_reading s book
  unfolding reading_of
  book_read = let k = opened_book s book o in rw k.fits (reading_good D (shape_of book) k.directory.chain_passes)

  pub book_rises : Each Ahead (reading_of s book).entries
  unfolding chain_entries
  book_rises =
      let k = opened_book s book o in
      let l = listed D (shape_of book) (good_filled D (shape_of book) k.directory.chunks) k.directory.chain_passes in
      let r : Each Before (map entry_in held) = rw held_entries (rising_each [] (chain_entries D (shape_of book)) l.rises) in
      rw book_read (each_held held r)

  pub book_length : length (reading_of s book).entries ≡ length (chain_entries D (shape_of book))
  unfolding chain_entries
  book_length =
      rw book_read (sym (length-map held entry_in) ∙ ap length (held_entries D (chain D (shape_of book))))

  pub book_few : length (chain_entries D (shape_of book)) < 2 ^ 64
  unfolding chain_entries chain
  book_few =
      let k = opened_book s book o in
      let l = listed D (shape_of book) (good_filled D (shape_of book) k.directory.chunks) k.directory.chain_passes in
      let high = (header_accepted s book k.head).count_high in
      let a = chain_short D book.count book.first in
      let b = entries_short D 4096 (chain D (shape_of book)) (λ c m. entries_few s book c ((l.chunks c).0 m).1) in
      omega arith
