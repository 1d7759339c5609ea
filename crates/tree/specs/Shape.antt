-- A directory above its bytes: D gives each chunk number the meaning of that chunk, H has what the directory's header says of chain and tree.
use Rattle.std.specs.Prelude.{◌≡◌, Bool, true, ◌&&◌, List, [], ℕ, ◌<◌, ltb, length}
use Rattle.entries.specs.declared.Kind.TheVariants.{Listing, Index}
use Rattle.entries.specs.Rising.{rising}
use Rattle.refusals.specs.Refusals.{no_chunk}
use Rattle.chunk.specs.Chunk.{Parsed, bad, listing, index, entries_in, is_kind, is_good}
use Rattle.entries.specs.Entry.{entry_name}
use Rattle.quickref.specs.Quickref.{absent, nth, name_in, final}

-- ---- the header's numbers (FORMAT D8 to D11)

pub record Shape : Type 0 where
  pub count : ℕ
  pub depth : ℕ
  pub root : ℕ
  pub first : ℕ
  pub last : ℕ

-- ---- what is asked of a chunk

abbrev pub is_listing : Parsed → Bool
is_listing p = is_kind Listing p

abbrev pub is_index : Parsed → Bool
is_index p = is_kind Index p

-- the previous and the next listing chunk; a chunk of another kind has none
abbrev pub previous_of : Parsed → ℕ
previous_of (bad n) = no_chunk
previous_of (listing prev next es) = prev
previous_of (index es) = no_chunk

abbrev pub next_of : Parsed → ℕ
next_of (bad n) = no_chunk
next_of (listing prev next es) = next
next_of (index es) = no_chunk

-- the name of entry 0, and that of the last entry
abbrev pub first_name : Parsed → List ℕ
first_name p = name_in (nth 0 (entries_in p))

abbrev pub last_name : Parsed → List ℕ
last_name p = name_in (final absent (entries_in p))

-- ---- what is asked of a chunk number: it is below the count, and its chunk is of the kind

unfoldable pub listing_chunk : (ℕ → Parsed) → Shape → ℕ → Bool
listing_chunk D H c = ltb c H.count && is_listing (D c)

unfoldable pub index_chunk : (ℕ → Parsed) → Shape → ℕ → Bool
index_chunk D H c = ltb c H.count && is_index (D c)

-- ---- what opening knows of every chunk below the count before it looks at chain and tree (FORMAT, Chunk)

pub record GoodChunks (D : ℕ → Parsed) (H : Shape) : Type 0 where
  -- it passed its checks,
  pub good : (c : ℕ) → c < H.count → is_good (D c) ≡ true
  -- has an entry,
  pub some : (c : ℕ) → c < H.count → 0 < length (entries_in (D c))
  -- and its names rise
  pub rises : (c : ℕ) → c < H.count → rising entry_name [] (entries_in (D c)) ≡ true
