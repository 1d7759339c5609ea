-- What listing and lookup promise on a directory that opening accepts, as statements over the definitions.
use Rattle.std.specs.Prelude.{◌≡◌, ◌↔◌, ◌≢◌, true, false, List, [], ℕ, ◌<◌, length}
use Rattle.names.specs.Names.{below, matches}
use Rattle.entries.specs.Rising.{rising}
use Rattle.entries.specs.Entry.{Entry, entry_name}
use Rattle.chunk.specs.Chunk.{Parsed, entries_in}
use Rattle.tree.specs.Lists.{In, Distinct}
use Rattle.tree.specs.Shape.{Shape, is_listing, first_name, GoodChunks}
use Rattle.tree.specs.Chain.{chain, chain_entries, chain_ok}
use Rattle.tree.specs.Tree.{tree_ok}
use Rattle.tree.specs.Descent.{found, absent, refused, outcome, trail}
use Rattle.tree.specs.Reading.{plain}

-- what opening has established where it accepts
pub record GoodDirectory (D : ℕ → Parsed) (H : Shape) : Type 0 where
  pub chunks : GoodChunks D H
  pub chain_passes : chain_ok D H ≡ true
  pub tree_passes : tree_ok D H ≡ true

-- ---- the listing

pub record ChainListed (D : ℕ → Parsed) (H : Shape) : Type 0 where
  -- the chain has exactly the listing chunks, each once
  pub chunks : (c : ℕ) → In c (chain D H) ↔ ((c < H.count) × (is_listing (D c) ≡ true))
  pub once : Distinct (chain D H)
  -- and the names of their entries, one chunk behind another, rise
  pub rises : rising entry_name [] (chain_entries D H) ≡ true

-- ---- the lookup: demand 3

-- listing chunk c, below the count, holds a name: that of its entry e compares equal (Q5)
pub record Holds (D : ℕ → Parsed) (H : Shape) (name : List ℕ) (c : ℕ) (e : Entry) : Type 0 where
  pub inside : c < H.count
  pub kind : is_listing (D c) ≡ true
  pub entry : In e (entries_in (D c))
  pub equals : matches name e.name ≡ true

pub record LookupExact (D : ℕ → Parsed) (H : Shape) (name : List ℕ) : Type 0 where
  -- found is exactly what some listing chunk holds,
  pub found_iff : (c : ℕ) (e : Entry) → (outcome D H name ≡ found c e) ↔ Holds D H name c e
  -- of which there is at most one in the book;
  pub only : (c d : ℕ) (e f : Entry) → Holds D H name c e → Holds D H name d f → (c ≡ d) × (e ≡ f)
  -- absent where none does; a refusal never
  pub absent_iff : (outcome D H name ≡ absent) ↔ ((c : ℕ) (e : Entry) → ¬ Holds D H name c e)
  pub never_refused : outcome D H name ≢ refused
  -- a name below the book's first (Q7) ends at the top, every other at a listing chunk, which is as many chunks as the depth
  pub trail_below : below name (first_name (D H.first)) ≡ true → length (trail D H name) ≡ 1
  pub trail_else : below name (first_name (D H.first)) ≡ false → length (trail D H name) ≡ H.depth

-- ---- the plain search: what it owes wherever the chain passes, whatever the index chunks are

pub record PlainExact (D : ℕ → Parsed) (H : Shape) (name : List ℕ) : Type 0 where
  -- what it finds some listing chunk holds;
  pub found_held : (c : ℕ) (e : Entry) → plain D H name ≡ found c e → Holds D H name c e
  -- absent where none does; a refusal never
  pub absent_iff : (plain D H name ≡ absent) ↔ ((c : ℕ) (e : Entry) → ¬ Holds D H name c e)
  pub never_refused : plain D H name ≢ refused
