-- The chain of listing chunks (FORMAT, Chain): refusal 13 where `chain_ok` fails.
use Rattle.std.specs.Prelude.{Bool, false, cond, not, ◌&&◌, ◌||◌, ℕ, zero, suc, eqb}
use mathlib.Core.List.{List, [], ◌∷◌, flat_map}
use Rattle.refusals.specs.Refusals.{no_chunk}
use Rattle.names.specs.Names.{below}
use Rattle.entries.specs.Entry.{Entry}
use Rattle.chunk.specs.Chunk.{Parsed, entries_in}
use Rattle.tree.specs.Lists.{member, every_below}
use Rattle.tree.specs.Shape.{Shape, is_listing, previous_of, next_of, first_name, last_name, listing_chunk}

-- the chunk numbers from c on along the next numbers, at most n of them
unfoldable pub chain_from : (ℕ → Parsed) → ℕ → ℕ → List ℕ
chain_from D zero c = []
chain_from D (suc n) c = c ∷ cond (eqb (next_of (D c)) no_chunk) [] (chain_from D n (next_of (D c)))

-- the chain: it starts at the first listing chunk (L1), and is no longer than the directory
unfoldable pub chain : (ℕ → Parsed) → Shape → List ℕ
chain D H = chain_from D H.count H.first

-- the entries of some chunks, one chunk behind another
abbrev pub entries_of : (ℕ → Parsed) → List ℕ → List Entry
entries_of D cs = flat_map (λ c. entries_in (D c)) cs

-- those of the chain: the book's listing
unfoldable pub chain_entries : (ℕ → Parsed) → Shape → List Entry
chain_entries D H = entries_of D (chain D H)

module _ (D : ℕ → Parsed) (H : Shape) where
  -- from c, which stands behind p, to the chain's end, over n chunks at most: each is a listing chunk below the count (L2, L6, L7) that names
  -- the one before it as previous (L1, L2); the one with no next is the last (L3); the others' last names are below the next one's first (L5)
  unfoldable pub linked : ℕ → ℕ → ℕ → Bool
  linked zero p c = false
  linked (suc n) p c =
      listing_chunk D H c
      && (eqb (previous_of (D c)) p
      && cond (eqb (next_of (D c)) no_chunk)
      (eqb c H.last)
      (below (last_name (D c)) (first_name (D (next_of (D c)))) && linked n c (next_of (D c))))

  -- it is linked from its first chunk, which has no previous, and no listing chunk is off it (L4)
  unfoldable pub chain_ok : Bool
  chain_ok =
      linked H.count no_chunk H.first
      && every_below H.count (λ c. not (is_listing (D c)) || member c (chain D H))
