-- The tree of index chunks over the chain (FORMAT, Tree): refusal 14 where `tree_ok` fails. Listing chunks have level 1.
use Rattle.std.specs.Prelude.{Bool, false, cond, not, ◌&&◌, ◌||◌, ℕ, zero, suc, eqb}
use mathlib.Core.List.{List, [], ◌∷◌, flat_map}
use Rattle.fields.specs.Same.{same}
use Rattle.chunk.specs.Chunk.{Parsed, entries_in}
use Rattle.tree.specs.Lists.{all_of, member, every_below}
use Rattle.tree.specs.Shape.{Shape, is_index, first_name, listing_chunk, index_chunk}
use Rattle.tree.specs.Chain.{chain}

-- the chunk that the tree hangs from and that a descent begins at: the root, at depth 1 the first listing chunk (T1, T2, Q1)
unfoldable pub top : Shape → ℕ
top H = cond (eqb H.depth 1) H.first H.root

-- the listing chunks at or under chunk c of a level, from left to right
unfoldable pub leaves : (ℕ → Parsed) → ℕ → ℕ → List ℕ
leaves D zero c = []
leaves D (suc zero) c = c ∷ []
leaves D (suc (suc l)) c = flat_map (λ e. leaves D (suc l) e.child) (entries_in (D c))

-- the index chunks at or under it
unfoldable pub index_chunks : (ℕ → Parsed) → ℕ → ℕ → List ℕ
index_chunks D zero c = []
index_chunks D (suc zero) c = []
index_chunks D (suc (suc l)) c = c ∷ flat_map (λ e. index_chunks D (suc l) e.child) (entries_in (D c))

module _ (D : ℕ → Parsed) (H : Shape) where
  -- chunk c is below the count and of the kind of its level (T3); each of its entries has the name of its child's entry 0, byte for byte (T4),
  -- and the child is so too, one level down (T3)
  unfoldable pub shaped : ℕ → ℕ → Bool
  shaped zero c = false
  shaped (suc zero) c = listing_chunk D H c
  shaped (suc (suc l)) c =
      index_chunk D H c
      && all_of (λ e. same e.name (first_name (D e.child)) && shaped (suc l) e.child) (entries_in (D c))

  -- the top has the level that the depth says (T2, T7); the listing chunks from left to right are the chain (T5);
  -- every index chunk is in the tree (T6), so at depth 1 there is none (T1)
  unfoldable pub tree_ok : Bool
  tree_ok =
      shaped H.depth (top H)
      && (same (leaves D H.depth (top H)) (chain D H)
      && every_below H.count (λ c. not (is_index (D c)) || member c (index_chunks D H.depth (top H))))
