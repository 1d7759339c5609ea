-- Chain and tree as code with no heap checks them: by counting down, and by a walk over the leaves along the chain.
-- The laws `chain_run_lem` and `tree_walk` of proofs/ say that these accept exactly what `chain_ok` and `tree_ok` accept. And the plain search as a loop takes it,
-- chunk by chunk: `plain_whole`.
use Rattle.std.specs.Prelude.{Bool, false, cond, ◌&&◌, List, [], ◌∷◌, ℕ, zero, suc, eqb}
use Rattle.fields.specs.Same.{same}
use Rattle.refusals.specs.Refusals.{no_chunk}
use Rattle.names.specs.Names.{below}
use Rattle.entries.specs.Entry.{Entry}
use Rattle.chunk.specs.Chunk.{Parsed, entries_in}
use Rattle.tree.specs.Shape.{Shape, is_listing, is_index, previous_of, next_of, first_name, last_name, listing_chunk, index_chunk}
use Rattle.tree.specs.Tree.{top}
use Rattle.tree.specs.Descent.{Outcome}
use Rattle.tree.specs.Reading.{read_from, first_equal}

-- how many numbers below n pass the test
abbrev pub count_below : ℕ → (ℕ → Bool) → ℕ
count_below zero p = 0
count_below (suc n) p = cond (p n) (suc (count_below n p)) (count_below n p)

-- how many chunks below the count are of a kind
abbrev pub listings : (ℕ → Parsed) → Shape → ℕ
listings D H = count_below H.count (λ c. is_listing (D c))

abbrev pub indexes : (ℕ → Parsed) → Shape → ℕ
indexes D H = count_below H.count (λ c. is_index (D c))

-- ---- the chain: one loop

module _ (D : ℕ → Parsed) (H : Shape) where
  -- chunk c behind p, with k listing chunks not yet met; none of them may be left at the chain's end
  unfoldable pub chain_run : ℕ → ℕ → ℕ → Bool
  chain_run zero p c = false
  chain_run (suc k) p c =
      listing_chunk D H c
      && (eqb (previous_of (D c)) p
      && cond (eqb (next_of (D c)) no_chunk)
      (eqb c H.last && eqb k 0)
      (below (last_name (D c)) (first_name (D (next_of (D c)))) && chain_run k c (next_of (D c))))

  unfoldable pub chain_run_ok : Bool
  chain_run_ok = chain_run (listings D H) no_chunk H.first

-- ---- the tree: a function that calls itself for each child

-- the listing chunk that must come next, and how many index chunks are yet to be met
pub data TreeProgress : Type 0 where
  stopped : TreeProgress
  going : ℕ → ℕ → TreeProgress

abbrev pub walk_then : TreeProgress → (ℕ → ℕ → TreeProgress) → TreeProgress
walk_then stopped f = stopped
walk_then (going expected left) f = f expected left

-- the whole chain was met, and all index chunks
abbrev pub arrived : TreeProgress → Bool
arrived stopped = false
arrived (going expected left) = eqb expected no_chunk && eqb left 0

-- f of the child of an entry, which must have the entry's name for its first
abbrev pub into_child : (ℕ → Parsed) → (ℕ → ℕ → ℕ → TreeProgress) → Entry → ℕ → ℕ → TreeProgress
into_child D f x expected left = cond (same x.name (first_name (D x.child))) (f x.child expected left) stopped

-- one entry after another, up to one that stops the walk
abbrev pub visit : (Entry → ℕ → ℕ → TreeProgress) → List Entry → ℕ → ℕ → TreeProgress
visit step [] expected left = going expected left
visit step (x ∷ xs) expected left = walk_then (step x expected left) (λ e k. visit step xs e k)

module _ (D : ℕ → Parsed) (H : Shape) where
  -- chunk c of a level
  unfoldable pub walk_tree : ℕ → ℕ → ℕ → ℕ → TreeProgress
  walk_tree zero c expected left = stopped
  walk_tree (suc zero) c expected left = cond (eqb c expected && listing_chunk D H c) (going (next_of (D c)) left) stopped
  walk_tree (suc (suc l)) c expected zero = stopped
  walk_tree (suc (suc l)) c expected (suc left) =
      cond (index_chunk D H c) (visit (into_child D (λ x e k. walk_tree (suc l) x e k)) (entries_in (D c)) expected left) stopped

  unfoldable pub tree_walk_ok : Bool
  tree_walk_ok = arrived (walk_tree H.depth (top H) H.first (indexes D H))

-- ---- the plain search from chunk c on, n chunks at most

unfoldable pub plain_from : (ℕ → Parsed) → Shape → List ℕ → ℕ → ℕ → Outcome
plain_from D H name n c = first_equal name (read_from D H n c).entries (read_from D H n c).whole
