-- The visit of an index chunk's entries, one by one over its bytes.
use Rattle.fields.proofs.Base.{◌≡◌, refl, sym, subst, Bool, true, false, cond, List, [], ◌∷◌, ℕ, zero, suc, ◌-◌, ◌≤◌, ◌<◌, arith, Option, Some, None, none-some, some_pair_parts}
use Rattle.fields.specs.Same.{same}
use Rattle.entries.specs.Entry.{name_of, with_item, Entry, entry_of}
use Rattle.entries.specs.declared.Place.{Place}
use Rattle.entries.specs.declared.Kind.TheVariants.{Index}
use Rattle.chunk.specs.Chunk.{Parsed, all, entries_at, entries_in}
use Rattle.chunk_fields.specs.ChunkFields.{entry_count, tail_length, first_place}
use Rattle.chunk.proofs.Accepted.{chunk_accepted, entries_more, entries_none}
use Rattle.header.specs.declared.Record.{Record}
use Rattle.tree.specs.Shape.{Shape, first_name, next_of, is_index, listing_chunk}
use Rattle.tree.specs.Walk.{TreeProgress, stopped, going, walk_then, into_child, visit, walk_tree}
use Rattle.book.specs.Book.{limits_of, chunk_bytes, directory_of}
use Rattle.tree.proofs.Steps.{leaf_next, leaf_not}
use Rattle.opening.specs.Passes.{named_child, leaf_of, progress_of}

module _ (s : List ℕ) (r : Record) (c : ℕ) where
  -- the entries xs are `rest` entries of the chunk from a place on
  unfoldable pub Left : ℕ → ℕ → List Entry → Type 0
  Left rest at xs = entries_at (limits_of s r) Index (chunk_bytes s r c) (4096 - tail_length (chunk_bytes s r c)) rest at ≡ all xs

  pub all_left : is_index (directory_of s r c) ≡ true → Left (entry_count (chunk_bytes s r c)) (first_place Index) (entries_in (directory_of s r c))
  unfolding Left directory_of
  all_left h = (chunk_accepted (limits_of s r) Index (chunk_bytes s r c) h).entries

  pub none_left : (rest at : ℕ) (xs : List Entry) → rest ≤ 0 → Left rest at xs → xs ≡ []
  unfolding Left
  none_left zero at xs h e = entries_none (limits_of s r) Index (chunk_bytes s r c) _ at xs e
  none_left (suc rest) at xs h e = absurd (omega arith)

  module _ (f : ℕ → ℕ → ℕ → TreeProgress) (at : ℕ) (xs : List Entry) (expected left : ℕ) where
    -- what the entry at a place makes of the visit
    abbrev pub Visited : ℕ → Option (ℕ × ℕ) → Type 0
    Visited rest None = visit (into_child (directory_of s r) f) xs expected left ≡ stopped
    Visited rest (Some (child, next)) =
        (ys : List Entry) × Left rest next ys
        × (visit (into_child (directory_of s r) f) xs expected left ≡ walk_then (f child expected left) (λ e k. visit (into_child (directory_of s r) f) ys e k))

    visited_suc : (rest : ℕ) → Left (suc rest) at xs → Visited rest (named_child s r c at)
    unfolding named_child Left
    visited_suc rest e =
        let m = entries_more (limits_of s r) Index (chunk_bytes s r c) _ rest at xs e in
        subst (λ (i : Option Place). Visited rest (with_item i None (λ p. cond (test p) (Some (p.child, p.next)) None))) (sym m.2) (go m.0 m.1 m.3 m.4 (test m.0) refl)
      where
        test : Place → Bool
        test p = same (name_of (chunk_bytes s r c) p) (first_name (directory_of s r p.child))

        go : (p : Place) (ys : List Entry) → xs ≡ entry_of (chunk_bytes s r c) p ∷ ys
            → entries_at (limits_of s r) Index (chunk_bytes s r c) (4096 - tail_length (chunk_bytes s r c)) rest p.next ≡ all ys
            → (t : Bool) → test p ≡ t → Visited rest (cond t (Some (p.child, p.next)) None)
        go p ys q g true t = (ys, g, rw (q, t))
        go p ys q g false t = rw (q, t)

    pub visited : (rest : ℕ) → 0 < rest → Left rest at xs → Visited (rest - 1) (named_child s r c at)
    visited rest h e = visited_suc (rest - 1) (subst (λ (n : ℕ). Left n at xs) (let z : rest ≡ suc (rest - 1) = omega arith in z) e)

-- ---- the walk's progress as a value of the code's

pub stopped_is : (p : TreeProgress) → None ≡ progress_of p → p ≡ stopped
stopped_is stopped q = refl
stopped_is (going e k) q = absurd (none-some (e, k) q)

pub going_is : (p : TreeProgress) (e k : ℕ) → Some (e, k) ≡ progress_of p → p ≡ going e k
going_is stopped e k q = absurd (none-some (e, k) (sym q))
going_is (going x y) e k q = let p = some_pair_parts _ _ _ _ q in rw (p.0, p.1)

pub leaf_is : (D : ℕ → Parsed) (H : Shape) (l c e k : ℕ) → l ≡ 1 → c ≡ e → leaf_of D H c k ≡ progress_of (walk_tree D H l c e k)
leaf_is D H l c e k one q = go (listing_chunk D H c) refl
  where
    go : (t : Bool) → listing_chunk D H c ≡ t → cond t (Some (next_of (D c), k)) None ≡ progress_of (walk_tree D H l c e k)
    go true t = rw (leaf_next D H l c e k one t q)
    go false t = rw (leaf_not D H l c e k one t)
