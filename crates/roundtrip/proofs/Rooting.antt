-- The tree of a new directory from its lowest level to its root: where the levels between stand, it passes its check.
use Rattle.fields.proofs.Base.{◌≡◌, refl, sym, ap, subst, ◌∙◌, true, not, ◌||◌, List, [], ◌∷◌, append-nil, flat_map, ℕ, suc, ◌+◌, ◌≤◌, ◌<◌, arith, length, eqb, eqb-true}
use Rattle.fields.specs.Same.{same}
use Rattle.fields.proofs.Same.{same_self}
use Rattle.entries.specs.declared.Kind.TheVariants.{Listing}
use Rattle.chunk.specs.Chunk.{Parsed}
use Rattle.chunk_fields.specs.ChunkFields.{first_place}
use Rattle.tree.specs.Lists.{In, member, every_below}
use Rattle.tree.specs.Shape.{Shape, is_listing, is_index, listing_chunk}
use Rattle.tree.specs.Chain.{chain}
use Rattle.tree.specs.Tree.{top, leaves, index_chunks, shaped, tree_ok}
use Rattle.tree.proofs.Lists.{on_test}
use Rattle.tree.proofs.Chunks.{is_listing_lem}
use Rattle.entries.specs.Stored.{Stored}
use Rattle.layout.specs.Layout.{Layout, layout_depth, chunk_count, new_root}
use Rattle.roundtrip.proofs.Meaning.{shape_for}
use Rattle.roundtrip.proofs.Numbers.{numbers, all_members}
use Rattle.roundtrip.proofs.Stand.{as_leaf, Stand, placed_first}
use Rattle.roundtrip.proofs.Growing.{Named, Level, Top}

-- ---- the listing chunks

flat_single : (l : List ℕ) → flat_map (λ c. c ∷ []) l ≡ l
unfolding flat_map
flat_single [] = refl
flat_single (x ∷ xs) = ap (λ (l : List ℕ). x ∷ l) (flat_single xs)

module _ (D : ℕ → Parsed) (H : Shape) (m : ℕ) where
  named_leaves : (c : ℕ) (gs : List (List Stored)) → c + length gs ≤ H.count → Stand D (as_leaf m) c gs → Named D H m 0 c gs
  unfolding shaped
  named_leaves c [] b s = tt
  named_leaves c (g ∷ gs) b s =
      let k : listing_chunk D H c ≡ true = is_listing_lem D H c (omega arith) ∙ ap is_listing s.0 in
      (rw s.0 (placed_first Listing (first_place Listing) g), k, named_leaves (c + 1) gs (omega arith) s.1)

pub ground : (D : ℕ → Parsed) (H : Shape) (gs : List (List Stored)) → length gs ≤ H.count → Stand D (as_leaf (length gs)) 0 gs → Level D H (length gs) 0 0 gs
unfolding leaves
ground D H gs b s =
    record {
      named = named_leaves D H (length gs) 0 gs (omega arith) s;
      listed = flat_single (numbers 0 (length gs));
      holds = λ x p q. absurd (omega arith);
    }

-- ---- the root

module _ (D : ℕ → Parsed) (l : Layout) where
  abbrev H : Shape
  H = shape_for l

  abbrev m : ℕ
  m = length l.leaves

  -- chunk c of a level has the whole tree under it
  record Rooted (depth c : ℕ) : Type 0 where
    shape : shaped D H depth c ≡ true
    listed : leaves D depth c ≡ numbers 0 m
    holds : (x : ℕ) → m ≤ x → x < chunk_count l → In x (index_chunks D depth c)

  top_is : (c : ℕ) → c + 1 ≡ chunk_count l → (layout_depth l ≡ 1 → c ≡ 0) → top H ≡ c
  unfolding top new_root
  top_is c e z = on_test (eqb (layout_depth l) 1) (λ t. rw t (sym (z (eqb-true (layout_depth l) 1 t)))) (λ t. rw t (omega arith))

  module _ (t : Top D H m 0 0 l.leaves l.levels) where
    abbrev depth : ℕ
    depth = suc (0 + length l.levels)

    at_top : Rooted depth t.number
    unfolding numbers flat_map
    at_top =
        record {
          shape = t.level.named.1;
          listed = sym (append-nil (leaves D depth t.number)) ∙ t.level.listed;
          holds = λ x a b. subst (In x) (append-nil (index_chunks D depth t.number)) (t.level.holds x a (omega (arith, t.last)));
        }

    pub rooted : chain D H ≡ numbers 0 m → ((c : ℕ) → c < chunk_count l → is_index (D c) ≡ true → m ≤ c) → tree_ok D H ≡ true
    unfolding tree_ok
    rooted q kinds =
        let e : top H ≡ t.number = top_is t.number (omega (arith, t.last)) (λ z. t.alone (omega arith)) in
        let r : Rooted (layout_depth l) (top H) = rw e (subst (λ (k : ℕ). Rooted k t.number) (omega arith) at_top) in
        let s : same (leaves D (layout_depth l) (top H)) (chain D H) ≡ true = rw (r.listed, q) (same_self (numbers 0 m)) in
        let is = index_chunks D (layout_depth l) (top H) in
        let a : every_below (chunk_count l) (λ c. not (is_index (D c)) || member c is) ≡ true
        = all_members (chunk_count l) (λ c. is_index (D c)) is (λ c h i. r.holds c (kinds c h i) h) in
        rw (r.shape, s, a)
