-- Demand 3, whole: on a directory that opening accepts, the descent finds what a listing chunk holds and nothing else, and goes through
-- one chunk or as many as the depth says.
--     demand-3    for every name
use Rattle.fields.proofs.Base.{◌≡◌, refl, sym, ap, ◌∙◌, subst, inl, inr, true, false≢true, List, [], ◌∷◌, ◌++◌, flat_map, ℕ, zero, suc, length}
use Rattle.fields.proofs.Same.{same_true}
use Rattle.fields.proofs.Tests.{never, and_both}
use Rattle.refusals.specs.Refusals.{no_chunk}
use Rattle.entries.specs.Entry.{Entry}
use Rattle.chunk.specs.Chunk.{Parsed}
use Rattle.quickref.specs.Quickref.{nth}
use Rattle.tree.specs.Lists.{Each}
use Rattle.tree.specs.Shape.{Shape, first_name}
use Rattle.tree.specs.Chain.{chain, entries_of, chain_entries}
use Rattle.tree.specs.Tree.{top, leaves, shaped, tree_ok}
use Rattle.tree.specs.Descent.{found, absent, refused, outcome_from, trail_from, outcome, trail}
use Rattle.tree.specs.Exact.{GoodDirectory, Holds, LookupExact}
use Rattle.tree.proofs.Rising.{Before, rising_each}
use Rattle.tree.proofs.Chunks.{listing_chunk_lem, first_entry}
use Rattle.tree.proofs.Linked.{linked_chunk, chain_first, chain_linked, good_filled, listed}
use Rattle.tree.proofs.Shaped.{under, first_under}
use Rattle.tree.proofs.Descended.{Answered, answered, reached, trail_deep, trail_high}

-- the tree of an accepted directory: it hangs from the top, whose level is the depth, and its leaves are the chain
pub record Grown (D : ℕ → Parsed) (H : Shape) (l : ℕ) : Type 0 where
  pub depth_is : H.depth ≡ suc l
  pub shape : shaped D H (suc l) (top H) ≡ true
  pub leaves_are : leaves D (suc l) (top H) ≡ chain D H

module _ (D : ℕ → Parsed) (H : Shape) where
  pub grown : tree_ok D H ≡ true → (l : ℕ) × Grown D H l
  unfolding tree_ok shaped
  grown passes =
      let t = and_both _ _ passes in
      let u = and_both _ _ t.1 in
      go H.depth refl t.0 (same_true (leaves D H.depth (top H)) (chain D H) u.0)
    where
      go : (d : ℕ) → H.depth ≡ d → shaped D H d (top H) ≡ true → leaves D d (top H) ≡ chain D H → (l : ℕ) × Grown D H l
      go zero q s e = never s
      go (suc l) q s e = (l, record { depth_is = q; shape = s; leaves_are = e })

module _ (D : ℕ → Parsed) (H : Shape) (a : GoodDirectory D H) (l : ℕ) (g : Grown D H l) where
  pub under_rising : Each Before (under D l (top H))
  unfolding chain_entries
  under_rising =
      subst (λ cs. Each Before (entries_of D cs)) (sym g.leaves_are)
      (rising_each [] (chain_entries D H) (listed D H (good_filled D H a.chunks) a.chain_passes).rises)

  -- the top has the book's first name
  top_name : first_name (D (top H)) ≡ first_name (D H.first)
  unfolding chain flat_map nth
  top_name =
      let l' = chain_linked D H a.chain_passes in
      let c = chain_first D H H.count no_chunk H.first l' in
      let u = first_under D H a.chunks l (top H) g.shape in
      let f = first_entry D H a.chunks H.first (listing_chunk_lem D H H.first (linked_chunk D H H.count no_chunk H.first l')).0 in
      let es = entries_of D c.0 in
      let p : entries_of D (chain D H) ≡ f.0 ∷ (f.1 ++ es) = ap (entries_of D) c.1 ∙ ap (λ ds. ds ++ es) f.2 in
      let q : u.0 ∷ u.1 ≡ f.0 ∷ (f.1 ++ es) = sym u.2 ∙ (ap (entries_of D) g.leaves_are ∙ p) in
      let e : u.0 ≡ f.0 = cc in
      u.3 ∙ (ap (λ d. d.name) e ∙ rw f.2)

  module _ (name : List ℕ) where
    outcome_is : outcome D H name ≡ outcome_from D H name (suc l) (top H)
    unfolding outcome
    outcome_is = rw g.depth_is

    trail_is : trail D H name ≡ trail_from D H name (suc l) (top H)
    unfolding trail
    trail_is = rw g.depth_is

    held : (c : ℕ) (e : Entry) → Holds D H name c e → outcome D H name ≡ found c e
    held c e h =
        let m = ((listed D H (good_filled D H a.chunks) a.chain_passes).chunks c).1 (h.inside, h.kind) in
        outcome_is ∙ reached D H a.chunks name l (top H) g.shape under_rising c e (rw g.leaves_are m) h.entry h.equals

    settled : Answered D H a.chunks name (outcome D H name)
    settled = rw outcome_is (answered D H a.chunks name l (top H) g.shape)

    demanded : LookupExact D H name
    demanded = record {
      found_iff = λ c e. (finds c e, held c e);
      only = λ c d e f h k. let p : found c e ≡ found d f = sym (held c e h) ∙ held d f k in (cc, cc);
      absent_iff = ((λ q c e h. let p : absent ≡ found c e = sym q ∙ held c e h in false≢true (cc)), misses);
      never_refused = λ q. elim settled [
        | inl p ↦ (let z : refused ≡ absent = sym q ∙ p in false≢true (cc))
        | inr k ↦ (let z : refused ≡ found k.0 k.1 = sym q ∙ k.2 in false≢true (cc))
      ];
      trail_below = λ b. ap length trail_is ∙ trail_high D H a.chunks name l (top H) g.shape (rw top_name b);
      trail_else = λ b. ap length trail_is ∙ (trail_deep D H a.chunks name l (top H) g.shape (rw top_name b) ∙ sym g.depth_is);
    }
      where
        finds : (c : ℕ) (e : Entry) → outcome D H name ≡ found c e → Holds D H name c e
        finds c e q = elim settled [
          | inl p ↦ (let z : absent ≡ found c e = sym p ∙ q in never (cc))
          | inr k ↦ (let z : found k.0 k.1 ≡ found c e = sym k.2 ∙ q in
              let zc : k.0 ≡ c = cc in
              let ze : k.1 ≡ e = cc in
              rw (← zc, ← ze) k.3)
        ]

        misses : ((c : ℕ) (e : Entry) → ¬ Holds D H name c e) → outcome D H name ≡ absent
        misses h = elim settled [ inl p ↦ p | inr k ↦ absurd (h k.0 k.1 k.3) ]

pub lookup_exact : (D : ℕ → Parsed) (H : Shape) → GoodDirectory D H → (name : List ℕ) → LookupExact D H name
lookup_exact D H a name = let g = grown D H a.tree_passes in demanded D H a g.0 g.1 name
