-- Chain, walk and descent one step at a time, in the terms that code has at hand: a return or a turn of a loop has its equation here.
-- Levels and counts are plain numbers.
use Rattle.fields.proofs.Base.{◌≡◌, refl, ap, true, false, List, ℕ, zero, suc, ◌-◌, ◌<◌, arith, sub-one, eqb, eq-eqb, ne_eqb, Option, Some, None}
use Rattle.chunk.specs.Chunk.{Parsed, entries_in}
use Rattle.quickref.specs.Quickref.{sought_of}
use Rattle.seek.specs.Seek.{child_of}
use Rattle.tree.specs.Shape.{Shape, next_of, listing_chunk, index_chunk}
use Rattle.tree.specs.Walk.{stopped, going, into_child, visit, walk_tree, chain_run}
use Rattle.tree.specs.Descent.{onward}
use Rattle.tree.proofs.Lists.{on_test}
use Rattle.entries.specs.declared.Place.{Place}

module _ (D : ℕ → Parsed) (H : Shape) where
  -- ---- the run along the chain: chunk c behind p, with k listing chunks not yet met

  pub run_none : (k p c : ℕ) → k ≡ 0 → chain_run D H k p c ≡ false
  unfolding chain_run
  run_none k p c z = rw z

  pub run_other : (k p c : ℕ) → listing_chunk D H c ≡ false → chain_run D H k p c ≡ false
  unfolding chain_run
  run_other zero p c h = refl
  run_other (suc k) p c h = rw h

  -- ---- the walk: chunk c of level l, with e expected and k index chunks to be met

  pub walk_none : (l c e k : ℕ) → l ≡ 0 → walk_tree D H l c e k ≡ stopped
  unfolding walk_tree
  walk_none l c e k z = rw z

  module _ (l c e k : ℕ) (one : l ≡ 1) where
    pub leaf_not : listing_chunk D H c ≡ false → walk_tree D H l c e k ≡ stopped
    unfolding walk_tree
    leaf_not h = rw one (on_test (eqb c e) (λ t. rw (t, h)) (λ t. rw t))

    pub leaf_other : ¬ (c ≡ e) → walk_tree D H l c e k ≡ stopped
    unfolding walk_tree
    leaf_other h = rw (one, ne_eqb c e h)

    pub leaf_next : listing_chunk D H c ≡ true → c ≡ e → walk_tree D H l c e k ≡ going (next_of (D c)) k
    unfolding walk_tree
    leaf_next h q = rw (one, eq-eqb c e q, h)

  pub index_none : (l c e k : ℕ) → 1 < l → k ≡ 0 → walk_tree D H l c e k ≡ stopped
  unfolding walk_tree
  index_none zero c e k h z = absurd (omega arith)
  index_none (suc zero) c e k h z = absurd (omega arith)
  index_none (suc (suc l)) c e k h z = rw z

  pub index_not : (l c e k : ℕ) → 1 < l → index_chunk D H c ≡ false → walk_tree D H l c e k ≡ stopped
  unfolding walk_tree
  index_not zero c e k h z = absurd (omega arith)
  index_not (suc zero) c e k h z = absurd (omega arith)
  index_not (suc (suc l)) c e zero h z = refl
  index_not (suc (suc l)) c e (suc k) h z = rw z

  -- where the loop over the entries begins
  pub index_enter : (l c e k : ℕ) → 1 < l → 0 < k → index_chunk D H c ≡ true → visit (into_child D (walk_tree D H (l - 1))) (entries_in (D c)) e (k - 1) ≡ walk_tree D H l c e k
  unfolding walk_tree
  index_enter zero c e k h z t = absurd (omega arith)
  index_enter (suc zero) c e k h z t = absurd (omega arith)
  index_enter (suc (suc l)) c e zero h z t = absurd (omega arith)
  index_enter (suc (suc l)) c e (suc k) h z t = rw (sub-one (suc (suc l)), sub-one (suc k), t)

-- ---- where the search in an index chunk leads

module _ {A : Type 0} (s : List ℕ) (x : Option Place) (d : A) (f : ℕ → A) where
  pub leads_down : (k : ℕ) → child_of x ≡ Some k → onward (sought_of s x) d f ≡ f k
  leads_down k = go x
    where
      go : (x : Option Place) → child_of x ≡ Some k → onward (sought_of s x) d f ≡ f k
      go None q = absurd (let z : ◌≡◌ {A = ℕ} 0 1 = cc in omega arith)
      go (Some e) q = let z : e.child ≡ k = cc in ap f z

  pub leads_nowhere : child_of x ≡ None → onward (sought_of s x) d f ≡ d
  leads_nowhere = go x
    where
      go : (x : Option Place) → child_of x ≡ None → onward (sought_of s x) d f ≡ d
      go None q = refl
      go (Some e) q = absurd (let z : ◌≡◌ {A = ℕ} 0 1 = cc in omega arith)
