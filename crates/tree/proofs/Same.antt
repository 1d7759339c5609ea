-- Two directories that agree in the chunks of a descent have the same descent: `same_descent`.
use Rattle.fields.proofs.Base.{◌≡◌, refl, ap, inl, inr, Bool, true, false, cond, List, [], ◌∷◌, ℕ, zero, suc}
use Rattle.chunk.specs.Chunk.{Parsed}
use Rattle.quickref.specs.Quickref.{Sought}
use Rattle.tree.specs.Lists.{In}
use Rattle.tree.specs.Shape.{Shape, listing_chunk, index_chunk}
use Rattle.tree.specs.Tree.{top}
use Rattle.tree.specs.Descent.{absent, refused, child_for, onward, outcome_from, trail_from, outcome, trail}

module _ (D E : ℕ → Parsed) (H : Shape) (name : List ℕ) where
  abbrev SameOn : List ℕ → Type 0
  SameOn cs = (c : ℕ) → In c cs → D c ≡ E c

  abbrev Same : ℕ → ℕ → Type 0
  Same l c = (outcome_from D H name l c ≡ outcome_from E H name l c) × (trail_from D H name l c ≡ trail_from E H name l c)

  -- one turn: `t` says whether the chunk is an index chunk, `o` which of its entries is gone down from
  turn : (l c : ℕ) (t : Bool) (o : Sought) → ((k : ℕ) → SameOn (trail_from D H name l k) → Same l k)
      → SameOn (c ∷ cond t (onward o [] (λ k. trail_from D H name l k)) [])
      → (cond t (onward o absent (λ k. outcome_from D H name l k)) refused ≡ cond t (onward o absent (λ k. outcome_from E H name l k)) refused)
      × (c ∷ cond t (onward o [] (λ k. trail_from D H name l k)) [] ≡ c ∷ cond t (onward o [] (λ k. trail_from E H name l k)) [])
  turn l c false o f h = (refl, refl)
  turn l c true Sought.absent f h = (refl, refl)
  turn l c true (Sought.found x) f h = let r = f x.child (λ k m. h k (inr m)) in (r.0, ap (λ (cs : List ℕ). c ∷ cs) r.1)

  same_from : (l c : ℕ) → SameOn (trail_from D H name l c) → Same l c
  unfolding outcome_from trail_from listing_chunk index_chunk
  same_from zero c h = (refl, refl)
  same_from (suc zero) c h = (rw (h c (inl refl)) refl, refl)
  same_from (suc (suc l)) c h =
      let q = h c (inl refl) in
      rw (← q) (turn (suc l) c (index_chunk D H c) (child_for name (D c)) (λ k. same_from (suc l) k) h)

  pub same_descent : SameOn (trail D H name) → (outcome D H name ≡ outcome E H name) × (trail D H name ≡ trail E H name)
  unfolding outcome trail
  same_descent h = same_from H.depth (top H) h
