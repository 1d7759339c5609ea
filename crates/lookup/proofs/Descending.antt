-- The descent from one chunk on, made of that chunk's answer and of the descent from its child on.
use Rattle.fields.proofs.Base.{◌≡◌, refl, sym, ap, ◌∙◌, subst, Bool, true, false, cond, List, [], ◌∷◌, ℕ, suc, ◌+◌, ◌-◌, ◌≤◌, ◌<◌, arith, get_or, set, Option, Some, None, Result, Ok, Err}
use Rattle.fields.proofs.Tests.{never}
use Rattle.refusals.specs.Refusals.{refusal_of}
use Rattle.quickref.specs.Quickref.{Sought}
use Rattle.seek.specs.declared.Searched.{Searched}
use Rattle.header.specs.declared.Record.{Record}
use Rattle.tree.specs.Shape.{listing_chunk, index_chunk}
use Rattle.tree.specs.Descent.{absent, refused, child_for, onward, outcome_from, trail_from}
use Rattle.tree.proofs.Chunks.{listing_chunk_lem, index_chunk_lem}
use Rattle.book.specs.Book.{directory_of, shape_of}
use Rattle.search.specs.Search.{cost_at}
use Rattle.search.proofs.Searching.{chosen_fits}
use Rattle.lookup.specs.Lookup.{answer_of, is_refusal, unless}
use Rattle.lookup.specs.Step.{way_at, outcome_at, trail_at, Descended}
use Rattle.lookup.specs.declared.Effort.{Effort}
use Rattle.lookup.specs.declared.Answer.{Answer}
use Rattle.lookup.specs.declared.Answer.TheVariants.{Absent}
use Rattle.lookup.proofs.Trail.{unwound}
use Rattle.lookup.proofs.Costs.{effort_one, effort_more}
use Rattle.refusals.specs.declared.Rule.TheVariants.{BadRecord}
use Rattle.refusals.specs.declared.Refusal.{Refusal}

module _ (s : List ℕ) (book : Record) (name : List ℕ) (c : ℕ) where
  -- ---- a chunk that is answered from is below the count

  pub listing_below : (n : Effort) (a : Result Answer Refusal) → a ≡ answer_of book n (outcome_at s book name 1 c) → is_refusal a ≡ false → c < book.count
  unfolding outcome_from
  listing_below n a q h = go (listing_chunk (directory_of s book) (shape_of book) c) refl (rw q at h)
    where
      go : (t : Bool) → listing_chunk (directory_of s book) (shape_of book) c ≡ t → is_refusal (answer_of book n (outcome_at s book name 1 c)) ≡ false → c < book.count
      go true e h = (listing_chunk_lem (directory_of s book) (shape_of book) c e).0
      go false e h = never (sym (rw e at h))

  -- ---- what a way makes of the descent

  -- where it leads
  abbrev Onward : ℕ → Option ℕ → Type 0
  Onward l (Some k) = (outcome_at s book name (suc (suc l)) c ≡ outcome_at s book name (suc l) k) × (trail_at s book name (suc (suc l)) c ≡ c ∷ trail_at s book name (suc l) k)
  Onward l None = (outcome_at s book name (suc (suc l)) c ≡ absent) × (trail_at s book name (suc (suc l)) c ≡ c ∷ [])

  abbrev Leads : ℕ → Option (Searched (Option ℕ)) → Type 0
  Leads l (Some r) = (c < book.count) × (r.count ≡ cost_at s book name c) × (index_chunk (directory_of s book) (shape_of book) c ≡ true) × Onward l r.answer
  Leads l None = outcome_at s book name (suc (suc l)) c ≡ refused

  leads : (l : ℕ) → Leads l (way_at s book name c)
  unfolding way_at outcome_from trail_from
  leads l = go (index_chunk (directory_of s book) (shape_of book) c) refl (child_for name (directory_of s book c)) refl
    where
      go : (t : Bool) → index_chunk (directory_of s book) (shape_of book) c ≡ t → (o : Sought) → child_for name (directory_of s book c) ≡ o
          → Leads l (cond t (Some (record { answer = onward o None (λ k. Some k); count = cost_at s book name c })) None)
      go false q o r = rw q refl
      go true q Sought.absent r = ((index_chunk_lem (directory_of s book) (shape_of book) c q).0, refl, q, (rw (q, r) refl, rw (q, r) refl))
      go true q (Sought.found e) r = ((index_chunk_lem (directory_of s book) (shape_of book) c q).0, refl, q, (rw (q, r) refl, rw (q, r) refl))

  module _ (r : Searched (Option ℕ)) (w : Some r ≡ way_at s book name c) where
    pub way_below : c < book.count
    way_below = (subst (Leads 0) (sym w) (leads 0)).0

    pub way_fits : ((i : ℕ) → get_or s i 0 < 256) → r.count < 0x20000
    way_fits bytes = let l = subst (Leads 0) (sym w) (leads 0) in rw l.1 (chosen_fits s book name c l.2 bytes)

    cost_is : r.count ≡ cost_at s book name c
    cost_is = (subst (Leads 0) (sym w) (leads 0)).1

    onwards : (l : ℕ) (x : Option ℕ) → r.answer ≡ x → Onward l x
    onwards l x q = subst (Onward l) q (subst (Leads l) (sym w) (leads l)).3

  -- ---- the descent

  -- `a` is the answer, `mid` the trail before chunk c goes to place i of it
  module _ (level i n : ℕ) (was : List ℕ) (a : Result Answer Refusal) (mid is : List ℕ) (q : is ≡ unless a mid (set mid i c)) where
    pub at_listing : 1 ≤ level → level < 2 → mid ≡ was
        → a ≡ answer_of book (record { chunks = i + 1; comparisons = n + cost_at s book name c }) (outcome_at s book name 1 c)
        → Descended s book name level c i n was a is
    unfolding trail_from
    at_listing l h m d =
        let e : 1 ≡ level = omega arith in
        subst (λ (k : ℕ). Descended s book name k c i n was a is) e
        (record {
          answer = d ∙ ap (λ (x : Effort). answer_of book x (outcome_at s book name 1 c)) (effort_one s book name c i n (cost_at s book name c) [] refl);
          places = rw (← m) q;
        })

    module _ (h : 2 ≤ level) (r : Searched (Option ℕ)) (w : Some r ≡ way_at s book name c) where
      pub at_end : r.answer ≡ None → mid ≡ was → a ≡ Ok (Absent (record { chunks = i + 1; comparisons = n + r.count }))
          → Descended s book name level c i n was a is
      at_end x v d =
          let e : suc (suc (level - 2)) ≡ level = omega arith in
          let o = onwards r w (level - 2) None x in
          subst (λ (k : ℕ). Descended s book name k c i n was a is) e
          (record {
            answer = rw (o.0, o.1) (d ∙ ap (λ (x : Effort). Ok (Absent x)) (effort_one s book name c i n r.count [] (cost_is r w)));
            places = rw (o.1, ← v) q;
          })

      pub going_down : (k : ℕ) → r.answer ≡ Some k → Descended s book name (level - 1) k (i + 1) (n + r.count) was a mid
          → Descended s book name level c i n was a is
      going_down k x d =
          let e : suc (suc (level - 2)) ≡ level = omega arith in
          let z : level - 1 ≡ suc (level - 2) = omega arith in
          let o = onwards r w (level - 2) (Some k) x in
          let d' : Descended s book name (suc (level - 2)) k (i + 1) (n + r.count) was a mid = rw (← z) d in
          let cs : List ℕ = trail_at s book name (suc (level - 2)) k in
          subst (λ (j : ℕ). Descended s book name j c i n was a is) e
          (record {
            answer = rw (o.0, o.1)
                (d'.answer ∙ ap (λ (x : Effort). answer_of book x (outcome_at s book name (suc (level - 2)) k)) (effort_more s book name c i n r.count cs (cost_is r w)));
            places = rw o.1 (unwound a was mid is i c cs d'.places q);
          })

  pub at_bar : (level i n : ℕ) (was : List ℕ) (r : Result Answer Refusal) → 2 ≤ level → None ≡ way_at s book name c → r ≡ Err (refusal_of BadRecord) → Descended s book name level c i n was r was
  at_bar level i n was r h w p =
      let e : suc (suc (level - 2)) ≡ level = omega arith in
      let l = subst (Leads (level - 2)) (sym w) (leads (level - 2)) in
      subst (λ (k : ℕ). Descended s book name k c i n was r was) e (record { answer = rw l p; places = rw p refl })
