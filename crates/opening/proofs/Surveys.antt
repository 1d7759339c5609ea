-- The pass over all chunks: one turn of its loop, and what its answer tells.
use Rattle.fields.proofs.Base.{◌≡◌, refl, sym, ap, ◌∙◌, true, cond, ℕ, zero, suc, ◌+◌, ◌-◌, ◌≤◌, ◌<◌, arith, ℕ_discrete, add-one, Result, Ok, Err}
use Rattle.refusals.specs.Refusals.{refusal_at}
use Rattle.chunk.specs.Chunk.{Parsed, bad, listing, index, is_good}
use Rattle.chunk.specs.Answer.{chunk_of}
use Rattle.chunk.specs.declared.Chunk.TheVariants.{Listing, Index}
use Rattle.tree.specs.Shape.{is_listing}
use Rattle.tree.specs.Walk.{count_below}
use Rattle.opening.specs.Opened.{chunks_then, chunk_then}
use Rattle.opening.specs.Passes.{surveyed, surveyed_by}
use Rattle.refusals.specs.declared.Refusal.{Refusal}
use Rattle.refusals.specs.declared.Rule.{Rule}
use Rattle.header.specs.declared.Record.{Record}

-- ---- one turn, with n chunks left from c on

module _ (D : ℕ → Parsed) (n c l : ℕ) where
  some_left : 0 < n → surveyed D n c l ≡ surveyed D (suc (n - 1)) c l
  some_left h = ap (λ (x : ℕ). surveyed D x c l) (omega arith)

  pub survey_fault : (m : Rule) → 0 < n → chunk_of (D c) ≡ Err m → surveyed D n c l ≡ Err (refusal_at m c)
  unfolding surveyed
  survey_fault m h e = some_left h ∙ rw e refl

  pub survey_listing : (a b : ℕ) → 0 < n → chunk_of (D c) ≡ Ok (Listing a b) → surveyed D n c l ≡ surveyed D (n - 1) (c + 1) (l + 1)
  unfolding surveyed
  survey_listing a b h e = some_left h ∙ rw e refl

  pub survey_index : 0 < n → chunk_of (D c) ≡ Ok Index → surveyed D n c l ≡ surveyed D (n - 1) (c + 1) l
  unfolding surveyed
  survey_index h e = some_left h ∙ rw e refl

  pub survey_end : n ≤ 0 → surveyed D n c l ≡ Ok l
  unfolding surveyed
  survey_end h = let z : n ≡ 0 = omega arith in rw z

-- ---- what the pass over all chunks tells

pub survey_refuses : (D : ℕ → Parsed) (n c l : ℕ) (x : Refusal) (r : Result Record Refusal) → Err x ≡ surveyed D n c l → Err x ≡ chunks_then D n c r
unfolding surveyed chunks_then
survey_refuses D zero c l x r e = absurd (let z : ◌≡◌ {A = ℕ} 0 1 = cc in omega arith)
survey_refuses D (suc n) c l x r e = go (D c) (λ k q. survey_refuses D n (c + 1) k x r q) e
  where
    go : (p : Parsed) → ((k : ℕ) → Err x ≡ surveyed D n (c + 1) k → Err x ≡ chunks_then D n (c + 1) r)
        → Err x ≡ surveyed_by (chunk_of p) c l (surveyed D n (c + 1)) → Err x ≡ chunk_then p c (chunks_then D n (c + 1) r)
    go (bad m) ih q = let z : x ≡ refusal_at m c = cc in ap Err z
    go (listing previous next es) ih q = ih (l + 1) q
    go (index es) ih q = ih l q

-- every chunk passed, and so many of them are listing chunks
pub record Passed (D : ℕ → Parsed) (n c l k : ℕ) (r : Result Record Refusal) : Type 0 where
  pub on : chunks_then D n c r ≡ r
  pub good : (i : ℕ) → c ≤ i → i < c + n → is_good (D i) ≡ true
  pub counted : l ≡ count_below c (λ x. is_listing (D x)) → k ≡ count_below (c + n) (λ x. is_listing (D x))

-- chunk c passed, and those behind it; m listing chunks with it
module _ (D : ℕ → Parsed) (n c l m k : ℕ) (r : Result Record Refusal) (p : Passed D n (c + 1) m k r) where
  passed_more : chunk_then (D c) c r ≡ r → is_good (D c) ≡ true → cond (is_listing (D c)) (suc l) l ≡ m → Passed D (suc n) c l k r
  unfolding chunks_then
  passed_more t f z =
      let y : c + 1 + n ≡ c + suc n = omega arith in
      record {
        on = ap (chunk_then (D c) c) p.on ∙ t;
        good = λ i a b. elim (ℕ_discrete i c) [ yes z ↦ rw z f | no z ↦ p.good i (omega arith) (omega arith) ];
        counted = λ g. p.counted (sym z ∙ rw (add-one, g) refl) ∙ ap (λ (x : ℕ). count_below x (λ x. is_listing (D x))) y;
      }

pub survey_passes : (D : ℕ → Parsed) (n c l k : ℕ) (r : Result Record Refusal) → Ok k ≡ surveyed D n c l → Passed D n c l k r
unfolding surveyed chunks_then
survey_passes D zero c l k r e =
    let z : k ≡ l = cc in
    let y : c + 0 ≡ c = omega arith in
    record { on = refl; good = λ i a b. absurd (omega arith); counted = λ q. z ∙ q ∙ ap (λ (x : ℕ). count_below x (λ x. is_listing (D x))) (sym y) }
survey_passes D (suc n) c l k r e = go (D c) refl (λ m q. survey_passes D n (c + 1) m k r q) e
  where
    go : (p : Parsed) → D c ≡ p → ((m : ℕ) → Ok k ≡ surveyed D n (c + 1) m → Passed D n (c + 1) m k r)
        → Ok k ≡ surveyed_by (chunk_of p) c l (surveyed D n (c + 1)) → Passed D (suc n) c l k r
    go (bad x) f ih q = absurd (let z : ◌≡◌ {A = ℕ} 0 1 = cc in omega arith)
    go (listing x y es) f ih q = passed_more D n c l (l + 1) k r (ih (l + 1) q) (rw f refl) (rw f refl) (rw f (sym (add-one l)))
    go (index es) f ih q = passed_more D n c l l k r (ih l q) (rw f refl) (rw f refl) (rw f refl)
