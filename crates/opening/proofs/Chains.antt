-- The run along the chain, link by link: what a link tells of the run.
use Rattle.fields.proofs.Base.{◌≡◌, refl, ap, ◌∙◌, Bool, true, false, cond, ◌&&◌, ℕ, suc, ◌-◌, ◌<◌, arith, eqb}
use Rattle.fields.proofs.Tests.{and_no}
use Rattle.refusals.specs.Refusals.{no_chunk}
use Rattle.names.specs.Names.{below}
use Rattle.chunk.specs.Chunk.{Parsed}
use Rattle.tree.specs.Shape.{Shape, previous_of, next_of, first_name, last_name, listing_chunk}
use Rattle.tree.specs.Walk.{chain_run}
use Rattle.tree.proofs.Steps.{run_other}
use Rattle.opening.specs.Passes.{link_of}
use Rattle.opening.specs.declared.Link.{Link}
use Rattle.opening.specs.declared.Link.TheVariants.{Broken, Last, Next}

module _ (D : ℕ → Parsed) (H : Shape) where
  -- the run from chunk c, whose link is known, with k + 1 listing chunks left
  abbrev pub run_link : ℕ → ℕ → Link → Bool
  run_link k c Broken = false
  run_link k c Last = eqb c H.last && eqb k 0
  run_link k c (Next n) = chain_run D H k c n

  run_suc : (k p c : ℕ) → chain_run D H (suc k) p c ≡ run_link k c (link_of D H p c)
  unfolding chain_run link_of
  run_suc k p c = go (listing_chunk D H c) (eqb (previous_of (D c)) p) (eqb (next_of (D c)) no_chunk) (listing_chunk D H n) (below (last_name (D c)) (first_name (D n))) refl
    where
      n : ℕ
      n = next_of (D c)

      go : (a b d e f : Bool) → listing_chunk D H n ≡ e
          → (a && (b && cond d (eqb c H.last && eqb k 0) (f && chain_run D H k c n)))
          ≡ run_link k c (cond (a && b) (cond d Last (cond (e && f) (Next n) Broken)) Broken)
      go true true true e f t = refl
      go true true false true true t = refl
      go true true false true false t = refl
      go true true false false f t = rw (run_other D H k c n t) (and_no f)
      go true false d e f t = refl
      go false b d e f t = refl

  pub run_link_lem : (k p c : ℕ) → 0 < k → chain_run D H k p c ≡ run_link (k - 1) c (link_of D H p c)
  run_link_lem k p c h = ap (λ (x : ℕ). chain_run D H x p c) (let z : k ≡ suc (k - 1) = omega arith in z) ∙ run_suc (k - 1) p c
