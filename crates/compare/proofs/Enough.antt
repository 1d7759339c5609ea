-- How many names a step may go over is no limit: any number above what the first walk can still come to gives the same step.
use Rattle.fields.proofs.Base.{◌≡◌, refl, sym, ◌∙◌, List, ℕ, zero, suc, ◌<◌, arith}
use Rattle.header.specs.declared.Record.{Record}
use Rattle.walk.specs.Walk.{weight}
use Rattle.turn.specs.Turn.{turned}
use Rattle.turn.specs.declared.Cursor.{Cursor}
use Rattle.turn.specs.declared.Turn.{Turn}
use Rattle.turn.specs.declared.Turn.TheVariants.{Tell, On}
use Rattle.turn.proofs.Falling.{turn_falls}
use Rattle.compare.specs.Compare.{step_from, compare_step}
use Rattle.compare.proofs.Stepping.{step_tell, step_on}

module _ (s₁ : List ℕ) (b₁ : Record) (s₂ : List ℕ) (b₂ : Record) where
  same_step : (n m : ℕ) (at : Cursor) → weight at.first < n → weight at.first < m → step_from s₁ b₁ s₂ b₂ n at ≡ step_from s₁ b₁ s₂ b₂ m at
  same_step zero m at l k = absurd (omega arith)
  same_step (suc n) zero at l k = absurd (omega arith)
  same_step (suc n) (suc m) at l k =
      go (turned s₁ b₁ s₂ b₂ at) refl (λ a f. same_step n m a (omega arith) (omega arith))
    where
      go : (x : Turn) → turned s₁ b₁ s₂ b₂ at ≡ x
          → ((a : Cursor) → weight a.first < weight at.first → step_from s₁ b₁ s₂ b₂ n a ≡ step_from s₁ b₁ s₂ b₂ m a)
          → step_from s₁ b₁ s₂ b₂ (suc n) at ≡ step_from s₁ b₁ s₂ b₂ (suc m) at
      go (Tell x) h i = step_tell s₁ b₁ s₂ b₂ n at x h ∙ sym (step_tell s₁ b₁ s₂ b₂ m at x h)
      go (On a) h i = step_on s₁ b₁ s₂ b₂ n at a h ∙ i a (turn_falls s₁ b₁ s₂ b₂ at a h) ∙ sym (step_on s₁ b₁ s₂ b₂ m at a h)

  pub enough : (n : ℕ) (at : Cursor) → weight at.first < n → step_from s₁ b₁ s₂ b₂ n at ≡ compare_step s₁ b₁ s₂ b₂ at
  unfolding compare_step
  enough n at l = same_step n (suc (weight at.first)) at l (omega arith)
