-- A step's refusal is 17 of no chunk, beside one of the two books: `step_refusal`.
use Rattle.fields.proofs.Base.{◌≡◌, subst, ◌⊎◌, List, ℕ, zero, suc, Err}
use Rattle.refusals.specs.Refusals.{refusal_of}
use Rattle.refusals.specs.declared.Refusal.{Refusal}
use Rattle.header.specs.declared.Record.{Record}
use Rattle.walk.specs.Walk.{weight}
use Rattle.turn.specs.Turn.{turned}
use Rattle.turn.specs.declared.Cursor.{Cursor}
use Rattle.turn.specs.declared.Turn.{Turn}
use Rattle.turn.specs.declared.Turn.TheVariants.{Tell, On}
use Rattle.turn.proofs.Refusals.{Fair, FairTurn, turn_fair}
use Rattle.compare.specs.Compare.{on_turn, step_from, compare_step}
use Rattle.refusals.specs.declared.Rule.TheVariants.{BadRecord}
use Rattle.turn.specs.declared.Which.{Which}

module _ (s₁ : List ℕ) (b₁ : Record) (s₂ : List ℕ) (b₂ : Record) where
  step_fair : (n : ℕ) (at : Cursor) → Fair (step_from s₁ b₁ s₂ b₂ n at)
  unfolding step_from
  step_fair zero at = tt
  step_fair (suc n) at = go (turned s₁ b₁ s₂ b₂ at) (turn_fair s₁ b₁ s₂ b₂ at) (λ a. step_fair n a)
    where
      go : (x : Turn) → FairTurn x → ((a : Cursor) → Fair (step_from s₁ b₁ s₂ b₂ n a)) → Fair (on_turn (λ a. step_from s₁ b₁ s₂ b₂ n a) x)
      go (Tell x) f i = f
      go (On a) f i = i a

  pub step_refusal : (at : Cursor) (k : Which) (r : Refusal) → compare_step s₁ b₁ s₂ b₂ at ≡ Err (k, r) → ((k ≡ Which.First) ⊎ (k ≡ Which.Second)) × (r ≡ refusal_of BadRecord)
  unfolding compare_step
  step_refusal at k r e = subst Fair e (step_fair (suc (weight at.first)) at)
