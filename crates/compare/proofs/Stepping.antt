-- A step goes from name to name: what one name tells ends it. Each step leaves the two books with fewer entries to come: `step_falls`.
use Rattle.fields.proofs.Base.{◌≡◌, List, ℕ, zero, suc, ◌≤◌, arith, Result, Ok, Err}
use Rattle.header.specs.declared.Record.{Record}
use Rattle.walk.specs.Walk.{weight}
use Rattle.turn.specs.Turn.{turned, load, Lighter}
use Rattle.turn.specs.declared.Cursor.{Cursor}
use Rattle.turn.specs.declared.Step.{Step}
use Rattle.turn.specs.declared.Step.TheVariants.{First, Second, Changed, End}
use Rattle.turn.specs.declared.Turn.{Turn}
use Rattle.turn.specs.declared.Turn.TheVariants.{Tell, On}
use Rattle.turn.proofs.Falling.{LighterTurn, turn_lighter}
use Rattle.compare.specs.Compare.{on_turn, step_from, compare_step}
use Rattle.refusals.specs.declared.Refusal.{Refusal}
use Rattle.turn.specs.declared.Which.{Which}

module _ (s₁ : List ℕ) (b₁ : Record) (s₂ : List ℕ) (b₂ : Record) where
  -- ---- a step by what its first name gives

  pub step_tell : (n : ℕ) (at : Cursor) (x : Result Step (Which × Refusal)) → turned s₁ b₁ s₂ b₂ at ≡ Tell x → step_from s₁ b₁ s₂ b₂ (suc n) at ≡ x
  unfolding step_from
  step_tell n at x h = rw h

  pub step_on : (n : ℕ) (at a : Cursor) → turned s₁ b₁ s₂ b₂ at ≡ On a → step_from s₁ b₁ s₂ b₂ (suc n) at ≡ step_from s₁ b₁ s₂ b₂ n a
  unfolding step_from
  step_on n at a h = rw h

  -- ---- a step takes entries, or hands no cursor back

  lighter_more : (m n : ℕ) (x : Result Step (Which × Refusal)) → m ≤ n → Lighter m x → Lighter n x
  lighter_more m n (Ok (First x a)) l k = omega arith
  lighter_more m n (Ok (Second y a)) l k = omega arith
  lighter_more m n (Ok (Changed x y a)) l k = omega arith
  lighter_more m n (Ok (End t)) l k = tt
  lighter_more m n (Err (j, r)) l k = tt

  from_lighter : (n : ℕ) (at : Cursor) → Lighter (load at) (step_from s₁ b₁ s₂ b₂ n at)
  unfolding step_from
  from_lighter zero at = tt
  from_lighter (suc n) at = go (turned s₁ b₁ s₂ b₂ at) (turn_lighter s₁ b₁ s₂ b₂ at) (λ a. from_lighter n a)
    where
      go : (x : Turn) → LighterTurn at x → ((a : Cursor) → Lighter (load a) (step_from s₁ b₁ s₂ b₂ n a))
          → Lighter (load at) (on_turn (λ a. step_from s₁ b₁ s₂ b₂ n a) x)
      go (Tell x) f i = f
      go (On a) f i = let l = f.0 in lighter_more (load a) (load at) (step_from s₁ b₁ s₂ b₂ n a) (omega arith) (i a)

  pub step_falls : (at : Cursor) → Lighter (load at) (compare_step s₁ b₁ s₂ b₂ at)
  unfolding compare_step
  step_falls at = from_lighter (suc (weight at.first)) at
