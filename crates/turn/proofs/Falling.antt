-- Each name leaves the two books with fewer entries to come; one with nothing to tell leaves the first with fewer: `turn_falls`.
use Rattle.fields.proofs.Base.{◌≡◌, subst, ⊎_elim, Bool, true, false, cond, List, ℕ, ◌≤◌, ◌<◌, arith, Some, Ok}
use Rattle.entries.specs.declared.Place.{Place}
use Rattle.header.specs.declared.Record.{Record}
use Rattle.walk.specs.Walk.{after_of, coming_at, weight}
use Rattle.walk.specs.declared.Walk.{Walk}
use Rattle.walk.proofs.Falling.{peek_falls, peek_keeps}
use Rattle.turn.specs.Turn.{one_same, one_changed, both_at, shown_at, same_at, in_both, turned, load, Lighter}
use Rattle.turn.specs.declared.Cursor.{Cursor}
use Rattle.turn.specs.declared.Step.TheVariants.{Changed}
use Rattle.turn.specs.declared.Turn.{Turn}
use Rattle.turn.specs.declared.Turn.TheVariants.{Tell, On}
use Rattle.turn.proofs.Turns.{Kept, turn_cases}

-- a name that tells something; and one that has nothing to tell, where the first walk has gone on too
abbrev pub LighterTurn : Cursor → Turn → Type 0
LighterTurn at (Tell x) = Lighter (load at) x
LighterTurn at (On a) = (load a < load at) × (weight a.first < weight at.first)

kept_light : (s : List ℕ) (book : Record) (w v : Walk) → Kept s book w v → weight v ≤ weight w
kept_light s book w v k =
    ⊎_elim (λ q. subst (λ (u : Walk). weight u ≤ weight w) q (omega arith)) (λ c. peek_keeps s book w v c.0 c.1) k

module _ (s₁ : List ℕ) (b₁ : Record) (s₂ : List ℕ) (b₂ : Record) where
  both_lighter : (at : Cursor) (x : Place) (v₁ : Walk) (y : Place) (v₂ : Walk) → coming_at s₁ b₁ at.first ≡ Ok (Some (x, v₁)) → coming_at s₂ b₂ at.second ≡ Ok (Some (y, v₂))
      → LighterTurn at (in_both s₁ b₁ s₂ b₂ x v₁ y v₂ at.totals)
  unfolding in_both
  both_lighter at x v₁ y v₂ h k = go (same_at x y) (peek_falls s₁ b₁ at.first v₁ x h) (peek_falls s₂ b₂ at.second v₂ y k)
    where
      go : (q : Bool) → weight (after_of v₁ x) < weight at.first → weight (after_of v₂ y) < weight at.second
          → LighterTurn at (cond q (On (both_at (after_of v₁ x) (after_of v₂ y) (one_same at.totals)))
          (Tell (Ok (Changed (shown_at s₁ b₁ v₁ x) (shown_at s₂ b₂ v₂ y) (both_at (after_of v₁ x) (after_of v₂ y) (one_changed at.totals))))))
      go true a b = (omega arith, a)
      go false a b = omega arith

  pub turn_lighter : (at : Cursor) → LighterTurn at (turned s₁ b₁ s₂ b₂ at)
  turn_lighter at =
      turn_cases s₁ b₁ s₂ b₂ at (LighterTurn at)
      (record {
        refused = λ k e. tt;
        ended = tt;
        first = λ x v₁ v₂ h k. let a = peek_falls s₁ b₁ at.first v₁ x h in let b = kept_light s₂ b₂ at.second v₂ k in omega arith;
        second = λ v₁ y v₂ h k. let a = kept_light s₁ b₁ at.first v₁ h in let b = peek_falls s₂ b₂ at.second v₂ y k in omega arith;
        both = both_lighter at;
      })

  pub turn_falls : (at a : Cursor) → turned s₁ b₁ s₂ b₂ at ≡ On a → weight a.first < weight at.first
  turn_falls at a h = (subst (LighterTurn at) h (turn_lighter at)).1
