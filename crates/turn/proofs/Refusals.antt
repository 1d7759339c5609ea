-- A refusal that one name gives is 17 of no chunk, beside one of the two books: `turn_fair`.
use Rattle.fields.proofs.Base.{◌≡◌, refl, ◌⊎◌, Bool, true, false, cond, List, ℕ, Result, Ok, Err}
use Rattle.refusals.specs.Refusals.{refusal_of}
use Rattle.entries.specs.declared.Place.{Place}
use Rattle.header.specs.declared.Record.{Record}
use Rattle.walk.specs.Walk.{after_of}
use Rattle.walk.specs.declared.Walk.{Walk}
use Rattle.turn.specs.Turn.{one_same, one_changed, both_at, shown_at, same_at, in_both, turned}
use Rattle.turn.specs.declared.Cursor.{Cursor}
use Rattle.turn.specs.declared.Step.{Step}
use Rattle.turn.specs.declared.Step.TheVariants.{First, Second, Changed, End}
use Rattle.turn.specs.declared.Turn.{Turn}
use Rattle.turn.specs.declared.Turn.TheVariants.{Tell, On}
use Rattle.turn.proofs.Turns.{turn_cases}
use Rattle.refusals.specs.declared.Rule.TheVariants.{BadRecord}
use Rattle.refusals.specs.declared.Refusal.{Refusal}
use Rattle.turn.specs.declared.Which.{Which}

-- a refusal is that of one of the two books
abbrev pub Fair : Result Step (Which × Refusal) → Type 0
Fair (Ok (First x a)) = Unit {0}
Fair (Ok (Second y a)) = Unit {0}
Fair (Ok (Changed x y a)) = Unit {0}
Fair (Ok (End t)) = Unit {0}
Fair (Err (k, r)) = ((k ≡ Which.First) ⊎ (k ≡ Which.Second)) × (r ≡ refusal_of BadRecord)

abbrev pub FairTurn : Turn → Type 0
FairTurn (Tell x) = Fair x
FairTurn (On a) = Unit {0}

module _ (s₁ : List ℕ) (b₁ : Record) (s₂ : List ℕ) (b₂ : Record) where
  both_fair : (at : Cursor) (x : Place) (v₁ : Walk) (y : Place) (v₂ : Walk) → FairTurn (in_both s₁ b₁ s₂ b₂ x v₁ y v₂ at.totals)
  unfolding in_both
  both_fair at x v₁ y v₂ = go (same_at x y)
    where
      go : (k : Bool) → FairTurn (cond k (On (both_at (after_of v₁ x) (after_of v₂ y) (one_same at.totals)))
          (Tell (Ok (Changed (shown_at s₁ b₁ v₁ x) (shown_at s₂ b₂ v₂ y) (both_at (after_of v₁ x) (after_of v₂ y) (one_changed at.totals))))))
      go true = tt
      go false = tt

  pub turn_fair : (at : Cursor) → FairTurn (turned s₁ b₁ s₂ b₂ at)
  turn_fair at =
      turn_cases s₁ b₁ s₂ b₂ at FairTurn
      (record {
        refused = λ k e. (e, refl);
        ended = tt;
        first = λ x v₁ v₂ h k. tt;
        second = λ v₁ y v₂ h k. tt;
        both = λ x v₁ y v₂ h k. both_fair at x v₁ y v₂;
      })
