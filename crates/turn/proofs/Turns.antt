-- What one name can give, by cases, whatever the bytes, the records and the cursor are: `turn_cases`.
use Rattle.fields.proofs.Base.{◌≡◌, refl, ◌⊎◌, inl, inr, List, ℕ, Option, Some, None, Result, Ok, Err}
use Rattle.names.specs.Names.{compared}
use Rattle.std.specs.declared.cmp.Ordering.{Ordering}
use Rattle.std.specs.declared.cmp.Ordering.TheVariants.{Less, Equal, Greater}
use Rattle.entries.specs.declared.Place.{Place}
use Rattle.seek.specs.Seek.{by_order}
use Rattle.header.specs.declared.Record.{Record}
use Rattle.walk.specs.Walk.{coming_at, name_here}
use Rattle.walk.specs.declared.Walk.{Walk}
use Rattle.turn.specs.Turn.{refused_by, on_coming, turn_only_first, turn_only_second, in_both, paired, behind_first, beside_first, turned}
use Rattle.turn.specs.declared.Cursor.{Cursor}
use Rattle.turn.specs.declared.Step.{Step}
use Rattle.turn.specs.declared.Turn.{Turn}
use Rattle.turn.specs.declared.Turn.TheVariants.{Tell}
use Rattle.refusals.specs.declared.Refusal.{Refusal}
use Rattle.turn.specs.declared.Which.{Which}

-- a walk whose entry is not taken: as it was, or inside the chunk that it entered
abbrev pub Kept : List ℕ → Record → Walk → Walk → Type 0
Kept s book w v = (w ≡ v) ⊎ ((e : Place) × (coming_at s book w ≡ Ok (Some (e, v))))

module _ (s₁ : List ℕ) (b₁ : Record) (s₂ : List ℕ) (b₂ : Record) (at : Cursor) (P : Turn → Type 0) where
  pub record Cases : Type 0 where
    pub refused : (k : Which) → (k ≡ Which.First) ⊎ (k ≡ Which.Second) → P (Tell (refused_by k))
    pub ended : P (Tell (Ok (Step.End at.totals)))
    pub first : (x : Place) (v₁ v₂ : Walk) → coming_at s₁ b₁ at.first ≡ Ok (Some (x, v₁)) → Kept s₂ b₂ at.second v₂ → P (turn_only_first s₁ b₁ x v₁ v₂ at.totals)
    pub second : (v₁ : Walk) (y : Place) (v₂ : Walk) → Kept s₁ b₁ at.first v₁ → coming_at s₂ b₂ at.second ≡ Ok (Some (y, v₂)) → P (turn_only_second s₂ b₂ v₁ y v₂ at.totals)
    pub both : (x : Place) (v₁ : Walk) (y : Place) (v₂ : Walk) → coming_at s₁ b₁ at.first ≡ Ok (Some (x, v₁)) → coming_at s₂ b₂ at.second ≡ Ok (Some (y, v₂))
        → P (in_both s₁ b₁ s₂ b₂ x v₁ y v₂ at.totals)

  module _ (cases : Cases) where
    pair_case : (x : Place) (v₁ : Walk) (y : Place) (v₂ : Walk) → coming_at s₁ b₁ at.first ≡ Ok (Some (x, v₁)) → coming_at s₂ b₂ at.second ≡ Ok (Some (y, v₂))
        → P (paired s₁ b₁ s₂ b₂ x v₁ y v₂ at.totals)
    unfolding paired
    pair_case x v₁ y v₂ h k = go (compared (name_here s₁ b₁ v₁ x) (name_here s₂ b₂ v₂ y))
      where
        go : (o : Ordering) → P (by_order o (turn_only_first s₁ b₁ x v₁ v₂ at.totals) (in_both s₁ b₁ s₂ b₂ x v₁ y v₂ at.totals) (turn_only_second s₂ b₂ v₁ y v₂ at.totals))
        go Less = cases.first x v₁ v₂ h (inr (y, k))
        go Equal = cases.both x v₁ y v₂ h k
        go Greater = cases.second v₁ y v₂ (inr (x, h)) k

    beside_case : (x : Place) (v₁ : Walk) → coming_at s₁ b₁ at.first ≡ Ok (Some (x, v₁)) → P (beside_first s₁ b₁ s₂ b₂ x v₁ at.second at.totals)
    unfolding beside_first
    beside_case x v₁ h = go (coming_at s₂ b₂ at.second) refl
      where
        go : (c : Result (Option (Place × Walk)) Refusal) → coming_at s₂ b₂ at.second ≡ c
            → P (on_coming c (Tell (refused_by Which.Second)) (turn_only_first s₁ b₁ x v₁ at.second at.totals) (λ y v₂. paired s₁ b₁ s₂ b₂ x v₁ y v₂ at.totals))
        go (Err n) k = cases.refused Which.Second (inr refl)
        go (Ok None) k = cases.first x v₁ at.second h (inl refl)
        go (Ok (Some (y, v₂))) k = pair_case x v₁ y v₂ h k

    behind_case : P (behind_first s₂ b₂ at.first at.second at.totals)
    unfolding behind_first
    behind_case = go (coming_at s₂ b₂ at.second) refl
      where
        go : (c : Result (Option (Place × Walk)) Refusal) → coming_at s₂ b₂ at.second ≡ c
            → P (on_coming c (Tell (refused_by Which.Second)) (Tell (Ok (Step.End at.totals))) (λ y v₂. turn_only_second s₂ b₂ at.first y v₂ at.totals))
        go (Err n) k = cases.refused Which.Second (inr refl)
        go (Ok None) k = cases.ended
        go (Ok (Some (y, v₂))) k = cases.second at.first y v₂ (inl refl) k

    pub turn_cases : P (turned s₁ b₁ s₂ b₂ at)
    unfolding turned
    turn_cases = go (coming_at s₁ b₁ at.first) refl
      where
        go : (c : Result (Option (Place × Walk)) Refusal) → coming_at s₁ b₁ at.first ≡ c
            → P (on_coming c (Tell (refused_by Which.First)) (behind_first s₂ b₂ at.first at.second at.totals) (λ x v₁. beside_first s₁ b₁ s₂ b₂ x v₁ at.second at.totals))
        go (Err n) k = cases.refused Which.First (inl refl)
        go (Ok None) k = behind_case
        go (Ok (Some (x, v₁))) k = beside_case x v₁ k
