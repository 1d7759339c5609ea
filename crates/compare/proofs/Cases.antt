-- What one name gives, by what comes next in each book: one law for each case of the course.
use Rattle.fields.proofs.Base.{◌≡◌, refl, sym, ap, ap₂, ◌∙◌, true, false, List, ℕ, None, Ok, Err}
use Rattle.refusals.specs.declared.Refusal.{Refusal}
use Rattle.names.specs.Names.{compared}
use Rattle.std.specs.declared.cmp.Ordering.TheVariants.{Less, Equal, Greater}
use Rattle.entries.specs.declared.Place.{Place}
use Rattle.header.specs.declared.Record.{Record}
use Rattle.tree.specs.Reading.{Held}
use Rattle.report.specs.declared.Report.{Report}
use Rattle.report.specs.declared.Own.{Own}
use Rattle.walk.specs.Walk.{after_of, coming_at, name_here}
use Rattle.walk.specs.Exact.{Comes}
use Rattle.walk.specs.declared.Walk.{Walk}
use Rattle.turn.specs.Turn.{one_first, one_second, one_same, one_changed, refused_by, both_at, shown_at, same_at, in_both, paired, behind_first, beside_first, turned}
use Rattle.turn.specs.declared.Totals.{Totals}
use Rattle.turn.specs.declared.Shown.{Shown}
use Rattle.turn.specs.declared.Step.TheVariants.{First, Second, Changed, End}
use Rattle.turn.specs.declared.Turn.TheVariants.{Tell, On}
use Rattle.compare.specs.Course.{held_name, same_numbers}
use Rattle.compare.specs.Compared.{shown_of}
use Rattle.turn.specs.declared.Which.{Which}

-- an entry that comes next is told as the reading has it
shown_is : (s : List ℕ) (book : Record) (w v : Walk) (e : Place) (h : Held) → Comes s book w v e h → shown_at s book v e ≡ shown_of book h
shown_is s book w v e h k = ap₂ (λ (r : Report) (o : Own). let x : Shown = record { report = r; own = o } in x) k.report k.own

-- its numbers are those of the reading
section_is : (s : List ℕ) (book : Record) (w v : Walk) (e : Place) (h : Held) → Comes s book w v e h
    → (h.entry.section ≡ e.section) × (h.entry.offset ≡ e.offset) × (h.entry.size ≡ e.size)
section_is s book w v e h k =
    (ap (λ (x : Held). x.entry.section) k.held, ap (λ (x : Held). x.entry.offset) k.held, ap (λ (x : Held). x.entry.size) k.held)

module _ (s₁ : List ℕ) (b₁ : Record) (s₂ : List ℕ) (b₂ : Record) (w₁ w₂ : Walk) (t : Totals) where
  pub first_barred : (r : Refusal) → coming_at s₁ b₁ w₁ ≡ Err r → turned s₁ b₁ s₂ b₂ (both_at w₁ w₂ t) ≡ Tell (refused_by Which.First)
  unfolding turned
  first_barred r h = rw h

  -- ---- the first book is at its end

  module _ (h : coming_at s₁ b₁ w₁ ≡ (Ok None)) where
    pub end_barred : (r : Refusal) → coming_at s₂ b₂ w₂ ≡ Err r → turned s₁ b₁ s₂ b₂ (both_at w₁ w₂ t) ≡ Tell (refused_by Which.Second)
    unfolding turned behind_first
    end_barred r k = rw (h, k)

    pub end_end : coming_at s₂ b₂ w₂ ≡ (Ok None) → turned s₁ b₁ s₂ b₂ (both_at w₁ w₂ t) ≡ Tell (Ok (End t))
    unfolding turned behind_first
    end_end k = rw (h, k)

    pub end_entry : (v₂ : Walk) (e₂ : Place) (y : Held) → Comes s₂ b₂ w₂ v₂ e₂ y
        → turned s₁ b₁ s₂ b₂ (both_at w₁ w₂ t) ≡ Tell (Ok (Second (shown_of b₂ y) (both_at w₁ (after_of v₂ e₂) (one_second t))))
    unfolding turned behind_first
    end_entry v₂ e₂ y k =
        rw (h, k.next) (ap (λ (z : Shown). Tell (Ok (Second z (both_at w₁ (after_of v₂ e₂) (one_second t))))) (shown_is s₂ b₂ w₂ v₂ e₂ y k))

  -- ---- the first book has an entry

  module _ (v₁ : Walk) (e₁ : Place) (x : Held) (h : Comes s₁ b₁ w₁ v₁ e₁ x) where
    pub entry_barred : (r : Refusal) → coming_at s₂ b₂ w₂ ≡ Err r → turned s₁ b₁ s₂ b₂ (both_at w₁ w₂ t) ≡ Tell (refused_by Which.Second)
    unfolding turned beside_first
    entry_barred r k = rw (h.next, k)

    pub entry_end : coming_at s₂ b₂ w₂ ≡ (Ok None) → turned s₁ b₁ s₂ b₂ (both_at w₁ w₂ t) ≡ Tell (Ok (First (shown_of b₁ x) (both_at (after_of v₁ e₁) w₂ (one_first t))))
    unfolding turned beside_first
    entry_end k = rw (h.next, k) (ap (λ (z : Shown). Tell (Ok (First z (both_at (after_of v₁ e₁) w₂ (one_first t))))) (shown_is s₁ b₁ w₁ v₁ e₁ x h))

    -- ---- and so has the second

    module _ (v₂ : Walk) (e₂ : Place) (y : Held) (k : Comes s₂ b₂ w₂ v₂ e₂ y) where
      pairing : turned s₁ b₁ s₂ b₂ (both_at w₁ w₂ t) ≡ paired s₁ b₁ s₂ b₂ e₁ v₁ e₂ v₂ t
      unfolding turned beside_first
      pairing = rw (h.next, k.next)

      order_is : compared (name_here s₁ b₁ v₁ e₁) (name_here s₂ b₂ v₂ e₂) ≡ compared (held_name x) (held_name y)
      order_is = ap₂ compared h.name k.name

      same_is : same_numbers x.entry y.entry ≡ same_at e₁ e₂
      same_is =
          let a = section_is s₁ b₁ w₁ v₁ e₁ x h in
          let b = section_is s₂ b₂ w₂ v₂ e₂ y k in
          rw (a.0, a.1, a.2, b.0, b.1, b.2) refl

      pub entry_less : compared (held_name x) (held_name y) ≡ Less
          → turned s₁ b₁ s₂ b₂ (both_at w₁ w₂ t) ≡ Tell (Ok (First (shown_of b₁ x) (both_at (after_of v₁ e₁) v₂ (one_first t))))
      unfolding paired
      entry_less o =
          pairing ∙ rw (order_is, o) (ap (λ (z : Shown). Tell (Ok (First z (both_at (after_of v₁ e₁) v₂ (one_first t))))) (shown_is s₁ b₁ w₁ v₁ e₁ x h))

      pub entry_greater : compared (held_name x) (held_name y) ≡ Greater
          → turned s₁ b₁ s₂ b₂ (both_at w₁ w₂ t) ≡ Tell (Ok (Second (shown_of b₂ y) (both_at v₁ (after_of v₂ e₂) (one_second t))))
      unfolding paired
      entry_greater o =
          pairing ∙ rw (order_is, o) (ap (λ (z : Shown). Tell (Ok (Second z (both_at v₁ (after_of v₂ e₂) (one_second t))))) (shown_is s₂ b₂ w₂ v₂ e₂ y k))

      module _ (o : compared (held_name x) (held_name y) ≡ Equal) where
        meeting : turned s₁ b₁ s₂ b₂ (both_at w₁ w₂ t) ≡ in_both s₁ b₁ s₂ b₂ e₁ v₁ e₂ v₂ t
        unfolding paired
        meeting = pairing ∙ rw (order_is, o) refl

        pub entry_same : same_numbers x.entry y.entry ≡ true
            → turned s₁ b₁ s₂ b₂ (both_at w₁ w₂ t) ≡ On (both_at (after_of v₁ e₁) (after_of v₂ e₂) (one_same t))
        unfolding in_both
        entry_same q = let z : same_at e₁ e₂ ≡ true = sym same_is ∙ q in meeting ∙ rw z refl

        pub entry_changed : same_numbers x.entry y.entry ≡ false
            → turned s₁ b₁ s₂ b₂ (both_at w₁ w₂ t) ≡ Tell (Ok (Changed (shown_of b₁ x) (shown_of b₂ y) (both_at (after_of v₁ e₁) (after_of v₂ e₂) (one_changed t))))
        unfolding in_both
        entry_changed q =
            let z : same_at e₁ e₂ ≡ false = sym same_is ∙ q in
            meeting
            ∙ rw z (ap₂ (λ (a b : Shown). Tell (Ok (Changed a b (both_at (after_of v₁ e₁) (after_of v₂ e₂) (one_changed t)))))
            (shown_is s₁ b₁ w₁ v₁ e₁ x h) (shown_is s₂ b₂ w₂ v₂ e₂ y k))
