-- The steps of a comparison follow its course: a run of steps tells the differences of what two walks read, and then how it ends.
use Rattle.fields.proofs.Base.{◌≡◌, refl, ap, ◌∙◌, Bool, true, false, cond, List, [], ◌∷◌, map, ℕ, suc, ◌-◌, ◌<◌, arith, None, Result, Ok}
use Rattle.refusals.specs.Refusals.{refusal_of}
use Rattle.names.specs.Names.{compared}
use Rattle.std.specs.declared.cmp.Ordering.{Ordering}
use Rattle.std.specs.declared.cmp.Ordering.TheVariants.{Less, Equal, Greater}
use Rattle.entries.specs.declared.Place.{Place}
use Rattle.seek.specs.Seek.{by_order}
use Rattle.header.specs.declared.Record.{Record}
use Rattle.tree.specs.Reading.{Held}
use Rattle.walk.specs.Walk.{after_of, coming_at, weight}
use Rattle.walk.specs.Exact.{Comes, Reads}
use Rattle.walk.specs.declared.Walk.{Walk}
use Rattle.turn.specs.Turn.{one_first, one_second, one_same, one_changed, both_at, turned}
use Rattle.turn.specs.declared.Totals.{Totals}
use Rattle.turn.specs.declared.Cursor.{Cursor}
use Rattle.turn.specs.declared.Step.{Step}
use Rattle.turn.specs.declared.Step.TheVariants.{First, Second, Changed}
use Rattle.turn.specs.declared.Turn.TheVariants.{Tell, On}
use Rattle.turn.proofs.Falling.{turn_falls}
use Rattle.compare.specs.Course.{left, right, both, Course, next, held_name, second_alone, against, merged, pairs, ending, same_numbers, differences, totals_from}
use Rattle.compare.specs.Compare.{step_from}
use Rattle.compare.specs.Compared.{Difference, only_first, only_second, changed, shown_of, difference_of, last_step}
use Rattle.compare.proofs.Stepping.{step_tell, step_on}
use Rattle.compare.proofs.Cases.{first_barred, end_barred, end_end, end_entry, entry_barred, entry_end, entry_less, entry_greater, entry_same, entry_changed}
use Rattle.refusals.specs.declared.Rule.TheVariants.{BadRecord}
use Rattle.refusals.specs.declared.Refusal.{Refusal}
use Rattle.turn.specs.declared.Which.{Which}

-- the step that tells a difference and hands a cursor back
abbrev pub step_of : Difference → Cursor → Result Step (Which × Refusal)
step_of (only_first x) a = Ok (First x a)
step_of (only_second y) a = Ok (Second y a)
step_of (changed x y) a = Ok (Changed x y a)

module _ (s₁ : List ℕ) (b₁ : Record) (s₂ : List ℕ) (b₂ : Record) where
  -- ---- a run of steps

  -- the step at a cursor, over any number of names that is enough
  abbrev Gives : Cursor → Result Step (Which × Refusal) → Type 0
  Gives at x = (n : ℕ) → weight at.first < n → step_from s₁ b₁ s₂ b₂ n at ≡ x

  -- the steps from a cursor tell ds, one a step, and then give `last`
  abbrev pub Run : Cursor → List Difference → Result Step (Which × Refusal) → Type 0
  Run at [] last = Gives at last
  Run at (d ∷ ds) last = (a : Cursor) × Gives at (step_of d a) × Run a ds last

  gives_tell : (at : Cursor) (x : Result Step (Which × Refusal)) → turned s₁ b₁ s₂ b₂ at ≡ Tell x → Gives at x
  gives_tell at x h n l =
      let q : n ≡ suc (n - 1) = omega arith in
      ap (λ (m : ℕ). step_from s₁ b₁ s₂ b₂ m at) q ∙ step_tell s₁ b₁ s₂ b₂ (n - 1) at x h

  gives_on : (at a : Cursor) (x : Result Step (Which × Refusal)) → turned s₁ b₁ s₂ b₂ at ≡ On a → Gives a x → Gives at x
  gives_on at a x h g n l =
      let q : n ≡ suc (n - 1) = omega arith in
      let f = turn_falls s₁ b₁ s₂ b₂ at a h in
      ap (λ (m : ℕ). step_from s₁ b₁ s₂ b₂ m at) q ∙ step_on s₁ b₁ s₂ b₂ (n - 1) at a h ∙ g (n - 1) (omega arith)

  run_on : (at a : Cursor) (ds : List Difference) (last : Result Step (Which × Refusal)) → turned s₁ b₁ s₂ b₂ at ≡ On a → Run a ds last → Run at ds last
  run_on at a [] last h r = gives_on at a last h r
  run_on at a (d ∷ ds) last h r = (r.0, gives_on at a (step_of d r.0) h r.1, r.2)

  -- ---- a run along a course

  abbrev pub Follows : Cursor → Course → Type 0
  Follows at c = Run at (map (difference_of b₁ b₂) (differences (pairs c))) (last_step (ending c) (totals_from at.totals (pairs c)))

  module _ (w₁ w₂ v₁ v₂ : Walk) (t : Totals) (c : Course) where
    next_left : (x : Held) → turned s₁ b₁ s₂ b₂ (both_at w₁ w₂ t) ≡ Tell (Ok (First (shown_of b₁ x) (both_at v₁ v₂ (one_first t))))
        → Follows (both_at v₁ v₂ (one_first t)) c → Follows (both_at w₁ w₂ t) (next (left x) c)
    unfolding pairs ending differences totals_from
    next_left x h r = (both_at v₁ v₂ (one_first t), gives_tell (both_at w₁ w₂ t) _ h, r)

    next_right : (y : Held) → turned s₁ b₁ s₂ b₂ (both_at w₁ w₂ t) ≡ Tell (Ok (Second (shown_of b₂ y) (both_at v₁ v₂ (one_second t))))
        → Follows (both_at v₁ v₂ (one_second t)) c → Follows (both_at w₁ w₂ t) (next (right y) c)
    unfolding pairs ending differences totals_from
    next_right y h r = (both_at v₁ v₂ (one_second t), gives_tell (both_at w₁ w₂ t) _ h, r)

    next_both : (x y : Held) → (same_numbers x.entry y.entry ≡ true → turned s₁ b₁ s₂ b₂ (both_at w₁ w₂ t) ≡ On (both_at v₁ v₂ (one_same t)))
        → (same_numbers x.entry y.entry ≡ false → turned s₁ b₁ s₂ b₂ (both_at w₁ w₂ t) ≡ Tell (Ok (Changed (shown_of b₁ x) (shown_of b₂ y) (both_at v₁ v₂ (one_changed t)))))
        → ((u : Totals) → Follows (both_at v₁ v₂ u) c) → Follows (both_at w₁ w₂ t) (next (both x y) c)
    unfolding pairs ending differences totals_from
    next_both x y f g r = go (same_numbers x.entry y.entry) refl
      where
        go : (k : Bool) → same_numbers x.entry y.entry ≡ k
            → Run (both_at w₁ w₂ t) (map (difference_of b₁ b₂) (cond k (differences (pairs c)) (both x y ∷ differences (pairs c))))
            (last_step (ending c) (totals_from (cond k (one_same t) (one_changed t)) (pairs c)))
        go true e =
            run_on (both_at w₁ w₂ t) (both_at v₁ v₂ (one_same t)) (map (difference_of b₁ b₂) (differences (pairs c)))
            (last_step (ending c) (totals_from (one_same t) (pairs c))) (f e) (r (one_same t))
        go false e = (both_at v₁ v₂ (one_changed t), gives_tell (both_at w₁ w₂ t) _ (g e), r (one_changed t))

  -- ---- the course of what two walks read

  -- what comes next at a walk comes next where it was entered
  stays : (s : List ℕ) (book : Record) (w v : Walk) (e : Place) (h : Held) (hs : List Held) (whole : Bool) → Comes s book w v e h
      → Reads s book (after_of v e) hs whole → Reads s book v (h ∷ hs) whole
  unfolding Reads
  stays s book w v e h hs whole k r = (v, e, record { next = k.still; still = k.still; held = k.held; name = k.name; report = k.report; own = k.own }, r)

  alone_follows : (whole : Bool) (ys : List Held) (w₁ w₂ : Walk) (t : Totals) → coming_at s₁ b₁ w₁ ≡ (Ok None) → Reads s₂ b₂ w₂ ys whole
      → Follows (both_at w₁ w₂ t) (second_alone true whole ys)
  unfolding second_alone pairs ending differences totals_from Reads
  alone_follows true [] w₁ w₂ t h k = gives_tell (both_at w₁ w₂ t) _ (end_end s₁ b₁ s₂ b₂ w₁ w₂ t h k)
  alone_follows false [] w₁ w₂ t h k = gives_tell (both_at w₁ w₂ t) _ (end_barred s₁ b₁ s₂ b₂ w₁ w₂ t h (refusal_of BadRecord) k)
  alone_follows whole (y ∷ ys) w₁ w₂ t h (v₂, e₂, k, r) =
      next_right w₁ w₂ w₁ (after_of v₂ e₂) t (second_alone true whole ys) y (end_entry s₁ b₁ s₂ b₂ w₁ w₂ t h v₂ e₂ y k)
      (alone_follows whole ys w₁ (after_of v₂ e₂) (one_second t) h r)

  -- f goes on behind the entries xs of the first
  abbrev Behind : Bool → Bool → List Held → (List Held → Course) → Type 0
  Behind whole₁ whole₂ xs f = (ys : List Held) (w₁ w₂ : Walk) (t : Totals) → Reads s₁ b₁ w₁ xs whole₁ → Reads s₂ b₂ w₂ ys whole₂ → Follows (both_at w₁ w₂ t) (f ys)

  against_follows : (whole₁ whole₂ : Bool) (x : Held) (xs : List Held) (f : List Held → Course) → Behind whole₁ whole₂ xs f
      → Behind whole₁ whole₂ (x ∷ xs) (against whole₁ whole₂ x f)
  unfolding against pairs ending differences totals_from Reads
  against_follows whole₁ true x xs f b [] w₁ w₂ t (v₁, e₁, h, r) k =
      next_left w₁ w₂ (after_of v₁ e₁) w₂ t (f []) x (entry_end s₁ b₁ s₂ b₂ w₁ w₂ t v₁ e₁ x h k) (b [] (after_of v₁ e₁) w₂ (one_first t) r k)
  against_follows whole₁ false x xs f b [] w₁ w₂ t (v₁, e₁, h, r) k =
      gives_tell (both_at w₁ w₂ t) _ (entry_barred s₁ b₁ s₂ b₂ w₁ w₂ t v₁ e₁ x h (refusal_of BadRecord) k)
  against_follows whole₁ whole₂ x xs f b (y ∷ ys) w₁ w₂ t (v₁, e₁, h, r) (v₂, e₂, k, q) =
      go (compared (held_name x) (held_name y)) refl
      (λ u. against_follows whole₁ whole₂ x xs f b ys v₁ (after_of v₂ e₂) u (stays s₁ b₁ w₁ v₁ e₁ x xs whole₁ h r) q)
    where
      go : (o : Ordering) → compared (held_name x) (held_name y) ≡ o → ((u : Totals) → Follows (both_at v₁ (after_of v₂ e₂) u) (against whole₁ whole₂ x f ys))
          → Follows (both_at w₁ w₂ t) (by_order o (next (left x) (f (y ∷ ys))) (next (both x y) (f ys)) (next (right y) (against whole₁ whole₂ x f ys)))
      go Less o i =
          next_left w₁ w₂ (after_of v₁ e₁) v₂ t (f (y ∷ ys)) x (entry_less s₁ b₁ s₂ b₂ w₁ w₂ t v₁ e₁ x h v₂ e₂ y k o)
          (b (y ∷ ys) (after_of v₁ e₁) v₂ (one_first t) r (stays s₂ b₂ w₂ v₂ e₂ y ys whole₂ k q))
      go Equal o i =
          next_both w₁ w₂ (after_of v₁ e₁) (after_of v₂ e₂) t (f ys) x y
          (entry_same s₁ b₁ s₂ b₂ w₁ w₂ t v₁ e₁ x h v₂ e₂ y k o)
          (entry_changed s₁ b₁ s₂ b₂ w₁ w₂ t v₁ e₁ x h v₂ e₂ y k o)
          (λ u. b ys (after_of v₁ e₁) (after_of v₂ e₂) u r q)
      go Greater o i =
          next_right w₁ w₂ v₁ (after_of v₂ e₂) t (against whole₁ whole₂ x f ys) y (entry_greater s₁ b₁ s₂ b₂ w₁ w₂ t v₁ e₁ x h v₂ e₂ y k o) (i (one_second t))

  pub merged_follows : (whole₁ whole₂ : Bool) (xs : List Held) → Behind whole₁ whole₂ xs (merged whole₁ whole₂ xs)
  unfolding merged pairs ending differences totals_from Reads
  merged_follows true whole₂ [] ys w₁ w₂ t h k = alone_follows whole₂ ys w₁ w₂ t h k
  merged_follows false whole₂ [] ys w₁ w₂ t h k = gives_tell (both_at w₁ w₂ t) _ (first_barred s₁ b₁ s₂ b₂ w₁ w₂ t (refusal_of BadRecord) h)
  merged_follows whole₁ whole₂ (x ∷ xs) ys w₁ w₂ t h k =
      against_follows whole₁ whole₂ x xs (λ zs. merged whole₁ whole₂ xs zs) (merged_follows whole₁ whole₂ xs) ys w₁ w₂ t h k
