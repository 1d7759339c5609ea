-- A comparison is exact, whatever the bytes and the records are: the steps from its start tell the differences of its course, and then how it ends.
use Rattle.fields.proofs.Base.{◌≡◌, refl, sym, ap, subst, ◌∙◌, ◌⊎◌, inl, inr, ⊎_elim, ◌≢◌, List, [], ◌∷◌, ◌++◌, ℕ, zero, suc, ◌<◌, arith, length, take, Result, Ok, Err}
use lib.Seq.{take-nil}
use Rattle.refusals.specs.declared.Refusal.{Refusal}
use Rattle.header.specs.declared.Record.{Record}
use Rattle.walk.specs.Walk.{weight, walk_start}
use Rattle.walk.specs.Exact.{reading_of}
use Rattle.walk.proofs.Standing.{walk_exact}
use Rattle.turn.specs.declared.Totals.{Totals}
use Rattle.turn.specs.declared.Cursor.{Cursor}
use Rattle.turn.specs.declared.Step.{Step}
use Rattle.turn.specs.declared.Step.TheVariants.{End}
use Rattle.compare.specs.Course.{Ending, done, first_stops, second_stops, course, ending, no_totals}
use Rattle.compare.specs.Compare.{compare_start, step_from, compare_step}
use Rattle.compare.specs.Compared.{Difference, only_first, only_second, changed, told_in, behind_step, told_from, after_steps, course_told, course_totals, end_cursor, last_step, ComparisonExact}
use Rattle.compare.proofs.Following.{step_of, Run, merged_follows}
use Rattle.turn.specs.declared.Which.{Which}

-- a step that tells a difference, and one that tells none
told_of_lem : (d : Difference) (a : Cursor) → told_in (step_of d a) ≡ d ∷ []
told_of_lem (only_first x) a = refl
told_of_lem (only_second y) a = refl
told_of_lem (changed x y) a = refl

cursor_of : (at : Cursor) (d : Difference) (a : Cursor) → behind_step at (step_of d a) ≡ a
cursor_of at (only_first x) a = refl
cursor_of at (only_second y) a = refl
cursor_of at (changed x y) a = refl

abbrev pub Final : Result Step (Which × Refusal) → Type 0
Final x = (told_in x ≡ []) × ((at : Cursor) → behind_step at x ≡ at)

pub last_final : (e : Ending) (t : Totals) → Final (last_step e t)
last_final done t = (refl, λ at. refl)
last_final first_stops t = (refl, λ at. refl)
last_final second_stops t = (refl, λ at. refl)

-- neither a difference nor the end is a refusal
tells_not : (d : Difference) (a : Cursor) (k : Which) (r : Refusal) → step_of d a ≡ Err (k, r) → ⊥
tells_not (only_first x) a k r h = cc
tells_not (only_second y) a k r h = cc
tells_not (changed x y) a k r h = cc

ends_not : (t : Totals) (k : Which) (r : Refusal) → ◌≡◌ {A = Result Step (Which × Refusal)} (Ok (End t)) (Err (k, r)) → ⊥
ends_not t k r h = cc

module _ (s₁ : List ℕ) (b₁ : Record) (s₂ : List ℕ) (b₂ : Record) where
  -- ---- one step

  step_is : (at : Cursor) (x : Result Step (Which × Refusal)) → ((n : ℕ) → weight at.first < n → step_from s₁ b₁ s₂ b₂ n at ≡ x) → compare_step s₁ b₁ s₂ b₂ at ≡ x
  unfolding compare_step
  step_is at x g = g (suc (weight at.first)) (omega arith)

  steps_by : (n : ℕ) (at : Cursor) (x : Result Step (Which × Refusal)) → compare_step s₁ b₁ s₂ b₂ at ≡ x → told_from s₁ b₁ s₂ b₂ (suc n) at ≡ told_in x ++ told_from s₁ b₁ s₂ b₂ n (behind_step at x)
  unfolding told_from
  steps_by n at x e = ap (λ (y : Result Step (Which × Refusal)). told_in y ++ told_from s₁ b₁ s₂ b₂ n (behind_step at y)) e

  after_by : (n : ℕ) (at : Cursor) (x : Result Step (Which × Refusal)) → compare_step s₁ b₁ s₂ b₂ at ≡ x → after_steps s₁ b₁ s₂ b₂ (suc n) at ≡ after_steps s₁ b₁ s₂ b₂ n (behind_step at x)
  unfolding after_steps
  after_by n at x e = ap (λ (y : Result Step (Which × Refusal)). after_steps s₁ b₁ s₂ b₂ n (behind_step at y)) e

  -- ---- a run of steps

  module _ (last : Result Step (Which × Refusal)) (f : Final last) where
    run_take : (n : ℕ) (at : Cursor) (ds : List Difference) → Run s₁ b₁ s₂ b₂ at ds last → told_from s₁ b₁ s₂ b₂ n at ≡ take n ds
    unfolding told_from
    run_take zero at ds r = refl
    run_take (suc n) at [] r =
        steps_by n at last (step_is at last r) ∙ rw (f.0, f.1 at) (run_take n at [] r) ∙ take-nil n
    run_take (suc n) at (d ∷ ds) (a, g, r) =
        steps_by n at (step_of d a) (step_is at (step_of d a) g) ∙ rw (told_of_lem d a, cursor_of at d a) (ap (λ (l : List Difference). d ∷ l) (run_take n a ds r))

    -- behind the last difference the step is the last, and so it stays
    run_last : (at : Cursor) (ds : List Difference) → Run s₁ b₁ s₂ b₂ at ds last → Run s₁ b₁ s₂ b₂ (after_steps s₁ b₁ s₂ b₂ (length ds) at) [] last
    unfolding after_steps
    run_last at [] r = r
    run_last at (d ∷ ds) (a, g, r) =
        let q = after_by (length ds) at (step_of d a) (step_is at (step_of d a) g) ∙ ap (after_steps s₁ b₁ s₂ b₂ (length ds)) (cursor_of at d a) in
        subst (λ (x : Cursor). Run s₁ b₁ s₂ b₂ x [] last) (sym q) (run_last a ds r)

    run_stays : (n : ℕ) (at : Cursor) → Run s₁ b₁ s₂ b₂ at [] last → after_steps s₁ b₁ s₂ b₂ n at ≡ at
    unfolding after_steps
    run_stays zero at r = refl
    run_stays (suc n) at r = after_by n at last (step_is at last r) ∙ ap (after_steps s₁ b₁ s₂ b₂ n) (f.1 at) ∙ run_stays n at r

    -- each step tells a difference, or is the last
    run_each : (n : ℕ) (at : Cursor) (ds : List Difference) → Run s₁ b₁ s₂ b₂ at ds last
        → ((d : Difference) × (a : Cursor) × (compare_step s₁ b₁ s₂ b₂ (after_steps s₁ b₁ s₂ b₂ n at) ≡ step_of d a))
        ⊎ (compare_step s₁ b₁ s₂ b₂ (after_steps s₁ b₁ s₂ b₂ n at) ≡ last)
    unfolding after_steps
    run_each n at [] r = inr (ap (compare_step s₁ b₁ s₂ b₂) (run_stays n at r) ∙ step_is at last r)
    run_each zero at (d ∷ ds) (a, g, r) = inl (d, a, step_is at (step_of d a) g)
    run_each (suc n) at (d ∷ ds) (a, g, r) =
        let q = after_by n at (step_of d a) (step_is at (step_of d a) g) ∙ ap (after_steps s₁ b₁ s₂ b₂ n) (cursor_of at d a) in
        let k = run_each n a ds r in
        ⊎_elim (λ m. inl (m.0, m.1, ap (compare_step s₁ b₁ s₂ b₂) q ∙ m.2)) (λ m. inr (ap (compare_step s₁ b₁ s₂ b₂) q ∙ m)) k

  -- ---- the whole comparison

  abbrev ending_step : Result Step (Which × Refusal)
  ending_step = last_step (ending (course s₁ b₁ s₂ b₂)) (course_totals s₁ b₁ s₂ b₂)

  whole_run : Run s₁ b₁ s₂ b₂ (compare_start b₁ b₂) (course_told s₁ b₁ s₂ b₂) ending_step
  unfolding course
  whole_run =
      merged_follows s₁ b₁ s₂ b₂ (reading_of s₁ b₁).whole (reading_of s₂ b₂).whole (reading_of s₁ b₁).entries (reading_of s₂ b₂).entries
      (walk_start b₁) (walk_start b₂) no_totals (walk_exact s₁ b₁) (walk_exact s₂ b₂)

  pub comparison_exact : ComparisonExact s₁ b₁ s₂ b₂ (compare_start b₁ b₂)
  unfolding end_cursor
  comparison_exact =
      let f = last_final (ending (course s₁ b₁ s₂ b₂)) (course_totals s₁ b₁ s₂ b₂) in
      let z = run_last ending_step f (compare_start b₁ b₂) (course_told s₁ b₁ s₂ b₂) whole_run in
      record {
        each = λ n. run_take ending_step f n (compare_start b₁ b₂) (course_told s₁ b₁ s₂ b₂) whole_run;
        ends = λ n. ap (compare_step s₁ b₁ s₂ b₂) (run_stays ending_step f n (end_cursor s₁ b₁ s₂ b₂ (compare_start b₁ b₂)) z) ∙ step_is (end_cursor s₁ b₁ s₂ b₂ (compare_start b₁ b₂)) ending_step z;
      }

  -- where the course ends well no step is refused
  pub none_refused : ending (course s₁ b₁ s₂ b₂) ≡ done → (n : ℕ) (k : Which) (r : Refusal) → compare_step s₁ b₁ s₂ b₂ (after_steps s₁ b₁ s₂ b₂ n (compare_start b₁ b₂)) ≢ Err (k, r)
  none_refused e n k r h =
      let f = last_final (ending (course s₁ b₁ s₂ b₂)) (course_totals s₁ b₁ s₂ b₂) in
      let q : ending_step ≡ Ok (End (course_totals s₁ b₁ s₂ b₂)) = ap (λ (x : Ending). last_step x (course_totals s₁ b₁ s₂ b₂)) e in
      ⊎_elim (λ m. tells_not m.0 m.1 k r (sym m.2 ∙ h)) (λ m. ends_not (course_totals s₁ b₁ s₂ b₂) k r (sym q ∙ sym m ∙ h))
      (run_each ending_step f n (compare_start b₁ b₂) (course_told s₁ b₁ s₂ b₂) whole_run)
