-- Passing over a name that is the same in both books, inside their chunks, leaves the step as it is.
use Rattle.fields.proofs.Base.{◌≡◌, refl, sym, ◌∙◌, true, List, ℕ, ◌<◌, arith, Result}
use Rattle.entries.specs.Entry.{item_at}
use Rattle.entries.specs.declared.Place.{Place}
use Rattle.header.specs.declared.Record.{Record}
use Rattle.book.specs.Book.{limits_of, chunk_bytes, record_fits}
use Rattle.walk.specs.Walk.{after_of, name_here, weight}
use Rattle.walk.specs.declared.Walk.{Walk}
use Rattle.walk.proofs.Entering.{peek_here}
use Rattle.turn.specs.Turn.{one_same, both_at, in_both, paired, beside_first, turned}
use Rattle.turn.specs.declared.Totals.{Totals}
use Rattle.turn.specs.declared.Cursor.{Cursor}
use Rattle.turn.specs.declared.Step.{Step}
use Rattle.turn.specs.declared.Turn.TheVariants.{Tell, On}
use Rattle.turn.proofs.Falling.{turn_falls}
use Rattle.compare.specs.Compare.{compare_step}
use Rattle.compare.specs.Passing.{SameEntries, Passed}
use Rattle.compare.proofs.Stepping.{step_tell, step_on}
use Rattle.compare.proofs.Enough.{enough}
use Rattle.refusals.specs.declared.Refusal.{Refusal}
use Rattle.turn.specs.declared.Which.{Which}

module _ (s₁ : List ℕ) (b₁ : Record) (s₂ : List ℕ) (b₂ : Record) where
  -- ---- a step goes on behind a name that has nothing to tell

  pub step_past : (at a : Cursor) → turned s₁ b₁ s₂ b₂ at ≡ On a → compare_step s₁ b₁ s₂ b₂ at ≡ compare_step s₁ b₁ s₂ b₂ a
  unfolding compare_step
  step_past at a h =
      step_on s₁ b₁ s₂ b₂ (weight at.first) at a h ∙ enough s₁ b₁ s₂ b₂ (weight at.first) a (turn_falls s₁ b₁ s₂ b₂ at a h)

  pub step_told : (at : Cursor) (x : Result Step (Which × Refusal)) → turned s₁ b₁ s₂ b₂ at ≡ Tell x → compare_step s₁ b₁ s₂ b₂ at ≡ x
  unfolding compare_step
  step_told at x h = step_tell s₁ b₁ s₂ b₂ (weight at.first) at x h

  -- ---- a name that is the same, inside both chunks

  pub same_passed : record_fits s₁ b₁ ≡ true → record_fits s₂ b₂ ≡ true → (w₁ w₂ : Walk) (t : Totals) (x y : Place) → 0 < w₁.left → 0 < w₂.left
      → SameEntries (limits_of s₁ b₁).content (chunk_bytes s₁ b₁ w₁.chunk) w₁.at (limits_of s₂ b₂).content (chunk_bytes s₂ b₂ w₂.chunk) w₂.at x y
      → turned s₁ b₁ s₂ b₂ (both_at w₁ w₂ t) ≡ On (both_at (after_of w₁ x) (after_of w₂ y) (one_same t))
  unfolding turned beside_first paired in_both name_here item_at
  same_passed f₁ f₂ w₁ w₂ t x y l₁ l₂ a =
      rw (peek_here s₁ b₁ w₁ f₁ x l₁ a.first, peek_here s₂ b₂ w₂ f₂ y l₂ a.second, a.names, a.numbers) refl

  -- ---- passing

  pub passed_none : (at : Cursor) → Passed s₁ b₁ s₂ b₂ at at
  passed_none at = record { step = refl; light = omega arith }

  pub passed_more : (from at a : Cursor) → Passed s₁ b₁ s₂ b₂ from at → turned s₁ b₁ s₂ b₂ at ≡ On a → Passed s₁ b₁ s₂ b₂ from a
  passed_more from at a p h =
      let f = turn_falls s₁ b₁ s₂ b₂ at a h in
      let l = p.light in
      record { step = sym (step_past at a h) ∙ p.step; light = omega arith }
