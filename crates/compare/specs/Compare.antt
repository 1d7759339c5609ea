-- A step of the cursor over two books, which goes on to the next difference. For any bytes, records and cursors.
use Rattle.std.specs.Prelude.{ℕ, zero, suc, List, Result, Ok}
use Rattle.header.specs.declared.Record.{Record}
use Rattle.walk.specs.Walk.{weight, walk_start}
use Rattle.turn.specs.Turn.{both_at, turned}
use Rattle.turn.specs.declared.Cursor.{Cursor}
use Rattle.turn.specs.declared.Step.{Step}
use Rattle.turn.specs.declared.Step.TheVariants.{End}
use Rattle.turn.specs.declared.Turn.{Turn}
use Rattle.turn.specs.declared.Turn.TheVariants.{Tell, On}
use Rattle.compare.specs.Course.{no_totals}
use Rattle.refusals.specs.declared.Refusal.{Refusal}
use Rattle.turn.specs.declared.Which.{Which}

abbrev pub compare_start : Record → Record → Cursor
compare_start b₁ b₂ = both_at (walk_start b₁) (walk_start b₂) no_totals

abbrev pub on_turn : (Cursor → Result Step (Which × Refusal)) → Turn → Result Step (Which × Refusal)
on_turn f (Tell x) = x
on_turn f (On at) = f at

module _ (s₁ : List ℕ) (b₁ : Record) (s₂ : List ℕ) (b₂ : Record) where
  -- over n names at most, up to one that has something to tell
  unfoldable pub step_from : ℕ → Cursor → Result Step (Which × Refusal)
  step_from zero at = Ok (End at.totals)
  step_from (suc n) at = on_turn (λ behind. step_from n behind) (turned s₁ b₁ s₂ b₂ at)

  -- a step: over more names than the first book can still have
  unfoldable pub compare_step : Cursor → Result Step (Which × Refusal)
  compare_step at = step_from (suc (weight at.first)) at
