-- Where the program goes on behind a step of the comparison: at the cursor of a difference, nowhere behind the end or a refusal.
use Rattle.turn.specs.declared.Step.{Step}
use Rattle.turn.specs.declared.Step.TheVariants.{First, Second, Changed, End}
use Rattle.std.specs.Prelude.{Option, Some, None, Result, Ok, Err}
use Rattle.refusals.specs.declared.Refusal.{Refusal}
use Rattle.turn.specs.declared.Which.{Which}
use Rattle.turn.specs.declared.Cursor.{Cursor}

abbrev pub next_after : Result Step (Which × Refusal) → Option Cursor
next_after (Ok (First x a)) = Some a
next_after (Ok (Second y a)) = Some a
next_after (Ok (Changed x y a)) = Some a
next_after (Ok (End t)) = None
next_after (Err (k, r)) = None
