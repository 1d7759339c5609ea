-- Where a comparison goes on, it has fewer entries to come to than before; so the program ends.
use mathlib.Core.Path.{◌≡◌, subst}
use Prim.Native.Nat.{ℕ, ◌<◌}
use Rattle.std.specs.Prelude.{Some, Result, Ok, Err}
use Rattle.std.proofs.lemmas.Option.{none-some, same_Some}
use Rattle.turn.specs.declared.Cursor.{Cursor}
use Rattle.turn.specs.declared.Step.{Step}
use Rattle.turn.specs.declared.Step.TheVariants.{First, Second, Changed, End}
use Rattle.turn.specs.Turn.{load, Lighter}
use Rattle.diff.specs.Steps.{next_after}
use Rattle.refusals.specs.declared.Refusal.{Refusal}
use Rattle.turn.specs.declared.Which.{Which}

same_cursor : (n : ℕ) (a b : Cursor) → Some a ≡ Some b → load a < n → load b < n
same_cursor n a b q l = subst (λ (x : Cursor). load x < n) (same_Some a b q) l

pub next_lighter : (n : ℕ) (x : Result Step (Which × Refusal)) (a : Cursor) → next_after x ≡ Some a → Lighter n x → load a < n
next_lighter n (Ok (First x b)) a q l = same_cursor n b a q l
next_lighter n (Ok (Second y b)) a q l = same_cursor n b a q l
next_lighter n (Ok (Changed x y b)) a q l = same_cursor n b a q l
next_lighter n (Ok (End t)) a q l = absurd (none-some a q)
next_lighter n (Err (k, r)) a q l = absurd (none-some a q)
