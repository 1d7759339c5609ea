-- The cursor over two books, and what one name gives. For any bytes, records and cursors.
use Rattle.std.specs.Prelude.{ℕ, ◌+◌, ◌%◌, ◌^◌, ◌<◌, Bool, cond, ◌&&◌, List, ◌==◌, Option, Some, None, Result, Ok, Err}
use Rattle.refusals.specs.Refusals.{refusal_of}
use Rattle.names.specs.Names.{compared}
use Rattle.entries.specs.declared.Place.{Place}
use Rattle.seek.specs.Seek.{by_order}
use Rattle.header.specs.declared.Record.{Record}
use Rattle.report.specs.Report.{report_at, own_at}
use Rattle.walk.specs.Walk.{after_of, coming_at, name_here, weight}
use Rattle.walk.specs.declared.Walk.{Walk}
use Rattle.turn.specs.declared.Totals.{Totals}
use Rattle.turn.specs.declared.Cursor.{Cursor}
use Rattle.turn.specs.declared.Shown.{Shown}
use Rattle.turn.specs.declared.Step.{Step}
use Rattle.turn.specs.declared.Step.TheVariants.{First, Second, Changed, End}
use Rattle.turn.specs.declared.Turn.{Turn}
use Rattle.turn.specs.declared.Turn.TheVariants.{Tell, On}
use Rattle.refusals.specs.declared.Rule.TheVariants.{BadRecord}
use Rattle.refusals.specs.declared.Refusal.{Refusal}
use Rattle.turn.specs.declared.Which.{Which}

-- ---- totals

-- one more, of 64 bits
abbrev pub one_more : ℕ → ℕ
one_more n = (n + 1) % 2 ^ 64

abbrev pub one_first : Totals → Totals
one_first t = record { first = one_more t.first; second = t.second; same = t.same; changed = t.changed }

abbrev pub one_second : Totals → Totals
one_second t = record { first = t.first; second = one_more t.second; same = t.same; changed = t.changed }

abbrev pub one_same : Totals → Totals
one_same t = record { first = t.first; second = t.second; same = one_more t.same; changed = t.changed }

abbrev pub one_changed : Totals → Totals
one_changed t = record { first = t.first; second = t.second; same = t.same; changed = one_more t.changed }

-- ---- a name

-- the number of a book
abbrev pub which_number : Which → ℕ
which_number Which.First = 1
which_number Which.Second = 2
which_number (Which.Other n) = n

-- 17, beside the book that met it
abbrev pub refused_by : Which → Result Step (Which × Refusal)
refused_by k = Err (k, refusal_of BadRecord)

abbrev pub both_at : Walk → Walk → Totals → Cursor
both_at w₁ w₂ t = record { first = w₁; second = w₂; totals = t }

-- an entry in the chunk of a walk, as it is told
abbrev pub shown_at : List ℕ → Record → Walk → Place → Shown
shown_at s book w e = record { report = report_at s book w.chunk e; own = own_at s book w.chunk e }

-- section, offset and length are the same
abbrev pub same_at : Place → Place → Bool
same_at x y = x.section == y.section && (x.offset == y.offset && x.size == y.size)

abbrev pub on_coming : {A : Type 0} → Result (Option (Place × Walk)) Refusal → A → A → (Place → Walk → A) → A
on_coming (Err n) barred end f = barred
on_coming (Ok None) barred end f = end
on_coming (Ok (Some (e, w))) barred end f = f e w

-- a name that is only in one book: told, and counted
abbrev pub turn_only_first : List ℕ → Record → Place → Walk → Walk → Totals → Turn
turn_only_first s book x v₁ w₂ t = Tell (Ok (First (shown_at s book v₁ x) (both_at (after_of v₁ x) w₂ (one_first t))))

abbrev pub turn_only_second : List ℕ → Record → Walk → Place → Walk → Totals → Turn
turn_only_second s book w₁ y v₂ t = Tell (Ok (Second (shown_at s book v₂ y) (both_at w₁ (after_of v₂ y) (one_second t))))

-- the first book is at its end
unfoldable pub behind_first : List ℕ → Record → Walk → Walk → Totals → Turn
behind_first s₂ b₂ w₁ w₂ t = on_coming (coming_at s₂ b₂ w₂) (Tell (refused_by Which.Second)) (Tell (Ok (End t))) (λ y v₂. turn_only_second s₂ b₂ w₁ y v₂ t)

module _ (s₁ : List ℕ) (b₁ : Record) (s₂ : List ℕ) (b₂ : Record) where
  -- a name that is in both: told where its numbers are others
  unfoldable pub in_both : Place → Walk → Place → Walk → Totals → Turn
  in_both x v₁ y v₂ t =
      cond (same_at x y)
      (On (both_at (after_of v₁ x) (after_of v₂ y) (one_same t)))
      (Tell (Ok (Changed (shown_at s₁ b₁ v₁ x) (shown_at s₂ b₂ v₂ y) (both_at (after_of v₁ x) (after_of v₂ y) (one_changed t)))))

  -- both books have an entry, x and y: the one whose name comes first is taken, or both. What is not taken stays inside its chunk
  unfoldable pub paired : Place → Walk → Place → Walk → Totals → Turn
  paired x v₁ y v₂ t =
      by_order (compared (name_here s₁ b₁ v₁ x) (name_here s₂ b₂ v₂ y))
      (turn_only_first s₁ b₁ x v₁ v₂ t) (in_both x v₁ y v₂ t) (turn_only_second s₂ b₂ v₁ y v₂ t)

  -- the first book has an entry, x
  unfoldable pub beside_first : Place → Walk → Walk → Totals → Turn
  beside_first x v₁ w₂ t = on_coming (coming_at s₂ b₂ w₂) (Tell (refused_by Which.Second)) (turn_only_first s₁ b₁ x v₁ w₂ t) (λ y v₂. paired x v₁ y v₂ t)

  -- one name: the first book is asked first
  unfoldable pub turned : Cursor → Turn
  turned at =
      on_coming (coming_at s₁ b₁ at.first) (Tell (refused_by Which.First))
      (behind_first s₂ b₂ at.first at.second at.totals)
      (λ x v₁. beside_first x v₁ at.second at.totals)

-- ---- what is still to come

-- how many entries the walks of a cursor can still come to, at most
abbrev pub load : Cursor → ℕ
load at = weight at.first + weight at.second

-- a step that takes entries: it hands back a cursor with less to come than n, or none
abbrev pub Lighter : ℕ → Result Step (Which × Refusal) → Type 0
Lighter n (Ok (First x a)) = load a < n
Lighter n (Ok (Second y a)) = load a < n
Lighter n (Ok (Changed x y a)) = load a < n
Lighter n (Ok (End t)) = Unit {0}
Lighter n (Err (k, r)) = Unit {0}
