-- A means of the comparison: entries that are the same in both books, read beside each other, and what it is to pass over them. No contract of a public
-- function speaks of it.
use Rattle.std.specs.Prelude.{ℕ, ◌≤◌, ◌≡◌, true, List, Option, Some, None}
use Rattle.fields.specs.Part.{part_of}
use Rattle.names.specs.Names.{compared}
use Rattle.std.specs.declared.cmp.Ordering.TheVariants.{Equal}
use Rattle.entries.specs.Entry.{listing_at}
use Rattle.entries.specs.declared.Place.{Place}
use Rattle.header.specs.declared.Record.{Record}
use Rattle.walk.specs.Walk.{weight}
use Rattle.turn.specs.Turn.{same_at}
use Rattle.turn.specs.declared.Cursor.{Cursor}
use Rattle.compare.specs.Compare.{compare_step}

module _ (content₁ : ℕ) (c₁ : List ℕ) (at₁ content₂ : ℕ) (c₂ : List ℕ) (at₂ : ℕ) where
  -- x and y are the listing entries at two places, their names are equal, and so are their numbers
  pub record SameEntries (x y : Place) : Type 0 where
    pub first : listing_at content₁ c₁ at₁ ≡ Some x
    pub second : listing_at content₂ c₂ at₂ ≡ Some y
    pub numbers : same_at x y ≡ true
    pub names : compared (part_of c₁ x.start x.len) (part_of c₂ y.start y.len) ≡ Equal

  -- what an answer tells
  abbrev pub SameTold : Option (Place × Place) → Type 0
  SameTold (Some (x, y)) = SameEntries x y
  SameTold None = Unit {0}

-- a step from `from` is a step from `at`, and the first book has no more entries to come there
pub record Passed (s₁ : List ℕ) (b₁ : Record) (s₂ : List ℕ) (b₂ : Record) (from at : Cursor) : Type 0 where
  pub step : compare_step s₁ b₁ s₂ b₂ at ≡ compare_step s₁ b₁ s₂ b₂ from
  pub light : weight at.first ≤ weight from.first
