-- What the steps of a comparison tell, over any two files and records; and what it is worth on two books that open.
use Rattle.std.specs.Prelude.{ℕ, zero, suc, ◌+◌, ◌≡◌, ◌↔◌, ◌≢◌, true, false, List, [], ◌∷◌, ◌++◌, map, length, take, Result, Ok, Err}
use Rattle.refusals.specs.declared.Refusal.{Refusal}
use Rattle.names.specs.Names.{below, matches}
use Rattle.header.specs.declared.Record.{Record}
use Rattle.tree.specs.Lists.{In, Each}
use Rattle.tree.specs.Chain.{chain, chain_entries}
use Rattle.tree.specs.Reading.{Held, Reading, held_of}
use Rattle.book.specs.Book.{directory_of, shape_of}
use Rattle.report.specs.Report.{report_of, own_of}
use Rattle.walk.specs.Exact.{reading_of}
use Rattle.turn.specs.Turn.{refused_by}
use Rattle.turn.specs.declared.Totals.{Totals}
use Rattle.turn.specs.declared.Cursor.{Cursor}
use Rattle.turn.specs.declared.Shown.{Shown}
use Rattle.turn.specs.declared.Step.{Step}
use Rattle.turn.specs.declared.Step.TheVariants.{First, Second, Changed, End}
use Rattle.compare.specs.Course.{Pair, left, right, both, Ending, done, first_stops, second_stops, held_name, course, pairs, ending, pair_name, firsts, seconds, is_same, differences, totals_from, no_totals}
use Rattle.compare.specs.Compare.{compare_step}
use Rattle.turn.specs.declared.Which.{Which}

-- ---- differences as steps tell them

pub data Difference : Type 0 where
  only_first : Shown → Difference
  only_second : Shown → Difference
  changed : Shown → Shown → Difference

abbrev pub shown_of : Record → Held → Shown
shown_of book h = record { report = report_of book h.chunk h.entry; own = own_of book h.chunk h.entry }

-- a pair that is a difference, told
abbrev pub difference_of : Record → Record → Pair → Difference
difference_of b₁ b₂ (left x) = only_first (shown_of b₁ x)
difference_of b₁ b₂ (right y) = only_second (shown_of b₂ y)
difference_of b₁ b₂ (both x y) = changed (shown_of b₁ x) (shown_of b₂ y)

-- ---- steps, each at the cursor that the one before handed back

-- what a step tells: a difference, or none
abbrev pub told_in : Result Step (Which × Refusal) → List Difference
told_in (Ok (First x at)) = only_first x ∷ []
told_in (Ok (Second y at)) = only_second y ∷ []
told_in (Ok (Changed x y at)) = changed x y ∷ []
told_in (Ok (End t)) = []
told_in (Err (k, r)) = []

-- the cursor that a step at `at` hands back; the end and a refusal hand none back, and so leave the one there was
abbrev pub behind_step : Cursor → Result Step (Which × Refusal) → Cursor
behind_step at (Ok (First x behind)) = behind
behind_step at (Ok (Second y behind)) = behind
behind_step at (Ok (Changed x y behind)) = behind
behind_step at (Ok (End t)) = at
behind_step at (Err (k, r)) = at

module _ (s₁ : List ℕ) (b₁ : Record) (s₂ : List ℕ) (b₂ : Record) where
  -- what n steps from a cursor tell
  unfoldable pub told_from : ℕ → Cursor → List Difference
  told_from zero at = []
  told_from (suc n) at = told_in (compare_step s₁ b₁ s₂ b₂ at) ++ told_from n (behind_step at (compare_step s₁ b₁ s₂ b₂ at))

  -- the cursor after n steps
  unfoldable pub after_steps : ℕ → Cursor → Cursor
  after_steps zero at = at
  after_steps (suc n) at = after_steps n (behind_step at (compare_step s₁ b₁ s₂ b₂ at))

  -- ---- any two files and records

  -- the names of the comparison, its differences as they are told, its totals
  abbrev pub course_pairs : List Pair
  course_pairs = pairs (course s₁ b₁ s₂ b₂)

  abbrev pub course_told : List Difference
  course_told = map (difference_of b₁ b₂) (differences course_pairs)

  abbrev pub course_totals : Totals
  course_totals = totals_from no_totals course_pairs

  -- the cursor behind as many steps as there are differences
  unfoldable pub end_cursor : Cursor → Cursor
  end_cursor from = after_steps (length course_told) from

-- the answer behind the last difference: the totals, or the book that could not be read further
abbrev pub last_step : Ending → Totals → Result Step (Which × Refusal)
last_step done t = Ok (End t)
last_step first_stops t = refused_by Which.First
last_step second_stops t = refused_by Which.Second

-- the steps from a cursor, which is the start, tell exactly the differences of the course, one a step, in order; behind them each step says how it ends
pub record ComparisonExact (s₁ : List ℕ) (b₁ : Record) (s₂ : List ℕ) (b₂ : Record) (from : Cursor) : Type 0 where
  pub each : (n : ℕ) → told_from s₁ b₁ s₂ b₂ n from ≡ take n (course_told s₁ b₁ s₂ b₂)
  pub ends : (n : ℕ) → compare_step s₁ b₁ s₂ b₂ (after_steps s₁ b₁ s₂ b₂ n (end_cursor s₁ b₁ s₂ b₂ from)) ≡ last_step (ending (course s₁ b₁ s₂ b₂)) (course_totals s₁ b₁ s₂ b₂)

-- ---- two readings, each to its end and with names that rise

-- names of which the one comes before the other
abbrev pub Ahead : Held → Held → Type 0
Ahead h k = below (held_name h) (held_name k) ≡ true

-- what the pairs of two lists of entries are
pub record PairsRight (xs ys : List Held) (ps : List Pair) : Type 0 where
  -- every entry of each comes, once, in its order
  pub first_all : firsts ps ≡ xs
  pub second_all : seconds ps ≡ ys
  -- in name order, so each name once
  pub rises : Each (λ p q. below (pair_name p) (pair_name q) ≡ true) ps
  -- only in one where the other lacks the name, in both where both have it
  pub only_first_iff : (h : Held) → In (left h) ps ↔ (In h xs × ((k : Held) → In k ys → matches (held_name h) (held_name k) ≡ false))
  pub only_second_iff : (k : Held) → In (right k) ps ↔ (In k ys × ((h : Held) → In h xs → matches (held_name h) (held_name k) ≡ false))
  pub both_iff : (h k : Held) → In (both h k) ps ↔ (In h xs × In k ys × (matches (held_name h) (held_name k) ≡ true))
  -- a difference is a name in one alone, or in both with other numbers
  pub difference_iff : (p : Pair) → In p (differences ps) ↔ (In p ps × (is_same p ≡ false))

-- ---- two books that open with these records

-- every entry of the chain, and its end
abbrev pub whole_reading : List ℕ → Record → Reading
whole_reading s book = record { entries = held_of (directory_of s book) (chain (directory_of s book) (shape_of book)); whole = true }

pub record BooksCompared (s₁ : List ℕ) (b₁ : Record) (s₂ : List ℕ) (b₂ : Record) (from : Cursor) : Type 0 where
  pub exact : ComparisonExact s₁ b₁ s₂ b₂ from
  -- what is read of each is every entry of its chain, to the end
  pub first_read : reading_of s₁ b₁ ≡ whole_reading s₁ b₁
  pub second_read : reading_of s₂ b₂ ≡ whole_reading s₂ b₂
  -- it ends with the totals, and no step is refused
  pub ends : ending (course s₁ b₁ s₂ b₂) ≡ done
  pub never_refused : (n : ℕ) (k : Which) (r : Refusal) → compare_step s₁ b₁ s₂ b₂ (after_steps s₁ b₁ s₂ b₂ n from) ≢ Err (k, r)
  pub pairs_right : PairsRight (reading_of s₁ b₁).entries (reading_of s₂ b₂).entries (course_pairs s₁ b₁ s₂ b₂)
  -- the totals add up to the entries of each book
  pub first_count : (course_totals s₁ b₁ s₂ b₂).first + (course_totals s₁ b₁ s₂ b₂).same + (course_totals s₁ b₁ s₂ b₂).changed
      ≡ length (chain_entries (directory_of s₁ b₁) (shape_of b₁))
  pub second_count : (course_totals s₁ b₁ s₂ b₂).second + (course_totals s₁ b₁ s₂ b₂).same + (course_totals s₁ b₁ s₂ b₂).changed
      ≡ length (chain_entries (directory_of s₂ b₂) (shape_of b₂))
