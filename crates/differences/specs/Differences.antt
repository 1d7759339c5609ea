-- Comparison cursors, differences and the answers of a comparison as numbers for C.
use Rattle.std.specs.Prelude.{ℕ, ◌+◌, ◌*◌, ◌^◌, List, [], ◌∷◌, ◌++◌, get_or, Result, Ok, Err}
use Rattle.page.specs.Page.{five_of}
use Rattle.walk.specs.declared.Walk.{Walk}
use Rattle.turn.specs.declared.Totals.{Totals}
use Rattle.turn.specs.declared.Cursor.{Cursor}
use Rattle.turn.specs.declared.Shown.{Shown}
use Rattle.turn.specs.declared.Step.{Step}
use Rattle.turn.specs.declared.Step.TheVariants.{First, Second, Changed, End}
use Rattle.numbers.specs.Numbers.{refusal_code}
use Rattle.refusals.specs.declared.Refusal.{Refusal}
use Rattle.turn.specs.Turn.{which_number}
use Rattle.turn.specs.declared.Which.{Which}

-- ---- a cursor as fourteen numbers: two walks in the order of their fields, then the totals

abbrev pub walks_in : List ℕ → Cursor
walks_in n =
    record {
      first = record { chunk = get_or n 0 0; at = get_or n 1 0; left = get_or n 2 0; next = get_or n 3 0; more = get_or n 4 0 };
      second = record { chunk = get_or n 5 0; at = get_or n 6 0; left = get_or n 7 0; next = get_or n 8 0; more = get_or n 9 0 };
      totals = record { first = get_or n 10 0; second = get_or n 11 0; same = get_or n 12 0; changed = get_or n 13 0 };
    }

abbrev pub total_numbers : Totals → List ℕ
total_numbers t = t.first ∷ t.second ∷ t.same ∷ t.changed ∷ []

abbrev pub walk_numbers : Walk → List ℕ
walk_numbers w = w.chunk ∷ w.at ∷ w.left ∷ w.next ∷ w.more ∷ []

abbrev pub walks_numbers : Cursor → List ℕ
walks_numbers at = walk_numbers at.first ++ (walk_numbers at.second ++ total_numbers at.totals)

-- ---- a difference as fifteen numbers: 1, 2 or 3, then seven of the first book's entry and seven of the second's, 0 for one that is not there

abbrev pub seven_of : Shown → List ℕ
seven_of x = five_of x.report ++ (x.own.place ∷ x.own.length ∷ [])

abbrev pub nothing : Shown
nothing = record { report = record { place = 0; length = 0; section = 0; offset = 0; size = 0 }; own = record { place = 0; length = 0 } }

abbrev pub fifteen_of : ℕ → Shown → Shown → List ℕ
fifteen_of kind x y = kind ∷ (seven_of x ++ seven_of y)

-- ---- the answer of a step: 0 and a difference with the cursor moved on, 255 and the totals, or the refusal plus 2^40 times its book's number

abbrev pub compare_code : Result Step (Which × Refusal) → ℕ
compare_code (Ok (First x at)) = 0
compare_code (Ok (Second y at)) = 0
compare_code (Ok (Changed x y at)) = 0
compare_code (Ok (End t)) = 255
compare_code (Err (k, r)) = refusal_code r + 2 ^ 40 * which_number k

abbrev pub compare_cursor : Result Step (Which × Refusal) → List ℕ → List ℕ
compare_cursor (Ok (First x at)) was = walks_numbers at
compare_cursor (Ok (Second y at)) was = walks_numbers at
compare_cursor (Ok (Changed x y at)) was = walks_numbers at
compare_cursor (Ok (End t)) was = was
compare_cursor (Err (k, r)) was = was

abbrev pub compare_numbers : Result Step (Which × Refusal) → List ℕ → List ℕ
compare_numbers (Ok (First x at)) was = fifteen_of 1 x nothing
compare_numbers (Ok (Second y at)) was = fifteen_of 2 nothing y
compare_numbers (Ok (Changed x y at)) was = fifteen_of 3 x y
compare_numbers (Ok (End t)) was = was
compare_numbers (Err (k, r)) was = was

abbrev pub compare_totals : Result Step (Which × Refusal) → List ℕ → List ℕ
compare_totals (Ok (First x at)) was = was
compare_totals (Ok (Second y at)) was = was
compare_totals (Ok (Changed x y at)) was = was
compare_totals (Ok (End t)) was = total_numbers t
compare_totals (Err (k, r)) was = was
