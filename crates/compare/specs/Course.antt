-- What a comparison is: two readings side by side, in the order of names.
use Rattle.std.specs.Prelude.{ℕ, Bool, false, cond, ◌&&◌, List, [], ◌∷◌, eqb}
use Rattle.names.specs.Names.{compared}
use Rattle.entries.specs.Entry.{Entry}
use Rattle.seek.specs.Seek.{by_order}
use Rattle.header.specs.declared.Record.{Record}
use Rattle.tree.specs.Reading.{Held, Reading}
use Rattle.walk.specs.Exact.{reading_of}
use Rattle.turn.specs.Turn.{one_first, one_second, one_same, one_changed}
use Rattle.turn.specs.declared.Totals.{Totals}

-- a name that is only in the first, only in the second, or in both
pub data Pair : Type 0 where
  left : Held → Pair
  right : Held → Pair
  both : Held → Held → Pair

-- both were read to their ends; or the first, or the second, could not be read further
pub data Ending : Type 0 where
  done : Ending
  first_stops : Ending
  second_stops : Ending

pub data Course : Type 0 where
  over : Ending → Course
  next : Pair → Course → Course

abbrev pub held_name : Held → List ℕ
held_name h = h.entry.name

-- ---- the course

-- w₁ and w₂: whether the chain's end stands behind the first list, and behind the second
module _ (w₁ w₂ : Bool) where
  -- the first is at its end
  unfoldable pub second_alone : List Held → Course
  second_alone [] = cond w₂ (over done) (over second_stops)
  second_alone (y ∷ ys) = next (right y) (second_alone ys)

  -- x is next in the first, and f goes on behind it
  unfoldable pub against : Held → (List Held → Course) → List Held → Course
  against x f [] = cond w₂ (next (left x) (f [])) (over second_stops)
  against x f (y ∷ ys) =
      by_order (compared (held_name x) (held_name y)) (next (left x) (f (y ∷ ys))) (next (both x y) (f ys)) (next (right y) (against x f ys))

  unfoldable pub merged : List Held → List Held → Course
  merged [] ys = cond w₁ (second_alone ys) (over first_stops)
  merged (x ∷ xs) ys = against x (λ zs. merged xs zs) ys

-- of two readings, and of two books by their records
abbrev pub merged_of : Reading → Reading → Course
merged_of r₁ r₂ = merged r₁.whole r₂.whole r₁.entries r₂.entries

unfoldable pub course : List ℕ → Record → List ℕ → Record → Course
course s₁ b₁ s₂ b₂ = merged_of (reading_of s₁ b₁) (reading_of s₂ b₂)

-- ---- what a course has

unfoldable pub pairs : Course → List Pair
pairs (over e) = []
pairs (next p c) = p ∷ pairs c

unfoldable pub ending : Course → Ending
ending (over e) = e
ending (next p c) = ending c

-- the name of a pair; of names that compare equal the first's
abbrev pub pair_name : Pair → List ℕ
pair_name (left x) = held_name x
pair_name (right y) = held_name y
pair_name (both x y) = held_name x

-- the entries of each book that came
unfoldable pub firsts : List Pair → List Held
firsts [] = []
firsts (left x ∷ ps) = x ∷ firsts ps
firsts (right y ∷ ps) = firsts ps
firsts (both x y ∷ ps) = x ∷ firsts ps

unfoldable pub seconds : List Pair → List Held
seconds [] = []
seconds (left x ∷ ps) = seconds ps
seconds (right y ∷ ps) = y ∷ seconds ps
seconds (both x y ∷ ps) = y ∷ seconds ps

-- ---- differences and totals

-- section, offset and length are the same; the name is not asked
abbrev pub same_numbers : Entry → Entry → Bool
same_numbers x y = eqb x.section y.section && (eqb x.offset y.offset && eqb x.size y.size)

-- a name that is in both with the same numbers
abbrev pub is_same : Pair → Bool
is_same (left x) = false
is_same (right y) = false
is_same (both x y) = same_numbers x.entry y.entry

-- the differences: all pairs but those that are the same
unfoldable pub differences : List Pair → List Pair
differences [] = []
differences (p ∷ ps) = cond (is_same p) (differences ps) (p ∷ differences ps)

-- the totals with a pair counted
abbrev pub with_pair : Totals → Pair → Totals
with_pair t (left x) = one_first t
with_pair t (right y) = one_second t
with_pair t (both x y) = cond (same_numbers x.entry y.entry) (one_same t) (one_changed t)

unfoldable pub totals_from : Totals → List Pair → Totals
totals_from t [] = t
totals_from t (p ∷ ps) = totals_from (with_pair t p) ps

abbrev pub no_totals : Totals
no_totals = record { first = 0; second = 0; same = 0; changed = 0 }
