-- The totals of a course: as long as they do not pass 64 bits they are how many pairs there are of each kind; and the kinds add up to the entries of each list.
use Rattle.fields.proofs.Base.{◌≡◌, refl, ap, ◌∙◌, Bool, true, false, cond, not, List, [], ◌∷◌, ℕ, suc, ◌+◌, ◌^◌, ◌<◌, mod-eq_of_lt, arith, length}
use Rattle.tree.proofs.Lists.{on_test}
use Rattle.turn.specs.Turn.{one_more, one_same, one_changed}
use Rattle.turn.specs.declared.Totals.{Totals}
use Rattle.compare.specs.Course.{Pair, left, right, both, firsts, seconds, same_numbers, is_same, with_pair, totals_from}

-- ---- how many of a kind

abbrev is_left : Pair → Bool
is_left (left x) = true
is_left (right y) = false
is_left (both x y) = false

abbrev is_right : Pair → Bool
is_right (left x) = false
is_right (right y) = true
is_right (both x y) = false

abbrev is_changed : Pair → Bool
is_changed (left x) = false
is_changed (right y) = false
is_changed (both x y) = not (same_numbers x.entry y.entry)

-- how many pairs pass a test
unfoldable number : (Pair → Bool) → List Pair → ℕ
number k [] = 0
number k (p ∷ ps) = cond (k p) (suc (number k ps)) (number k ps)

module _ (k : Pair → Bool) where
  number_yes : (p : Pair) (ps : List Pair) → k p ≡ true → number k (p ∷ ps) ≡ suc (number k ps)
  unfolding number
  number_yes p ps e = rw e

  number_no : (p : Pair) (ps : List Pair) → k p ≡ false → number k (p ∷ ps) ≡ number k ps
  unfolding number
  number_no p ps e = rw e

-- one of the totals, which counts the pairs that pass a test
module _ (f : Totals → ℕ) (k : Pair → Bool) (step : (t : Totals) (p : Pair) → f (with_pair t p) ≡ cond (k p) (one_more (f t)) (f t)) where
  counts : (ps : List Pair) (t : Totals) → f t + number k ps < 2 ^ 64 → f (totals_from t ps) ≡ f t + number k ps
  unfolding totals_from number
  counts [] t l = omega arith
  counts (p ∷ ps) t l =
      on_test (k p)
      (λ e.
      let n = number_yes k p ps e in
      let q : f (with_pair t p) ≡ f t + 1 = step t p ∙ ap (λ (b : Bool). cond b (one_more (f t)) (f t)) e ∙ mod-eq_of_lt (omega arith) in
      let r = counts ps (with_pair t p) (omega arith) in
      omega arith)
      (λ e.
      let n = number_no k p ps e in
      let q : f (with_pair t p) ≡ f t = step t p ∙ ap (λ (b : Bool). cond b (one_more (f t)) (f t)) e in
      let r = counts ps (with_pair t p) (omega arith) in
      omega arith)

-- of a pair in both, by a test: the total that counts the same, and that which counts the changed
same_of : (b : Bool) (t : Totals) → (cond b (one_same t) (one_changed t)).same ≡ cond b (one_more t.same) t.same
same_of true t = refl
same_of false t = refl

changed_of : (b : Bool) (t : Totals) → (cond b (one_same t) (one_changed t)).changed ≡ cond (not b) (one_more t.changed) t.changed
changed_of true t = refl
changed_of false t = refl

first_of : (b : Bool) (t : Totals) → (cond b (one_same t) (one_changed t)).first ≡ t.first
first_of true t = refl
first_of false t = refl

second_of : (b : Bool) (t : Totals) → (cond b (one_same t) (one_changed t)).second ≡ t.second
second_of true t = refl
second_of false t = refl

one_first_lem : (t : Totals) (p : Pair) → (with_pair t p).first ≡ cond (is_left p) (one_more t.first) t.first
one_first_lem t (left x) = refl
one_first_lem t (right y) = refl
one_first_lem t (both x y) = first_of (same_numbers x.entry y.entry) t

one_second_lem : (t : Totals) (p : Pair) → (with_pair t p).second ≡ cond (is_right p) (one_more t.second) t.second
one_second_lem t (left x) = refl
one_second_lem t (right y) = refl
one_second_lem t (both x y) = second_of (same_numbers x.entry y.entry) t

one_same_lem : (t : Totals) (p : Pair) → (with_pair t p).same ≡ cond (is_same p) (one_more t.same) t.same
one_same_lem t (left x) = refl
one_same_lem t (right y) = refl
one_same_lem t (both x y) = same_of (same_numbers x.entry y.entry) t

one_changed_lem : (t : Totals) (p : Pair) → (with_pair t p).changed ≡ cond (is_changed p) (one_more t.changed) t.changed
one_changed_lem t (left x) = refl
one_changed_lem t (right y) = refl
one_changed_lem t (both x y) = changed_of (same_numbers x.entry y.entry) t

-- ---- the kinds add up

first_number : (ps : List Pair) → number is_left ps + number is_same ps + number is_changed ps ≡ length (firsts ps)
unfolding number firsts
first_number [] = refl
first_number (left x ∷ ps) = let i = first_number ps in omega arith
first_number (right y ∷ ps) = first_number ps
first_number (both x y ∷ ps) =
    let i = first_number ps in
    on_test (same_numbers x.entry y.entry) (λ e. rw e (omega arith)) (λ e. rw e (omega arith))

second_number : (ps : List Pair) → number is_right ps + number is_same ps + number is_changed ps ≡ length (seconds ps)
unfolding number seconds
second_number [] = refl
second_number (left x ∷ ps) = second_number ps
second_number (right y ∷ ps) = let i = second_number ps in omega arith
second_number (both x y ∷ ps) =
    let i = second_number ps in
    on_test (same_numbers x.entry y.entry) (λ e. rw e (omega arith)) (λ e. rw e (omega arith))

-- the totals from nothing on, of lists that are not too long
module _ (t : Totals) (ps : List Pair) (zero-first : t.first ≡ 0) (zero-second : t.second ≡ 0) (zero_same : t.same ≡ 0) (zero-changed : t.changed ≡ 0) where
  pub first_total : length (firsts ps) < 2 ^ 64 → (totals_from t ps).first + (totals_from t ps).same + (totals_from t ps).changed ≡ length (firsts ps)
  first_total l =
      let n = first_number ps in
      let a = counts (λ (x : Totals). x.first) is_left one_first_lem ps t (omega arith) in
      let b = counts (λ (x : Totals). x.same) is_same one_same_lem ps t (omega arith) in
      let d = counts (λ (x : Totals). x.changed) is_changed one_changed_lem ps t (omega arith) in
      omega arith

  pub second_total : length (seconds ps) < 2 ^ 64 → (totals_from t ps).second + (totals_from t ps).same + (totals_from t ps).changed ≡ length (seconds ps)
  second_total l =
      let n = second_number ps in
      let a = counts (λ (x : Totals). x.second) is_right one_second_lem ps t (omega arith) in
      let b = counts (λ (x : Totals). x.same) is_same one_same_lem ps t (omega arith) in
      let d = counts (λ (x : Totals). x.changed) is_changed one_changed_lem ps t (omega arith) in
      omega arith
