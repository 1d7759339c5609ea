-- Laws of a part of a list.
use Rattle.fields.proofs.Base.{◌≡◌, refl, sym, ap, ◌∙◌, List, [], ◌∷◌, ◌++◌, ℕ, zero, suc, ◌+◌, ◌≤◌, ◌<◌, zero-add, add-one, dec_lt, arith, lit<, length, get_or, take, drop, length-drop, take-append-drop, drop-drop, get_or-drop, length-take-le, take-take, le-leb, lt-leb}
use native.Mathlib.Nat.{suc-add}
use lib.ListN.{length-take, get_or-eq_default}
use lib.Seq.{drop-cons, get_or-take, take-nil, take-add}
use Rattle.fields.specs.Part.{part, part_of}

-- a place past the end holds 0
pub past : (s : List ℕ) (i : ℕ) → length s ≤ i → get_or s i 0 ≡ 0
past s i h = get_or-eq_default s 0 h

-- what stands at i, and what comes after it
pub drop_more : (s : List ℕ) (i : ℕ) → i < length s → drop i s ≡ get_or s i 0 ∷ drop (i + 1) s
drop_more s i h = rw (add-one, drop-cons s i 0 h)

module _ (s : List ℕ) (at n : ℕ) where
  pub length_part : at + n ≤ length s → length (part s at n) ≡ n
  length_part h = length-take-le n (drop at s) (rw length-drop (omega arith))

  pub get_d_part : (i : ℕ) → i < n → get_or (part s at n) i 0 ≡ get_or s (at + i) 0
  get_d_part i h = rw (get_or-take, get_or-drop)

  pub part_small : ((i : ℕ) → get_or s i 0 < 256) → (i : ℕ) → get_or (part s at n) i 0 < 256
  part_small b i =
      elim (dec_lt i n) [
        | yes h ↦ rw (get_d_part i h) (b (at + i))
        | no h ↦ rw (past (part s at n) i (omega (arith, length-take n (drop at s)))) (lit< tt)
      ]

  pub part_inside : at + n ≤ length s → part_of s at n ≡ part s at n
  unfolding part_of
  part_inside h = rw (le-leb _ _ h)

  pub part_outside : length s < at + n → part_of s at n ≡ []
  unfolding part_of
  part_outside h = rw (lt-leb _ _ h)

-- a part and the one directly behind it
pub part_add : (s : List ℕ) (at n m : ℕ) → part s at (n + m) ≡ part s at n ++ part s (at + n) m
part_add s at n m = take-add n m (drop at s) ∙ ap (λ (r : List ℕ). part s at n ++ take m r) (drop-drop n at s)

-- a part and all that is behind it
pub part_rest : (s : List ℕ) (at n : ℕ) → drop at s ≡ part s at n ++ drop (at + n) s
part_rest s at n = sym (take-append-drop n (drop at s)) ∙ ap (λ (r : List ℕ). part s at n ++ r) (drop-drop n at s)

-- a part is read off any list that begins alike
part_front : (x : List ℕ) (at n : ℕ) → part x at n ≡ drop at (take (at + n) x)
part_front x zero n = ap (λ (m : ℕ). take m x) (sym (zero-add n))
part_front [] (suc at) n = take-nil n ∙ sym (ap (drop (suc at)) (take-nil (suc at + n)))
part_front (y ∷ x) (suc at) n = part_front x at n ∙ ap (λ (m : ℕ). drop (suc at) (take m (y ∷ x))) (sym (suc-add at n))

pub part_alike : (x y : List ℕ) (at n end : ℕ) → at + n ≡ end → take end x ≡ take end y → part x at n ≡ part y at n
part_alike x y at n end h e =
    part_front x at n
    ∙ ap (λ (m : ℕ). drop at (take m x)) h ∙ ap (drop at) e ∙ ap (λ (m : ℕ). drop at (take m y)) (sym h)
    ∙ sym (part_front y at n)

-- a part of a part
pub part_within : (s : List ℕ) (at k start n : ℕ) → start + n ≤ k → part (part s at k) start n ≡ part s (at + start) n
part_within s at k start n h =
    part_alike (part s at k) (drop at s) start n (start + n) refl (take-take (start + n) k (drop at s) h) ∙ ap (take n) (drop-drop start at s)
