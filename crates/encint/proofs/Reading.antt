-- Reading an ENCINT, byte by byte, and the bounds of what is read.
use Rattle.fields.proofs.Base.{◌≡◌, refl, ap, sym, ◌∙◌, List, [], ◌∷◌, ℕ, zero, suc, ◌+◌, ◌-◌, ◌*◌, ◌%◌, ◌^◌, ◌≤◌, ◌<◌, pow-suc, pow-le-pow_right, lt_of_lt_of_le, sub-one, dec_lt, arith, lit<, length, get_or, drop, length-drop, drop_of_length-le, lt-ltb, le-ltb, Some, None, Option, none-some, some_pair_parts}
use native.Mathlib.Nat.{le_trans}
use lib.Dec.{lit≤}
use Rattle.fields.proofs.Parts.{drop_more}
use Rattle.encint.specs.Encint.{rest, decoded, encint_at}

-- ---- one byte

-- the end of the list, or of the bytes that may come
pub rest_ends : (n v at : ℕ) → rest n v at [] ≡ None
unfolding rest
rest_ends zero v at = refl
rest_ends (suc n) v at = refl

pub rest_spent : (n v at : ℕ) (l : List ℕ) → n ≤ 0 → rest n v at l ≡ None
unfolding rest
rest_spent n v at l h = let e : n ≡ 0 = omega arith in rw e

-- a last byte
pub rest_last : (n v at b : ℕ) (l : List ℕ) → 0 < n → b < 128 → rest n v at (b ∷ l) ≡ Some (v * 128 + b % 128, at + 1)
unfolding rest
rest_last zero v at b l p h = absurd (omega arith)
rest_last (suc n) v at b l p h = rw (lt-ltb b 128 h)

-- a byte with the high bit
pub rest_more : (n v at b : ℕ) (l : List ℕ) → 0 < n → 128 ≤ b → rest n v at (b ∷ l) ≡ rest (n - 1) (v * 128 + b % 128) (at + 1) l
unfolding rest
rest_more zero v at b l p h = absurd (omega arith)
rest_more (suc n) v at b l p h = rw (sub-one, le-ltb b 128 h)

-- ---- one turn: n bytes may come, v was read, and the next byte is at i

module _ (s : List ℕ) (n v i : ℕ) where
  pub turn_past : length s ≤ i → rest n v i (drop i s) ≡ None
  turn_past h = rw (drop_of_length-le s h, rest_ends)

  pub turn_last : 0 < n → i < length s → get_or s i 0 < 128 → rest n v i (drop i s) ≡ Some (v * 128 + get_or s i 0 % 128, i + 1)
  turn_last p h q = rw (drop_more s i h, rest_last n v i (get_or s i 0) _ p q)

  pub turn_more : 0 < n → i < length s → 128 ≤ get_or s i 0
      → rest n v i (drop i s) ≡ rest (n - 1) (v * 128 + get_or s i 0 % 128) (i + 1) (drop (i + 1) s)
  turn_more p h q = rw (drop_more s i h, rest_more n v i (get_or s i 0) _ p q)

-- ---- the value stays small: below 128 ^ (9 - n) where n bytes may come

pub grows : (n v b : ℕ) → 0 < n → n ≤ 9 → v < 128 ^ (9 - n) → v * 128 + b % 128 < 128 ^ (9 - (n - 1))
grows n v b p h k =
    let e : 9 - (n - 1) ≡ suc (9 - n) = omega arith in
    rw (e, pow-suc) (omega arith)

pub small : (n v : ℕ) → v < 128 ^ (9 - n) → v < 2 ^ 63
small n v h = lt_of_lt_of_le h (le_trans (pow-le-pow_right (lit< tt) {j = 9} (omega arith)) (lit≤ tt))

-- ---- a number at a place

module _ (s : List ℕ) (at : ℕ) where
  pub at_past : length s ≤ at → encint_at s at ≡ None
  unfolding encint_at decoded rest
  at_past h = rw (drop_of_length-le s h)

  pub at_number : encint_at s at ≡ rest 9 0 at (drop at s)
  unfolding encint_at decoded
  at_number = refl

  -- a byte with the high bit is not the last
  pub at_cut : at < length s → 128 ≤ get_or s at 0 → length s ≤ at + 1 → encint_at s at ≡ None
  at_cut h k e = at_number ∙ turn_more s 9 0 at (omega arith) h k ∙ turn_past s 8 (0 * 128 + get_or s at 0 % 128) (at + 1) e

  -- most numbers have one byte
  pub at_one : at < length s → get_or s at 0 < 128 → encint_at s at ≡ Some (get_or s at 0, at + 1)
  at_one h k = at_number ∙ turn_last s 9 0 at (omega arith) h k ∙ ap (λ (v : ℕ). Some (v, at + 1)) (omega arith)

-- ---- what a number that was read tells

-- it takes a byte, and not more than there are or may come; its value is small
rest_bounds : (n v at : ℕ) (l : List ℕ) {w p : ℕ} → n ≤ 9 → v < 128 ^ (9 - n) → rest n v at l ≡ Some (w, p)
    → (at < p) × (p ≤ at + length l) × (p ≤ at + n) × (w < 2 ^ 63)
unfolding rest
rest_bounds zero v at l m k e = absurd (none-some _ e)
rest_bounds (suc n) v at [] m k e = absurd (none-some _ e)
rest_bounds (suc n) v at (b ∷ l) {w} {p} m k e =
    let g : v * 128 + b % 128 < 128 ^ (9 - n) = rw sub-one at (grows (suc n) v b (omega arith) m k) in
    elim (dec_lt b 128) [
      | yes k ↦
          let f : ◌≡◌ {A = Option (ℕ × ℕ)} (Some (v * 128 + b % 128, at + 1)) (Some (w, p)) = sym (rest_last (suc n) v at b l (omega arith) k) ∙ e in
          let q = some_pair_parts _ _ _ _ f in
          let x : at + 1 ≡ p = q.1 in
          (omega arith, omega arith, omega arith, rw q.0 at (small n (v * 128 + b % 128) g))
      | no q ↦
          let r = rest_bounds n (v * 128 + b % 128) (at + 1) l (omega arith) g (rw sub-one at (sym (rest_more (suc n) v at b l (omega arith) (omega arith)) ∙ e)) in
          (omega arith, omega arith, omega arith, r.3)
    ]

module _ (s : List ℕ) (at : ℕ) {v p : ℕ} where
  encint_bounds : encint_at s at ≡ Some (v, p) → (at < p) × (p ≤ at + length (drop at s)) × (p ≤ at + 9) × (v < 2 ^ 63)
  unfolding encint_at decoded
  encint_bounds e = rest_bounds 9 0 at (drop at s) (lit≤ tt) (lit< tt) e

  -- the place behind a number lies behind it, inside s and at most nine bytes on
  pub encint_next : encint_at s at ≡ Some (v, p) → (at < p) × (p ≤ length s) × (p ≤ at + 9)
  encint_next e = let b = encint_bounds e in (b.0, omega (arith, length-drop at s), b.2)

  pub encint_small : encint_at s at ≡ Some (v, p) → v < 2 ^ 63
  encint_small e = (encint_bounds e).3
