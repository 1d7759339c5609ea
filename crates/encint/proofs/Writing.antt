-- Writing an ENCINT: how many bytes it takes, and the stores that put them into a list.
use Rattle.fields.proofs.Base.{◌≡◌, refl, ap, sym, ◌∙◌, cond, List, [], ◌∷◌, ◌++◌, ℕ, zero, suc, ◌+◌, ◌-◌, ◌*◌, ◌/◌, ◌%◌, ◌^◌, ◌≤◌, ◌<◌, pow-suc, zero-add, add-zero, sub-one, dec_lt, arith, length, take, drop, set, take-append-drop, sets, lt-ltb, le-ltb, eq-eqb, ne_eqb}
use native.Mathlib.Nat.{suc_inj, add-suc}
use lib.Seq.{take-set-le}
use Rattle.fields.specs.Part.{inside}
use Rattle.put.specs.Put.{put}
use Rattle.fields.proofs.Tests.{cond_same}
use Rattle.put.proofs.Put.{put_none, put_refused, put_done, sets_parts}
use Rattle.encint.specs.Encint.{seven_bit_groups, leading, encoded}

-- ---- the bytes of a value

pub length_leading : (n w : ℕ) (l : List ℕ) → length (leading n w l) ≡ n + length l
unfolding leading
length_leading zero w l = rw zero-add
length_leading (suc n) w l = rw (length_leading n (w / 128)) (omega arith)

-- what stands behind is kept
pub leading_append : (n w : ℕ) (l t : List ℕ) → leading n w l ++ t ≡ leading n w (l ++ t)
unfolding leading
leading_append zero w l t = refl
leading_append (suc n) w l t = leading_append n (w / 128) ((128 + w % 128) ∷ l) t

module _ (v : ℕ) where
  pub encoded_is : v < 2 ^ 63 → encoded v ≡ leading (seven_bit_groups 8 (v / 128)) (v / 128) (v % 128 ∷ [])
  unfolding encoded
  encoded_is h = rw (lt-ltb v (2 ^ 63) h)

  pub encoded_none : 2 ^ 63 ≤ v → encoded v ≡ []
  unfolding encoded
  encoded_none h = rw (le-ltb v (2 ^ 63) h)

  pub length_encoded : v < 2 ^ 63 → length (encoded v) ≡ seven_bit_groups 8 (v / 128) + 1
  length_encoded h = rw (encoded_is h, length_leading)

  -- a value that has bytes is below 2 ^ 63
  pub in_range : 0 < length (encoded v) → v < 2 ^ 63
  in_range h = elim (dec_lt v (2 ^ 63)) [ yes l ↦ l | no l ↦ absurd (omega (arith, ap length (encoded_none (omega arith)))) ]

-- ---- how many groups a number has

pub groups_zero : (n w : ℕ) → w ≤ 0 → seven_bit_groups n w ≡ 0
unfolding seven_bit_groups
groups_zero zero w h = refl
groups_zero (suc n) w h = rw (eq-eqb w 0 (omega arith))

pub groups_more : (n w : ℕ) → 0 < w → seven_bit_groups (suc n) w ≡ suc (seven_bit_groups n (w / 128))
unfolding seven_bit_groups
groups_more n w h = rw (ne_eqb w 0 (omega arith))

-- k groups of seven bits hold all of w, and the highest of them is not 0; n at most
pub record Groups (n w k : ℕ) : Type 0 where
  pub few : k ≤ n
  pub all : w < 128 ^ k
  pub top : (j : ℕ) → k ≡ suc j → 128 ^ j ≤ w

-- one group more below
up : (k w : ℕ) → 0 < w → ((j : ℕ) → k ≡ suc j → 128 ^ j ≤ w / 128) → 128 ^ k ≤ w
up zero w p t = p
up (suc k) w p t = rw pow-suc (omega (arith, t k refl))

pub groups_are : (n w : ℕ) → w < 128 ^ n → Groups n w (seven_bit_groups n w)
groups_are zero w h = rw (groups_zero zero w (omega arith)) record { few = omega arith; all = h; top = λ j e. absurd (omega arith) }
groups_are (suc n) w h =
    elim (dec_lt 0 w) [
      | yes p ↦
          let m : w < 128 ^ n * 128 = rw pow-suc at h in
          let r = groups_are n (w / 128) (omega arith) in
          let a : w < 128 ^ seven_bit_groups n (w / 128) * 128 = omega (arith, r.all) in
          rw (groups_more n w p)
          record { few = omega (arith, r.few); all = rw pow-suc a; top = λ j e. rw (suc_inj e) at (up (seven_bit_groups n (w / 128)) w p r.top) }
      | no p ↦ rw (groups_zero (suc n) w (omega arith)) record { few = omega arith; all = omega arith; top = λ j e. absurd (omega arith) }
    ]

-- one to nine bytes
pub encoded_some : (v : ℕ) → v < 2 ^ 63 → (0 < length (encoded v)) × (length (encoded v) ≤ 9)
encoded_some v h =
    let f : seven_bit_groups 8 (v / 128) ≤ 8 = (groups_are 8 (v / 128) (omega arith)).few in
    (omega (arith, length_encoded v h), omega (arith, length_encoded v h))

-- also where there is none
pub encoded_short : (v : ℕ) → length (encoded v) ≤ 9
encoded_short v = elim (dec_lt v (2 ^ 63)) [ yes h ↦ (encoded_some v h).1 | no h ↦ omega (arith, ap length (encoded_none v (omega arith))) ]

-- a turn of counting: n are counted, and w is left, below 128 ^ (9 - n)
module _ (n w : ℕ) where
  pub room : n ≤ 9 → w < 128 ^ (9 - n) → 0 < w → n < 9
  room h k p = elim (dec_lt n 9) [ yes l ↦ l | no l ↦ absurd (let e : n ≡ 9 = omega arith in let f : w < 1 = rw e at k in omega arith) ]

  pub groups_step : n < 9 → 0 < w → seven_bit_groups (9 - n) w ≡ suc (seven_bit_groups (9 - (n + 1)) (w / 128))
  groups_step h p = let e : 9 - n ≡ suc (9 - (n + 1)) = omega arith in rw (e, groups_more (9 - (n + 1)) w p)

  pub less_step : n < 9 → w < 128 ^ (9 - n) → w / 128 < 128 ^ (9 - (n + 1))
  less_step h k =
      let e : 9 - n ≡ suc (9 - (n + 1)) = omega arith in
      let f : w < 128 ^ (9 - (n + 1)) * 128 = rw (e, pow-suc) at k in
      omega arith

-- ---- the stores

-- from p on, after a store at p
drop_set : (s : List ℕ) (p b : ℕ) → p < length s → drop p (set s p b) ≡ b ∷ drop (suc p) s
drop_set [] p b h = absurd (omega arith)
drop_set (x ∷ s) zero b h = refl
drop_set (x ∷ s) (suc p) b h = drop_set s p b (omega arith)

-- one leading group stored: what is left to do from there is the same
pub leading_turn : (s : List ℕ) (at j w : ℕ) → 0 < j → at + j ≤ length s
    → (let t = set s (at + (j - 1)) (128 + w % 128) in take at t ++ leading (j - 1) (w / 128) (drop (at + (j - 1)) t))
    ≡ take at s ++ leading j w (drop (at + j) s)
unfolding leading
leading_turn s at zero w p h = absurd (omega arith)
leading_turn s at (suc k) w p h =
    rw (sub-one, drop_set s (at + k) (128 + w % 128) (omega arith), take-set-le at s (at + k) (128 + w % 128) (omega arith), add-suc)

-- nothing is left to store
pub leading_end : (s : List ℕ) (at j w : ℕ) → j ≤ 0 → s ≡ take at s ++ leading j w (drop (at + j) s)
unfolding leading
leading_end s at j w h = let e : j ≡ 0 = omega arith in rw (e, add-zero, take-append-drop)

-- the last byte stored, and then the leading ones
pub stored : (s : List ℕ) (at v n : ℕ) → n ≡ length (encoded v) → 0 < n → at + n ≤ length s
    → (let t = set s (at + (n - 1)) (v % 128) in take at t ++ leading (n - 1) (v / 128) (drop (at + (n - 1)) t)) ≡ sets s at (encoded v)
stored s at v n e p h =
    let r : v < 2 ^ 63 = in_range v (omega arith) in
    let g : n - 1 ≡ seven_bit_groups 8 (v / 128) = omega (arith, length_encoded v r) in
    let f : suc (at + (n - 1)) ≡ at + n = omega arith in
    rw (
      drop_set s (at + (n - 1)) (v % 128) (omega arith),
      take-set-le at s (at + (n - 1)) (v % 128) (omega arith),
      f,
      g,
      sets_parts s at (encoded v) (omega arith),
      ← e,
      encoded_is v r,
      leading_append,
    )

-- ---- what a call that writes l answers, and what it leaves

abbrev Wrote : List ℕ → ℕ → List ℕ → ℕ → List ℕ → Type 0
Wrote s at l n t = (n ≡ cond (inside s at (length l)) (length l) 0) × (t ≡ put s at l)

module _ (s : List ℕ) (at : ℕ) (l : List ℕ) where
  pub wrote_none : length l ≡ 0 → Wrote s at l 0 s
  wrote_none h = (rw (h, cond_same), sym (put_none s at l h))

  pub wrote_outside : length s < at + length l → Wrote s at l 0 s
  wrote_outside h = let p = put_refused s at (length l) l refl h in (rw p.0, sym p.1)

  pub wrote_inside : (t : List ℕ) → at + length l ≤ length s → t ≡ sets s at l → Wrote s at l (length l) t
  wrote_inside t h e = let p = put_done s at (length l) l refl h in (rw p.0, e ∙ sym p.1)
