-- Bytes that are read as v are leading bytes 80 and the short form of v, and such bytes are read as v.
use Rattle.fields.proofs.Base.{◌≡◌, ap, ap₂, sym, subst, ◌∙◌, List, [], ◌∷◌, ◌++◌, append_assoc, ℕ, zero, suc, ◌+◌, ◌-◌, ◌*◌, ◌/◌, ◌%◌, ◌^◌, ◌≤◌, ◌<◌, pow-suc, pow-succ', zero-add, div-eq_of_lt, pow-le-pow_right, lt_of_lt_of_le, sub-one, dec_lt, arith, lit<, length, get_or, take, drop, replicate, length-append, length-replicate, get_or-drop, take_at, Option, Some, none-some, some_pair_parts}
use native.Mathlib.Nat.{div-one, one-mul, suc-add, div-div-eq-div-mul, div-lt_iff_lt-mul, one-le-pow}
use Rattle.fields.proofs.Parts.{part_rest}
use Rattle.encint.specs.Encint.{rest, encint_at, seven_bit_groups, leading, encoded}
use Rattle.encint.specs.Padded.{padded, PaddedAt, ReadExact}
use Rattle.encint.proofs.Reading.{rest_last, rest_more, at_number}
use Rattle.encint.proofs.Writing.{leading_append, encoded_is, length_encoded, groups_zero, groups_more, groups_are}
use Rattle.encint.proofs.RoundTrip.{read_all}

-- ---- leading groups

-- the highest of them, and the others
leading_top : (k x : ℕ) (l : List ℕ) → leading (suc k) x l ≡ (128 + x / 128 ^ k % 128) ∷ leading k x l
unfolding leading
leading_top zero x l = rw div-one
leading_top (suc k) x l = rw (pow-succ', ← div-div-eq-div-mul x 128 (128 ^ k)) (leading_top k (x / 128) ((128 + x % 128) ∷ l))

-- those above the value are bytes 80
leading_padded : (j g w : ℕ) (l : List ℕ) → w < 128 ^ g → leading (j + g) w l ≡ replicate j 128 ++ leading g w l
leading_padded zero g w l h = rw zero-add
leading_padded (suc j) g w l h =
    let z : w / 128 ^ (j + g) ≡ 0 = div-eq_of_lt (lt_of_lt_of_le h (pow-le-pow_right (lit< tt) (omega arith))) in
    rw (suc-add, leading_top (j + g) w l, z, leading_padded j g w l h)

-- a value has no more groups than hold it
groups_least : (n w k : ℕ) → w < 128 ^ k → seven_bit_groups n w ≤ k
unfolding seven_bit_groups
groups_least zero w k h = omega arith
groups_least (suc n) w zero h = omega (arith, groups_zero (suc n) w (omega arith))
groups_least (suc n) w (suc k) h =
    elim (dec_lt 0 w) [
      | yes p ↦
          let m : w < 128 ^ k * 128 = rw pow-suc at h in
          omega (arith, groups_more n w p, groups_least n (w / 128) k (omega arith))
      | no p ↦ omega (arith, groups_zero (suc n) w (omega arith))
    ]

-- ---- what was read

-- v was read from l, by k leading groups and a last byte, where w was read before
record Read (n w at : ℕ) (l : List ℕ) (v m : ℕ) : Type 0 where
  k : ℕ
  behind : List ℕ
  bytes : l ≡ leading k (v / 128) (v % 128 ∷ behind)
  next : m ≡ at + k + 1
  before : w ≡ v / 128 ^ suc k
  few : k < n

-- a last byte
read_last : (n w at b : ℕ) (l : List ℕ) (v m : ℕ) → b < 128 → w * 128 + b % 128 ≡ v → at + 1 ≡ m → Read (suc n) w at (b ∷ l) v m
unfolding leading
read_last n w at b l v m p fv fm =
    record {
      k = 0;
      behind = l;
      bytes = ap (λ (x : ℕ). x ∷ l) (omega arith);
      next = omega arith;
      before = omega arith;
      few = omega arith;
    }

-- one more leading byte
read_more : (n w at b : ℕ) (l : List ℕ) (v m : ℕ) → 128 ≤ b → b < 256 → Read n (w * 128 + b % 128) (at + 1) l v m → Read (suc n) w at (b ∷ l) v m
read_more n w at b l v m p q r =
    let k : ℕ = r.k in
    let d : v / 128 / 128 ^ k ≡ v / 128 ^ suc k = rw (pow-succ' 128 k, ← div-div-eq-div-mul v 128 (128 ^ k)) in
    let f : v / 128 ^ suc (suc k) ≡ v / 128 ^ suc k / 128 = rw (pow-suc 128 (suc k), ← div-div-eq-div-mul v (128 ^ suc k) 128) in
    let e : w * 128 + b % 128 ≡ v / 128 ^ suc k = r.before in
    record {
      k = suc k;
      behind = r.behind;
      bytes = rw leading_top (ap₂ ◌∷◌ (omega arith) r.bytes);
      next = omega arith;
      before = omega arith;
      few = omega arith;
    }

read : (n w at : ℕ) (l : List ℕ) (v m : ℕ) → ((i : ℕ) → get_or l i 0 < 256) → rest n w at l ≡ Some (v, m) → Read n w at l v m
unfolding rest
read zero w at l v m h e = absurd (none-some _ e)
read (suc n) w at [] v m h e = absurd (none-some _ e)
read (suc n) w at (b ∷ l) v m h e =
    elim (dec_lt b 128) [
      | yes p ↦
          let f : ◌≡◌ {A = Option (ℕ × ℕ)} (Some (w * 128 + b % 128, at + 1)) (Some (v, m)) = sym (rest_last (suc n) w at b l (omega arith) p) ∙ e in
          let q = some_pair_parts _ _ _ _ f in
          read_last n w at b l v m p q.0 q.1
      | no p ↦
          read_more n w at b l v m (omega arith) (h 0)
          (read n (w * 128 + b % 128) (at + 1) l v m (λ i. h (suc i)) (rw sub-one at (sym (rest_more (suc n) w at b l (omega arith) (omega arith)) ∙ e)))
    ]

-- k leading groups and a last byte are the whole value
whole : (v k : ℕ) → 0 ≡ v / 128 ^ suc k → v / 128 < 128 ^ k
whole v k e =
    let a : v < 1 * 128 ^ suc k = (div-lt_iff_lt-mul (one-le-pow (suc k) 128 (lit< tt))).0 (omega arith) in
    let b : v < 128 ^ k * 128 = rw (one-mul, pow-suc) at a in
    omega arith

-- ---- a value at a place

pub length_padded : (k v : ℕ) → length (padded k v) ≡ k + length (encoded v)
length_padded k v = omega (arith, length-append (replicate k 128) (encoded v), length-replicate {A = ℕ} k 128)

module _ (v : ℕ) (h : v < 2 ^ 63) where
  abbrev g : ℕ
  g = seven_bit_groups 8 (v / 128)

  -- its short form behind k bytes 80, as leading groups
  padded_leading : (k : ℕ) (t : List ℕ) → replicate k 128 ++ (encoded v ++ t) ≡ leading (k + g) (v / 128) (v % 128 ∷ t)
  padded_leading k t =
      rw (encoded_is v h, leading_append)
      (sym (leading_padded k g (v / 128) (v % 128 ∷ t) (groups_are 8 (v / 128) (omega arith)).all))

module _ (s : List ℕ) (at : ℕ) where
  pub encint_padded : (k v : ℕ) → PaddedAt s at k v → encint_at s at ≡ Some (v, at + (k + length (encoded v)))
  encint_padded k v p =
      let n : ℕ = k + length (encoded v) in
      let c : length (encoded v) ≡ seven_bit_groups 8 (v / 128) + 1 = length_encoded v p.small in
      let few : k + length (encoded v) ≤ 9 = p.few in
      let m : v / 128 < 128 ^ (k + seven_bit_groups 8 (v / 128)) =
      lt_of_lt_of_le (groups_are 8 (v / 128) (omega (arith, p.small))).all (pow-le-pow_right (lit< tt) (omega arith)) in
      let l : drop at s ≡ leading (k + seven_bit_groups 8 (v / 128)) (v / 128) (v % 128 ∷ drop (at + n) s) =
      part_rest s at n ∙ ap (λ (x : List ℕ). x ++ drop (at + n) s) p.bytes ∙ append_assoc (replicate k 128) (encoded v) (drop (at + n) s) ∙ padded_leading v p.small k (drop (at + n) s) in
      at_number s at
      ∙ ap (rest 9 0 at) l
      ∙ read_all (v / 128) (k + seven_bit_groups 8 (v / 128)) (v % 128) at (drop (at + n) s) (omega arith) m (omega arith)
      ∙ ap₂ (λ (v n : ℕ). Some (v, n)) (omega arith) (omega arith)

  pub padded_encint : ((i : ℕ) → get_or s i 0 < 256) → (v next : ℕ) → encint_at s at ≡ Some (v, next) → (k : ℕ) × PaddedAt s at k v × (next ≡ at + (k + length (encoded v)))
  padded_encint b v next e =
      let r = read 9 0 at (drop at s) v next (λ i. rw get_or-drop (b (at + i))) (sym (at_number s at) ∙ e) in
      let w : v / 128 < 128 ^ r.k = whole v r.k r.before in
      let x : v / 128 < 128 ^ 8 = lt_of_lt_of_le w (pow-le-pow_right (lit< tt) {j = 8} (omega (arith, r.few))) in
      let h : v < 2 ^ 63 = omega arith in
      let c : length (encoded v) ≡ seven_bit_groups 8 (v / 128) + 1 = length_encoded v h in
      let g : seven_bit_groups 8 (v / 128) ≤ r.k = groups_least 8 (v / 128) r.k w in
      let k : ℕ = r.k - seven_bit_groups 8 (v / 128) in
      let q : r.k ≡ k + seven_bit_groups 8 (v / 128) = omega arith in
      let l : drop at s ≡ (replicate k 128 ++ encoded v) ++ r.behind =
      r.bytes
      ∙ ap (λ (j : ℕ). leading j (v / 128) (v % 128 ∷ r.behind)) q
      ∙ sym (padded_leading v h k r.behind)
      ∙ sym (append_assoc (replicate k 128) (encoded v) r.behind) in
      (k, record { small = h; few = omega (arith, r.few); bytes = ap (take (k + length (encoded v))) l ∙ take_at (padded k v) r.behind _ (length_padded k v) }, omega (arith, r.next))

  pub read_exact : ((i : ℕ) → get_or s i 0 < 256) → ReadExact s at (encint_at s at)
  read_exact b = record { says = padded_encint b; reads = encint_padded }

  -- an answer that is the reading
  pub answer_exact : ((i : ℕ) → get_or s i 0 < 256) → (r : Option (ℕ × ℕ)) → r ≡ encint_at s at → (r ≡ encint_at s at) × ReadExact s at r
  answer_exact b r e = (e, subst (ReadExact s at) (sym e) (read_exact b))
