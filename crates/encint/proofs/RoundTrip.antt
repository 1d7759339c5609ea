-- What was written is read back, whatever stands before and behind it.
use Rattle.fields.proofs.Base.{◌≡◌, ap, ap₂, ◌∙◌, List, ◌∷◌, ◌++◌, ℕ, zero, suc, ◌+◌, ◌-◌, ◌*◌, ◌/◌, ◌%◌, ◌^◌, ◌≤◌, ◌<◌, pow-suc, zero-add, add-zero, sub-one, arith, length, Some}
use Rattle.encint.specs.Encint.{rest, decoded, seven_bit_groups, leading, encoded}
use Rattle.encint.proofs.Reading.{rest_last, rest_more}
use Rattle.encint.proofs.Writing.{leading_append, encoded_is, length_encoded, groups_are}

-- ---- reading the leading groups

read_leading : (n g w at : ℕ) (l : List ℕ) → w < 128 ^ n → rest (n + g) 0 at (leading n w l) ≡ rest g w (at + n) l
unfolding leading
read_leading zero g w at l h = let e : w ≡ 0 = omega arith in rw (zero-add, e, add-zero)
read_leading (suc n) g w at l h =
    let k : w < 128 ^ n * 128 = rw pow-suc at h in
    let e : suc n + g ≡ n + suc g = omega arith in
    let d : w / 128 * 128 + (128 + w % 128) % 128 ≡ w = omega arith in
    let f : at + n + 1 ≡ at + suc n = omega arith in
    rw (e, read_leading n (suc g) (w / 128) at ((128 + w % 128) ∷ l) (omega arith))
    (rw (rest_more (suc g) (w / 128) (at + n) (128 + w % 128) l (omega arith) (omega arith), d, f, sub-one))

-- at most eight leading groups, and the last byte
pub read_all : (w k b at : ℕ) (t : List ℕ) → k ≤ 8 → w < 128 ^ k → b < 128 → rest 9 0 at (leading k w (b ∷ t)) ≡ Some (w * 128 + b % 128, at + k + 1)
read_all w k b at t m h l =
    let e : 9 ≡ k + (9 - k) = omega arith in
    ap (λ (n : ℕ). rest n 0 at (leading k w (b ∷ t))) e
    ∙ read_leading k (9 - k) w at (b ∷ t) h
    ∙ rest_last (9 - k) w (at + k) b t (omega arith) l

-- ---- a value

module _ (v : ℕ) (h : v < 2 ^ 63) where
  -- at the beginning of a list that stands at the place `at`
  pub round_trip : (at : ℕ) (t : List ℕ) → decoded at (encoded v ++ t) ≡ Some (v, at + length (encoded v))
  unfolding decoded
  round_trip at t =
      let k : ℕ = seven_bit_groups 8 (v / 128) in
      let r = groups_are 8 (v / 128) (omega arith) in
      let e : encoded v ++ t ≡ leading k (v / 128) (v % 128 ∷ t) = rw (encoded_is v h, leading_append) in
      rw e (read_all (v / 128) k (v % 128) at t r.few r.all (omega arith) ∙ ap₂ (λ (v n : ℕ). Some (v, n)) (omega arith) (omega (arith, length_encoded v h)))
