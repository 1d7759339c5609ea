-- ENCINT: seven bits a byte, most significant first; the high bit says that a byte follows. One to nine bytes, so a value is below 2 ^ 63.
-- A leading 80 hex is seven zero bits; what is written has none (FORMAT, Numbers).
use Rattle.std.specs.Prelude.{ℕ, zero, suc, ◌+◌, ◌*◌, ◌/◌, ◌%◌, ◌^◌, cond, List, [], ◌∷◌, drop, ltb, eqb, Option, Some, None}

-- ---- reading

-- the rest of a number of which v was read, in at most n bytes more; l stands at the place `at`
unfoldable pub rest : ℕ → ℕ → ℕ → List ℕ → Option (ℕ × ℕ)
rest zero v at l = None
rest (suc n) v at [] = None
rest (suc n) v at (b ∷ l) =
    let w = v * 128 + b % 128 in
    let r = rest n w (at + 1) l in
    cond (ltb b 128) (Some (w, at + 1)) r

-- the number that begins l, which stands at the place `at`
unfoldable pub decoded : ℕ → List ℕ → Option (ℕ × ℕ)
decoded at l = rest 9 0 at l

-- the number that stands in s at `at`, not past the end of s
unfoldable pub encint_at : List ℕ → ℕ → Option (ℕ × ℕ)
encint_at s at = decoded at (drop at s)

-- ---- writing

-- how many groups of seven bits w has, none for 0; n at most
unfoldable pub seven_bit_groups : ℕ → ℕ → ℕ
seven_bit_groups zero w = 0
seven_bit_groups (suc n) w = cond (eqb w 0) 0 (suc (seven_bit_groups n (w / 128)))

-- the lowest n groups of w, highest first, each with the high bit, in front of l
unfoldable pub leading : ℕ → ℕ → List ℕ → List ℕ
leading zero w l = l
leading (suc n) w l = leading n (w / 128) ((128 + w % 128) ∷ l)

-- the bytes of v, its short form; none for 2 ^ 63 and above
unfoldable pub encoded : ℕ → List ℕ
encoded v = cond (ltb v (2 ^ 63)) (leading (seven_bit_groups 8 (v / 128)) (v / 128) (v % 128 ∷ [])) []
