-- Laws of `le` and `bytes`, over every width: bounds, reading in another list, and reading back what was written.
use Rattle.fields.proofs.Base.{◌≡◌, refl, ap, ap₂, sym, ◌∙◌, List, [], ◌∷◌, ◌++◌, ℕ, zero, suc, ◌+◌, ◌-◌, ◌*◌, ◌/◌, ◌%◌, ◌^◌, ◌≤◌, ◌<◌, pow-suc, pow-succ', pow-le-pow_right, lt_of_lt_of_le, add-zero, arith, lit<, length, get_or, length-append}
use native.Mathlib.Nat.{mul_assoc}
use lib.Seq.{get_or-append_seam, append_snoc}
use Rattle.fields.specs.Le.{le, bytes}
use Rattle.fields.specs.Part.{part}
use Rattle.fields.proofs.Parts.{past, drop_more}

-- ---- reading

-- k bytes make a number below 256 ^ k, and below any larger power
pub le_lt : (s : List ℕ) → ((i : ℕ) → get_or s i 0 < 256) → (k at : ℕ) → le k s at < 256 ^ k
unfolding le
le_lt s h zero at = lit< tt
le_lt s h (suc k) at = rw pow-suc (omega (arith, h at, le_lt s h k (at + 1)))

pub le_below : (s : List ℕ) → ((i : ℕ) → get_or s i 0 < 256) → (k m at : ℕ) → k ≤ m → le k s at < 256 ^ m
le_below s h k m at l = lt_of_lt_of_le (le_lt s h k at) (pow-le-pow_right (lit< tt) l)

-- j bytes and k behind them
pub le_split : (j k : ℕ) (s : List ℕ) (at : ℕ) → le (j + k) s at ≡ le j s at + 256 ^ j * le k s (at + j)
unfolding le
le_split zero k s at =
    let y : 0 + k ≡ k = omega arith in
    let z : at ≡ at + 0 = omega arith in
    let e : le (0 + k) s at ≡ le k s (at + 0) = ap₂ (λ (n i : ℕ). le n s i) y z in
    omega (arith, e)
le_split (suc j) k s at =
    let y : suc j + k ≡ suc (j + k) = omega arith in
    let z : at + 1 + j ≡ at + suc j = omega arith in
    let e : le (suc j + k) s at ≡ get_or s at 0 + 256 * le (j + k) s (at + 1) = ap (λ (n : ℕ). le n s at) y in
    let r = rw z at (le_split j k s (at + 1)) in
    let m : 256 ^ suc j * le k s (at + suc j) ≡ 256 * (256 ^ j * le k s (at + suc j)) =
    ap (λ (n : ℕ). n * le k s (at + suc j)) (pow-succ' 256 j) ∙ mul_assoc 256 (256 ^ j) (le k s (at + suc j)) in
    omega (arith, e, r, m)

-- past the end it is 0
pub le_past : (k : ℕ) (s : List ℕ) (at : ℕ) → length s ≤ at → le k s at ≡ 0
unfolding le
le_past zero s at h = refl
le_past (suc k) s at h = rw (past s at h, le_past k s (at + 1) (omega arith))

-- the same bytes make the same number
pub le_agree : (k : ℕ) (s t : List ℕ) (a b : ℕ) → ((i : ℕ) → i < k → get_or s (a + i) 0 ≡ get_or t (b + i) 0) → le k s a ≡ le k t b
unfolding le
le_agree zero s t a b h = refl
le_agree (suc k) s t a b h =
    let e : get_or s a 0 ≡ get_or t b 0 = simp add-zero at (h 0 (omega arith)) in
    let n : (i : ℕ) → i < k → get_or s (a + 1 + i) 0 ≡ get_or t (b + 1 + i) 0 =
    λ i l.
    let x : a + 1 + i ≡ a + (i + 1) = omega arith in
    let y : b + 1 + i ≡ b + (i + 1) = omega arith in
    rw (x, y) (h (i + 1) (omega arith))
    in
    rw (e, le_agree k s t (a + 1) (b + 1) n)

-- the same number comes of the same bytes
module _ (s t : List ℕ) (small-s : (i : ℕ) → get_or s i 0 < 256) (small-t : (i : ℕ) → get_or t i 0 < 256) where
  pub le_tells : (k a b : ℕ) → a + k ≤ length s → b + k ≤ length t → le k s a ≡ le k t b → part s a k ≡ part t b k
  unfolding le
  le_tells zero a b p q e = refl
  le_tells (suc k) a b p q e =
      let x : get_or s a 0 ≡ get_or t b 0 = omega (arith, e, small-s a, small-t b) in
      let y : le k s (a + 1) ≡ le k t (b + 1) = omega (arith, e, small-s a, small-t b) in
      rw (drop_more s a (omega arith), drop_more t b (omega arith)) (ap₂ ◌∷◌ x (le_tells k (a + 1) (b + 1) (omega arith) (omega arith) y))

-- ---- the loop: the bytes from i on are read, highest first

-- none is read
pub le_none : (s : List ℕ) (at k : ℕ) → le (k - k) s at ≡ 0
unfolding le
le_none s at k = let e : k - k ≡ 0 = omega arith in rw e

-- the byte below comes in
pub le_down : (s : List ℕ) (at k i : ℕ) → 0 < i → i ≤ k → le (k - (i - 1)) s (at + (i - 1)) ≡ get_or s (at + (i - 1)) 0 + 256 * le (k - i) s (at + i)
unfolding le
le_down s at k i p l =
    let e : k - (i - 1) ≡ suc (k - i) = omega arith in
    let f : at + (i - 1) + 1 ≡ at + i = omega arith in
    rw (e, f)

-- all k are read
pub le_all : (s : List ℕ) (at k i : ℕ) → i ≤ 0 → le (k - i) s (at + i) ≡ le k s at
le_all s at k i h =
    let e : k - i ≡ k = omega arith in
    let f : at + i ≡ at = omega arith in
    rw (e, f)

-- ---- the bytes of a number

pub length_bytes : (k v : ℕ) → length (bytes k v) ≡ k
unfolding bytes
length_bytes zero v = refl
length_bytes (suc k) v = ap suc (length_bytes k (v / 256))

-- what is left to be written after i of k bytes
pub bytes_more : (k i v : ℕ) → i < k → bytes (k - i) v ≡ v % 256 ∷ bytes (k - (i + 1)) (v / 256)
unfolding bytes
bytes_more k i v h = let e : k - i ≡ suc (k - (i + 1)) = omega arith in rw e

pub bytes_none : (k i v : ℕ) → k ≤ i → bytes (k - i) v ≡ []
unfolding bytes
bytes_none k i v h = let e : k - i ≡ 0 = omega arith in rw e

-- ---- what was written is read back, between other bytes

pub le_bytes : (k v : ℕ) (p q : List ℕ) → v < 256 ^ k → le k (p ++ (bytes k v ++ q)) (length p) ≡ v
unfolding le bytes
le_bytes zero v p q h = omega arith
le_bytes (suc k) v p q h =
    let b : ℕ = v % 256 in
    let x : List ℕ = bytes k (v / 256) ++ q in
    let m : v < 256 ^ k * 256 = rw pow-suc at h in
    let n : length p + 1 ≡ length (p ++ (b ∷ [])) = sym (length-append p (b ∷ [])) in
    let r : le k (p ++ (b ∷ x)) (length p + 1) ≡ v / 256 = rw (n, ← append_snoc p b x) (le_bytes k (v / 256) (p ++ (b ∷ [])) q (omega arith)) in
    rw (get_or-append_seam, r) (omega arith)
