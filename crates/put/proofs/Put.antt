-- Writing into a list: laws of `sets`, the bytes written one by one, and of `put`.
use Rattle.fields.proofs.Base.{◌≡◌, ap, sym, ◌∙◌, true, false, List, [], ◌∷◌, ◌++◌, append_assoc, ℕ, suc, ◌+◌, ◌≤◌, ◌<◌, dec_le, arith, length, take, drop, set, sets, sets-eq, length-sets, le-leb, lt-leb, ◌^◌, length-take-le}
use Rattle.fields.specs.Part.{inside}
use Rattle.put.specs.Put.{put}
use Rattle.fields.specs.Le.{le, bytes}
use Rattle.fields.proofs.Le.{length_bytes, le_bytes}
use Rattle.fields.proofs.Tests.{cond_same}

-- ---- one run

-- the list in three parts
pub sets_parts : (s : List ℕ) (at : ℕ) (l : List ℕ) → at + length l ≤ length s → sets s at l ≡ take at s ++ (l ++ drop (at + length l) s)
sets_parts s at l h = sets-eq l s at h ∙ append_assoc (take at s) l (drop (at + length l) s)

-- ---- two runs, one behind the other, are one: the first written first, or last

pub sets_after : (s : List ℕ) (at : ℕ) (a b : List ℕ) → sets (sets s at a) (at + length a) b ≡ sets s at (a ++ b)
sets_after s at [] b = ap (λ (k : ℕ). sets s k b) (omega arith)
sets_after s at (x ∷ a) b =
    ap (λ (k : ℕ). sets (sets (set s at x) (suc at) a) k b) (omega arith) ∙ sets_after (set s at x) (suc at) a b

-- two calls that each write a run: the second right behind the first, or right before it
module _ (at k : ℕ) (a b s t u : List ℕ) where
  pub sets_then : t ≡ sets s at a → k ≡ at + length a → u ≡ sets t k b → u ≡ sets s at (a ++ b)
  sets_then e h f = f ∙ ap (λ (l : List ℕ). sets l k b) e ∙ ap (λ (i : ℕ). sets (sets s at a) i b) h ∙ sets_after s at a b

-- ---- a loop that writes a run byte by byte: what is left to be written makes the whole

-- one turn stores the first byte of what is left
pub sets_turn : (at i b : ℕ) (bs left out whole : List ℕ) → left ≡ b ∷ bs → sets out (at + i) left ≡ whole
    → sets (set out (at + i) b) (at + (i + 1)) bs ≡ whole
sets_turn at i b bs left out whole e h =
    ap (λ (k : ℕ). sets (set out (at + i) b) k bs) (omega arith) ∙ ap (sets out (at + i)) (sym e) ∙ h

-- nothing is left
pub sets_end : (at : ℕ) (left out whole : List ℕ) → left ≡ [] → sets out at left ≡ whole → out ≡ whole
sets_end at left out whole e h = ap (sets out at) (sym e) ∙ h

-- ---- a run with room, and without

module _ (s : List ℕ) (at : ℕ) (l : List ℕ) where
  pub put_inside : at + length l ≤ length s → put s at l ≡ sets s at l
  unfolding put
  put_inside h = rw (le-leb _ _ h)

  pub put_outside : length s < at + length l → put s at l ≡ s
  unfolding put
  put_outside h = rw (lt-leb _ _ h)

pub put_none : (s : List ℕ) (at : ℕ) (l : List ℕ) → length l ≡ 0 → put s at l ≡ s
unfolding put
put_none s at [] h = cond_same (inside s at 0) s
put_none s at (b ∷ l) h = absurd (omega arith)

-- the test and the list where a run of n bytes has no room, and where it has
module _ (s : List ℕ) (at n : ℕ) (l : List ℕ) (e : length l ≡ n) where
  pub put_refused : length s < at + n → (inside s at n ≡ false) × (put s at l ≡ s)
  put_refused h = (lt-leb _ _ h, put_outside s at l (omega arith))

  pub put_done : at + n ≤ length s → (inside s at n ≡ true) × (put s at l ≡ sets s at l)
  put_done h = (le-leb _ _ h, put_inside s at l (omega arith))

pub length_put : (s : List ℕ) (at : ℕ) (l : List ℕ) → length (put s at l) ≡ length s
length_put s at l =
    elim (dec_le (at + length l) (length s)) [
      | yes h ↦ ap length (put_inside s at l h) ∙ length-sets s at l
      | no h ↦ ap length (put_outside s at l (omega arith))
    ]

-- ---- a number that was written is read back

pub read_back : (k v : ℕ) (s : List ℕ) (at : ℕ) → v < 256 ^ k → at + k ≤ length s → le k (sets s at (bytes k v)) at ≡ v
read_back k v s at h l =
    let n : length (take at s) ≡ at = length-take-le at s (omega arith) in
    rw (sets_parts s at (bytes k v) (rw length_bytes l)) (rw n at (le_bytes k v (take at s) (drop (at + length (bytes k v)) s) h))
