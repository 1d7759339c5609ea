-- A part of a list that was lent and has come back, and parts that are read back.
use Rattle.fields.proofs.Base.{◌≡◌, sym, ap, ◌∙◌, List, ◌++◌, ℕ, ◌+◌, ◌≤◌, arith, length, take, drop, sets, drop-drop, take_at, drop_at, take-append_seam, length-take-le}
use Rattle.fields.specs.Part.{part}
use Rattle.put.proofs.Put.{sets_parts}

-- the k elements from a on are now ys
pub lent : (a k : ℕ) (xs ys whole : List ℕ) → ys ≡ whole → k ≡ length whole → a + length whole ≤ length xs → take a xs ++ (ys ++ drop k (drop a xs)) ≡ sets xs a whole
lent a k xs ys whole e l h =
    ap (λ (z : List ℕ). take a xs ++ (z ++ drop k (drop a xs))) e
    ∙ ap (λ (m : ℕ). take a xs ++ (whole ++ drop m (drop a xs))) l
    ∙ ap (λ (z : List ℕ). take a xs ++ (whole ++ z)) (drop-drop (length whole) a xs)
    ∙ sym (sets_parts xs a whole h)

-- ---- what is written, and what stands before it

pub written_back : (xs : List ℕ) (at : ℕ) (l : List ℕ) → at + length l ≤ length xs → part (sets xs at l) at (length l) ≡ l
written_back xs at l h =
    let n : length (take at xs) ≡ at = length-take-le at xs (omega arith) in
    ap (λ (y : List ℕ). part y at (length l)) (sets_parts xs at l h)
    ∙ ap (take (length l)) (drop_at (take at xs) (l ++ drop (at + length l) xs) at n)
    ∙ take-append_seam l (drop (at + length l) xs)

pub front_kept : (xs : List ℕ) (at : ℕ) (l : List ℕ) → at + length l ≤ length xs → take at (sets xs at l) ≡ take at xs
front_kept xs at l h =
    ap (take at) (sets_parts xs at l h) ∙ take_at (take at xs) (l ++ drop (at + length l) xs) at (length-take-le at xs (omega arith))
