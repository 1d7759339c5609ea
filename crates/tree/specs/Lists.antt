-- Lists and tests that the definitions of chain, tree and descent share.
use Rattle.std.specs.Prelude.{◌≡◌, ◌⊎◌, ◌≢◌, Bool, true, false, ◌&&◌, ◌||◌, List, [], ◌∷◌, ℕ, zero, suc, eqb}

module _ {A : Type 0} where
  -- a stands in the list
  abbrev pub In : A → List A → Type 0
  In a [] = ⊥
  In a (x ∷ xs) = (a ≡ x) ⊎ In a xs

  -- each element stands in R to every one behind it
  abbrev pub Each : (A → A → Type 0) → List A → Type 0
  Each R [] = Unit {0}
  Each R (x ∷ xs) = ((y : A) → In y xs → R x y) × Each R xs

  -- no element stands in the list twice
  abbrev pub Distinct : List A → Type 0
  Distinct xs = Each (λ x y. x ≢ y) xs

  -- every element passes the test
  abbrev pub all_of : (A → Bool) → List A → Bool
  all_of p [] = true
  all_of p (x ∷ xs) = p x && all_of p xs

-- n is one of the numbers
abbrev pub member : ℕ → List ℕ → Bool
member n [] = false
member n (x ∷ xs) = eqb n x || member n xs

-- every number below n passes the test
abbrev pub every_below : ℕ → (ℕ → Bool) → Bool
every_below zero p = true
every_below (suc n) p = every_below n p && p n
