-- Laws of `same` and `stands_at`: the tests mean equality.
use Rattle.fields.proofs.Base.{◌≡◌, refl, ap, ap₂, ◌∙◌, true, false, ◌&&◌, List, [], ◌∷◌, ℕ, ◌+◌, ◌≤◌, ◌<◌, eqb, length, eqb-true, eq-eqb, le-leb, lt-leb, leb-true}
use lib.Pointwise.{pointwise}
use Rattle.fields.specs.Part.{part}
use Rattle.fields.specs.Same.{same, stands_at}
use Rattle.fields.proofs.Tests.{never, and_both}

-- lists that pass the test are equal
pub same_true : (a b : List ℕ) → same a b ≡ true → a ≡ b
unfolding same
same_true [] [] e = refl
same_true [] (y ∷ b) e = never e
same_true (x ∷ a) [] e = never e
same_true (x ∷ a) (y ∷ b) e = let t = and_both (eqb x y) (same a b) e in ap₂ ◌∷◌ (eqb-true x y t.0) (same_true a b t.1)

-- a list passes the test with itself
pub same_self : (a : List ℕ) → same a a ≡ true
unfolding same
same_self [] = refl
same_self (x ∷ a) = rw (eq-eqb x x refl, same_self a)

-- it is what `==` of slices answers
pub same_pointwise : (a b : List ℕ) → same a b ≡ pointwise eqb a b
unfolding same
same_pointwise [] [] = refl
same_pointwise [] (y ∷ b) = refl
same_pointwise (x ∷ a) [] = refl
same_pointwise (x ∷ a) (y ∷ b) = ap (λ t. eqb x y && t) (same_pointwise a b)

-- ---- bytes that stand at a place

module _ (s : List ℕ) (at : ℕ) (c : List ℕ) where
  pub stands_inside : at + length c ≤ length s → stands_at s at c ≡ same (part s at (length c)) c
  unfolding stands_at
  stands_inside h = rw (le-leb _ _ h)

  pub stands_outside : length s < at + length c → stands_at s at c ≡ false
  unfolding stands_at
  stands_outside h = rw (lt-leb _ _ h)

  -- the test means that they lie inside s, and are that part of it
  pub stands_true : stands_at s at c ≡ true → (at + length c ≤ length s) × (part s at (length c) ≡ c)
  unfolding stands_at
  stands_true e =
      let t = and_both _ (same (part s at (length c)) c) e in
      (leb-true _ _ t.0, same_true (part s at (length c)) c t.1)

  pub stands_part : at + length c ≤ length s → part s at (length c) ≡ c → stands_at s at c ≡ true
  stands_part h e = stands_inside h ∙ rw e (same_self c)
