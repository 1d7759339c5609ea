-- A three-way comparison, the laws that hold of an order, and ways to put a comparison together from others.
-- Everything above this crate uses of the order of names only its `OrderLaws`: to exchange the order, prove them of the new comparison.
use Rattle.std.specs.Prelude.{◌≡◌, cond, List, [], ◌∷◌, ℕ, ltb}
use Rattle.std.specs.Ordering.{ordering_reverse, ordering_then}
use Rattle.std.specs.declared.cmp.Ordering.{Ordering}
use Rattle.std.specs.declared.cmp.Ordering.TheVariants.{Less, Equal, Greater}

-- ---- comparisons put together

-- numbers by size
unfoldable pub by_number : ℕ → ℕ → Ordering
by_number x y = cond (ltb x y) Less (cond (ltb y x) Greater Equal)

-- lists element by element; a proper beginning comes first
unfoldable pub by_element : {A : Type 0} → (A → A → Ordering) → List A → List A → Ordering
by_element compare [] [] = Equal
by_element compare [] (y ∷ ys) = Less
by_element compare (x ∷ xs) [] = Greater
by_element compare (x ∷ xs) (y ∷ ys) = ordering_then (compare x y) (by_element compare xs ys)

-- ---- the laws; that `Equal` is reflexive, symmetric and transitive follows from these four

pub record OrderLaws {A : Type 0} (compare : A → A → Ordering) : Type 0 where
  pub compare_self : (a : A) → compare a a ≡ Equal
  pub compare_flip : (a b : A) → compare b a ≡ ordering_reverse (compare a b)
  pub less_trans : (a b c : A) → compare a b ≡ Less → compare b c ≡ Less → compare a c ≡ Less
  pub equal_left : (a b c : A) → compare a b ≡ Equal → compare a c ≡ compare b c
