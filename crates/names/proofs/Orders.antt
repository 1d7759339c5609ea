-- The laws of comparisons: seen through a function, of numbers, one behind another, of lists. An order that is put together from these has its laws in a line.
use Rattle.fields.proofs.Base.{◌≡◌, refl, sym, ap₂, ◌∙◌, false≢true, List, [], ◌∷◌, ◌++◌, ℕ, ◌<◌, arith, dec_lt, lt-ltb, le-ltb}
use native.Mathlib.Nat.{le_of_lt, le_refl}
use Rattle.names.specs.Order.{by_number, by_element, OrderLaws}
use Rattle.std.specs.Ordering.{ordering_reverse, ordering_then}
use Rattle.std.specs.declared.cmp.Ordering.{Ordering}
use Rattle.std.specs.declared.cmp.Ordering.TheVariants.{Less, Equal, Greater}

-- ---- seen through a function: bytes folded before they are compared

pub through_laws : {A B : Type 0} {compare : B → B → Ordering} → OrderLaws compare → (f : A → B) → OrderLaws (λ (a b : A). compare (f a) (f b))
through_laws L f = record {
  compare_self = λ a. L.compare_self (f a);
  compare_flip = λ a b. L.compare_flip (f a) (f b);
  less_trans = λ a b c. L.less_trans (f a) (f b) (f c);
  equal_left = λ a b c. L.equal_left (f a) (f b) (f c);
}

-- ---- numbers

-- what an answer says of two numbers
abbrev pub Says : Ordering → ℕ → ℕ → Type 0
Says Less x y = x < y
Says Equal x y = x ≡ y
Says Greater x y = y < x

pub says_number : (o : Ordering) (x y : ℕ) → Says o x y → by_number x y ≡ o
unfolding by_number
says_number Less x y h = rw (lt-ltb x y h)
says_number Equal x y h = rw (h, le-ltb y y (le_refl y))
says_number Greater x y h = rw (le-ltb x y (le_of_lt h), lt-ltb y x h)

number_says : (x y : ℕ) → Says (by_number x y) x y
number_says x y =
    elim (dec_lt x y) [
      | yes h ↦ rw (says_number Less x y h) h
      | no h ↦ elim (dec_lt y x) [ yes k ↦ rw (says_number Greater x y k) k | no k ↦ let e : x ≡ y = omega arith in rw (says_number Equal x y e) e ]
    ]

says_flip : (o : Ordering) (x y : ℕ) → Says o x y → Says (ordering_reverse o) y x
says_flip Less x y h = h
says_flip Equal x y h = sym h
says_flip Greater x y h = h

pub numbers_laws : OrderLaws by_number
numbers_laws = record {
  compare_self = λ a. says_number Equal a a refl;
  compare_flip = λ a b. says_number (ordering_reverse (by_number a b)) b a (says_flip (by_number a b) a b (number_says a b));
  less_trans = λ a b c p q. let h = rw p at (number_says a b) in let k = rw q at (number_says b c) in says_number Less a c (omega arith);
  equal_left = λ a b c p. rw (rw p at (number_says a b));
}

-- ---- one comparison behind another

module _ {A : Type 0} {compare : A → A → Ordering} (L : OrderLaws compare) where
  pub equal_right : (a b c : A) → compare a b ≡ Equal → compare c a ≡ compare c b
  equal_right a b c e = rw (L.compare_flip a c, L.equal_left a b c e, L.compare_flip b c)

  pub less_equal : (a b c : A) → compare a b ≡ Less → compare b c ≡ Equal → compare a c ≡ Less
  less_equal a b c p q = sym (equal_right b c a q) ∙ p

then_flip : (o r : Ordering) → ordering_then (ordering_reverse o) (ordering_reverse r) ≡ ordering_reverse (ordering_then o r)
then_flip Less r = refl
then_flip Equal r = refl
then_flip Greater r = refl

then_equal : (o r : Ordering) → ordering_then o r ≡ Equal → (o ≡ Equal) × (r ≡ Equal)
then_equal Less r h = absurd (false≢true (cc))
then_equal Equal r h = (refl, h)
then_equal Greater r h = absurd (false≢true (cc))

module _ {A : Type 0} {compare : A → A → Ordering} (L : OrderLaws compare) (a b c : A) where
  then_trans : (r s t : Ordering) → ordering_then (compare a b) r ≡ Less → ordering_then (compare b c) s ≡ Less → (r ≡ Less → s ≡ Less → t ≡ Less) → ordering_then (compare a c) t ≡ Less
  then_trans r s t p q k = go (compare a b) (compare b c) refl refl p q
    where
      go : (o u : Ordering) → compare a b ≡ o → compare b c ≡ u → ordering_then o r ≡ Less → ordering_then u s ≡ Less → ordering_then (compare a c) t ≡ Less
      go Less Less e f p q = rw (L.less_trans a b c e f)
      go Less Equal e f p q = rw (less_equal L a b c e f)
      go Less Greater e f p q = absurd (false≢true (cc))
      go Equal Less e f p q = rw (L.equal_left a b c e, f)
      go Equal Equal e f p q = rw (L.equal_left a b c e, f) (k p q)
      go Equal Greater e f p q = absurd (false≢true (cc))
      go Greater u e f p q = absurd (false≢true (cc))

-- ---- lists

module _ {A : Type 0} {compare : A → A → Ordering} (L : OrderLaws compare) where
  lists_self : (a : List A) → by_element compare a a ≡ Equal
  unfolding by_element
  lists_self [] = refl
  lists_self (x ∷ xs) = rw (L.compare_self x) (lists_self xs)

  -- what both begin with decides nothing
  pub lists_behind : (p a b : List A) → by_element compare (p ++ a) (p ++ b) ≡ by_element compare a b
  unfolding by_element
  lists_behind [] a b = refl
  lists_behind (x ∷ p) a b = rw (L.compare_self x) (lists_behind p a b)

  lists_flip : (a b : List A) → by_element compare b a ≡ ordering_reverse (by_element compare a b)
  unfolding by_element
  lists_flip [] [] = refl
  lists_flip [] (y ∷ ys) = refl
  lists_flip (x ∷ xs) [] = refl
  lists_flip (x ∷ xs) (y ∷ ys) = ap₂ ordering_then (L.compare_flip x y) (lists_flip xs ys) ∙ then_flip (compare x y) (by_element compare xs ys)

  lists_trans : (a b c : List A) → by_element compare a b ≡ Less → by_element compare b c ≡ Less → by_element compare a c ≡ Less
  unfolding by_element
  lists_trans [] [] c p q = q
  lists_trans [] (y ∷ ys) [] p q = absurd (false≢true (cc))
  lists_trans [] (y ∷ ys) (z ∷ zs) p q = refl
  lists_trans (x ∷ xs) [] c p q = absurd (false≢true (cc))
  lists_trans (x ∷ xs) (y ∷ ys) [] p q = q
  lists_trans (x ∷ xs) (y ∷ ys) (z ∷ zs) p q =
      then_trans L x y z (by_element compare xs ys) (by_element compare ys zs) (by_element compare xs zs) p q (lists_trans xs ys zs)

  lists_equal : (a b c : List A) → by_element compare a b ≡ Equal → by_element compare a c ≡ by_element compare b c
  unfolding by_element
  lists_equal [] [] c p = refl
  lists_equal [] (y ∷ ys) c p = absurd (false≢true (cc))
  lists_equal (x ∷ xs) [] c p = absurd (false≢true (cc))
  lists_equal (x ∷ xs) (y ∷ ys) [] p = refl
  lists_equal (x ∷ xs) (y ∷ ys) (z ∷ zs) p =
      let e = then_equal (compare x y) (by_element compare xs ys) p in
      ap₂ ordering_then (L.equal_left x y z e.0) (lists_equal xs ys zs e.1)

  pub lists_laws : OrderLaws (by_element compare)
  lists_laws = record { compare_self = lists_self; compare_flip = lists_flip; less_trans = lists_trans; equal_left = lists_equal }
