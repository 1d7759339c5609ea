-- Laws of the order of names, and what follows from the laws of any order.
use Rattle.fields.proofs.Base.{◌≡◌, refl, ap, ◌∙◌, ◌≢◌, ◌⊎◌, inl, inr, ⊎_elim, Bool, true, false, false≢true, List, [], ◌∷◌, ◌++◌, ℕ}
use Rattle.names.specs.Order.{by_element, OrderLaws}
use Rattle.std.specs.Ordering.{ordering_reverse, is_lt, is_eq}
use Rattle.names.specs.Names.{folded, compared, below, matches}
use Rattle.std.specs.declared.cmp.Ordering.{Ordering}
use Rattle.std.specs.declared.cmp.Ordering.TheVariants.{Less, Equal, Greater}
use Rattle.names.proofs.Orders.{through_laws, numbers_laws, lists_behind, lists_laws}
pub use Rattle.names.proofs.Orders.{equal_right, less_equal}

pub names_laws : OrderLaws compared
unfolding compared
names_laws = lists_laws (through_laws numbers_laws folded)

-- names that begin alike compare as what is behind does
pub compared_behind : (p a b : List ℕ) → compared (p ++ a) (p ++ b) ≡ compared a b
unfolding compared
compared_behind p a b = lists_behind (through_laws numbers_laws folded) p a b

-- not behind
abbrev pub not_greater : Ordering → Bool
not_greater Less = true
not_greater Equal = true
not_greater Greater = false

-- ---- a test of an answer tells the answer; the other way round is `ap is_lt`, `ap is_eq`, `ap not_greater`

pub is_less_true : (o : Ordering) → is_lt o ≡ true → o ≡ Less
is_less_true Less h = refl
is_less_true Equal h = absurd (false≢true h)
is_less_true Greater h = absurd (false≢true h)

pub is_equal_true : (o : Ordering) → is_eq o ≡ true → o ≡ Equal
is_equal_true Less h = absurd (false≢true h)
is_equal_true Equal h = refl
is_equal_true Greater h = absurd (false≢true h)

pub not_greater_true : (o : Ordering) → not_greater o ≡ true → (o ≡ Less) ⊎ (o ≡ Equal)
not_greater_true Less h = inl refl
not_greater_true Equal h = inr refl
not_greater_true Greater h = absurd (false≢true h)

not_less_flip : (o : Ordering) → o ≢ Less → not_greater (ordering_reverse o) ≡ true
not_less_flip Less h = absurd (h refl)
not_less_flip Equal h = refl
not_less_flip Greater h = refl

-- ---- any order

module _ {A : Type 0} {compare : A → A → Ordering} (L : OrderLaws compare) where
  -- the other way round
  pub equal_sym : (a b : A) → compare a b ≡ Equal → compare b a ≡ Equal
  equal_sym a b p = rw (L.compare_flip a b, p)

  pub flip_less : (a b : A) → compare a b ≡ Less → compare b a ≡ Greater
  flip_less a b p = rw (L.compare_flip a b, p)

  pub flip_greater : (a b : A) → compare a b ≡ Greater → compare b a ≡ Less
  flip_greater a b p = rw (L.compare_flip a b, p)

  pub not_less : (a b : A) → compare a b ≢ Less → not_greater (compare b a) ≡ true
  not_less a b h = rw (L.compare_flip a b) (not_less_flip (compare a b) h)

  pub equal_less : (a b c : A) → compare a b ≡ Equal → compare b c ≡ Less → compare a c ≡ Less
  equal_less a b c p q = L.equal_left a b c p ∙ q

  pub less_not_greater : (a b c : A) → compare a b ≡ Less → not_greater (compare b c) ≡ true → compare a c ≡ Less
  less_not_greater a b c p h = ⊎_elim (L.less_trans a b c p) (less_equal L a b c p) (not_greater_true (compare b c) h)

  pub not_greater_less : (a b c : A) → not_greater (compare a b) ≡ true → compare b c ≡ Less → compare a c ≡ Less
  not_greater_less a b c h q = ⊎_elim (λ e. L.less_trans a b c e q) (λ e. equal_less a b c e q) (not_greater_true (compare a b) h)

-- ---- the tests of names

module _ (a b : List ℕ) where
  pub below_less : below a b ≡ true → compared a b ≡ Less
  unfolding below
  below_less h = is_less_true (compared a b) h

  pub less_below : compared a b ≡ Less → below a b ≡ true
  unfolding below
  less_below h = ap is_lt h

  pub matches_equal : matches a b ≡ true → compared a b ≡ Equal
  unfolding matches
  matches_equal h = is_equal_true (compared a b) h

  pub equal_matches : compared a b ≡ Equal → matches a b ≡ true
  unfolding matches
  equal_matches h = ap is_eq h

pub below_trans : (a b c : List ℕ) → below a b ≡ true → below b c ≡ true → below a c ≡ true
below_trans a b c h k = less_below a c (names_laws.less_trans a b c (below_less a b h) (below_less b c k))

pub below_self : (a : List ℕ) → below a a ≡ false
unfolding below
below_self a = ap is_lt (names_laws.compare_self a)

-- no bytes come before any name
pub below_none : (x : ℕ) (a : List ℕ) → below [] (x ∷ a) ≡ true
unfolding below compared by_element
below_none x a = refl
