-- Names that compare equal stand alike to others. This is the only place above the search in a chunk where the tests of names are opened, and of the
-- order only its laws are used.
use Rattle.fields.proofs.Base.{◌≡◌, ap, true, false, List, ℕ}
use Rattle.std.specs.Ordering.{is_lt, is_eq}
use Rattle.names.specs.Names.{compared, below, matches}
use Rattle.std.specs.declared.cmp.Ordering.TheVariants.{Greater}
use Rattle.names.proofs.Laws.{names_laws, flip_less, equal_sym, less_equal, equal_less, below_less, less_below, matches_equal}

module _ (name a : List ℕ) (k : matches name a ≡ true) where
  -- a name is not below its equal
  pub equal_self : below name a ≡ false
  unfolding below
  equal_self = ap is_lt (matches_equal name a k)

  -- it is below what its equal is below
  pub equal_below : (b : List ℕ) → below a b ≡ true → below name b ≡ true
  equal_below b h = less_below name b (equal_less names_laws name a b (matches_equal name a k) (below_less a b h))

  -- what comes before its equal comes before it,
  before : (b : List ℕ) → below b a ≡ true → compared name b ≡ Greater
  before b h = flip_less names_laws b name (less_equal names_laws b a name (below_less b a h) (equal_sym names_laws name a (matches_equal name a k)))

  -- so it is not below that, nor equal to it
  pub equal_above : (b : List ℕ) → below b a ≡ true → below name b ≡ false
  unfolding below
  equal_above b h = ap is_lt (before b h)

  pub before_equal : (b : List ℕ) → below b a ≡ true → matches name b ≡ false
  unfolding matches
  before_equal b h = ap is_eq (before b h)
