-- How an entry stands to those of a list that rises, by how it stands to the first.
use Rattle.fields.proofs.Base.{◌≡◌, ap, inl, inr, false, List, ◌∷◌}
use Rattle.std.specs.Ordering.{is_eq}
use Rattle.names.specs.Names.{compared, matches}
use Rattle.std.specs.declared.cmp.Ordering.TheVariants.{Less, Equal, Greater}
use Rattle.names.proofs.Laws.{names_laws, flip_less, flip_greater, equal_sym, equal_less, below_less, less_below, below_trans}
use Rattle.tree.specs.Lists.{In}
use Rattle.tree.specs.Reading.{Held}
use Rattle.compare.specs.Course.{held_name}
use Rattle.compare.specs.Compared.{Ahead}

-- names of which one comes before the other do not match
pub ahead_apart : (h k : Held) → Ahead h k → matches (held_name h) (held_name k) ≡ false
unfolding matches
ahead_apart h k a = ap is_eq (below_less (held_name h) (held_name k) a)

pub behind_apart : (h k : Held) → Ahead k h → matches (held_name h) (held_name k) ≡ false
unfolding matches
behind_apart h k a = ap is_eq (flip_less names_laws (held_name k) (held_name h) (below_less (held_name k) (held_name h) a))

module _ (x y : Held) (ks : List Held) where
  -- before the first, so before all
  pub less_all : compared (held_name x) (held_name y) ≡ Less → ((k : Held) → In k ks → Ahead y k) → (k : Held) → In k (y ∷ ks) → Ahead x k
  less_all e r k (inl q) = rw q (less_below (held_name x) (held_name y) e)
  less_all e r k (inr m) = below_trans (held_name x) (held_name y) (held_name k) (less_below (held_name x) (held_name y) e) (r k m)

  -- equal to the first, so before the others
  pub equal_all : compared (held_name x) (held_name y) ≡ Equal → ((k : Held) → In k ks → Ahead y k) → (k : Held) → In k ks → Ahead x k
  equal_all e r k m =
      less_below (held_name x) (held_name k) (equal_less names_laws (held_name x) (held_name y) (held_name k) e (below_less (held_name y) (held_name k) (r k m)))

-- the same from the other side
pub greater_all : (x y : Held) (hs : List Held) → compared (held_name x) (held_name y) ≡ Greater → ((h : Held) → In h hs → Ahead x h) → (h : Held) → In h (x ∷ hs) → Ahead y h
greater_all x y hs e r = less_all y x hs (flip_greater names_laws (held_name x) (held_name y) e) r

pub equal_back : (x y : Held) (hs : List Held) → compared (held_name x) (held_name y) ≡ Equal → ((h : Held) → In h hs → Ahead x h) → (h : Held) → In h hs → Ahead y h
equal_back x y hs e r = equal_all y x hs (equal_sym names_laws (held_name x) (held_name y) e) r
