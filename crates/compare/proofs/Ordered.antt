-- The pairs of two lists that rise: what each is made of, and that their names rise, so that each name comes once.
use Rattle.fields.proofs.Base.{◌≡◌, refl, sym, subst, inl, inr, true, List, [], ◌∷◌}
use Rattle.names.specs.Names.{compared, below}
use Rattle.std.specs.declared.cmp.Ordering.TheVariants.{Equal}
use Rattle.tree.specs.Lists.{In, Each}
use Rattle.tree.specs.Reading.{Held}
use Rattle.compare.specs.Course.{Pair, left, right, both, held_name, pair_name}
use Rattle.compare.specs.Compared.{Ahead}
use Rattle.compare.proofs.Merged.{Merges, none, only_right, only_left, less, equal, greater}
use Rattle.compare.proofs.Stand.{less_all, equal_all, greater_all}

-- ---- what a pair is made of

abbrev pub Parts : List Held → List Held → Pair → Type 0
Parts xs ys (left x) = In x xs
Parts xs ys (right y) = In y ys
Parts xs ys (both x y) = In x xs × In y ys × (compared (held_name x) (held_name y) ≡ Equal)

wider : (xs ys us vs : List Held) → ((h : Held) → In h xs → In h us) → ((k : Held) → In k ys → In k vs) → (p : Pair) → Parts xs ys p → Parts us vs p
wider xs ys us vs f g (left x) m = f x m
wider xs ys us vs f g (right y) m = g y m
wider xs ys us vs f g (both x y) m = (f x m.0, g y m.1, m.2)

pub merges_parts : {xs ys : List Held} {ps : List Pair} → Merges xs ys ps → (p : Pair) → In p ps → Parts xs ys p
merges_parts none p i = absurd i
merges_parts (only_right {y} {ys} m) p (inl q) = subst (Parts [] (y ∷ ys)) (sym q) (inl refl)
merges_parts (only_right {y} {ys} m) p (inr i) = wider [] ys [] (y ∷ ys) (λ h k. k) (λ h k. inr k) p (merges_parts m p i)
merges_parts (only_left {x} {xs} m) p (inl q) = subst (Parts (x ∷ xs) []) (sym q) (inl refl)
merges_parts (only_left {x} {xs} m) p (inr i) = wider xs [] (x ∷ xs) [] (λ h k. inr k) (λ h k. k) p (merges_parts m p i)
merges_parts (less {x} {y} {xs} {ys} e m) p (inl q) = subst (Parts (x ∷ xs) (y ∷ ys)) (sym q) (inl refl)
merges_parts (less {x} {y} {xs} {ys} e m) p (inr i) = wider xs (y ∷ ys) (x ∷ xs) (y ∷ ys) (λ h k. inr k) (λ h k. k) p (merges_parts m p i)
merges_parts (equal {x} {y} {xs} {ys} e m) p (inl q) = subst (Parts (x ∷ xs) (y ∷ ys)) (sym q) (inl refl, inl refl, e)
merges_parts (equal {x} {y} {xs} {ys} e m) p (inr i) = wider xs ys (x ∷ xs) (y ∷ ys) (λ h k. inr k) (λ h k. inr k) p (merges_parts m p i)
merges_parts (greater {x} {y} {xs} {ys} e m) p (inl q) = subst (Parts (x ∷ xs) (y ∷ ys)) (sym q) (inl refl)
merges_parts (greater {x} {y} {xs} {ys} e m) p (inr i) = wider (x ∷ xs) ys (x ∷ xs) (y ∷ ys) (λ h k. k) (λ h k. inr k) p (merges_parts m p i)

-- ---- the order

-- what comes before every entry of both lists comes before every pair
above : (z : Held) {xs ys : List Held} {ps : List Pair} → Merges xs ys ps → ((h : Held) → In h xs → Ahead z h) → ((k : Held) → In k ys → Ahead z k)
    → (p : Pair) → In p ps → below (held_name z) (pair_name p) ≡ true
above z {xs} {ys} m f g p i = go p (merges_parts m p i)
  where
    go : (p : Pair) → Parts xs ys p → below (held_name z) (pair_name p) ≡ true
    go (left x) k = f x k
    go (right y) k = g y k
    go (both x y) k = f x k.0

pub merges_rises : {xs ys : List Held} {ps : List Pair} → Merges xs ys ps → Each Ahead xs → Each Ahead ys → Each (λ p q. below (pair_name p) (pair_name q) ≡ true) ps
merges_rises none a b = tt
merges_rises (only_right {y} m) a b = (above y m (λ h k. absurd k) b.0, merges_rises m tt b.1)
merges_rises (only_left {x} m) a b = (above x m a.0 (λ h k. absurd k), merges_rises m a.1 tt)
merges_rises (less {x} {y} {xs} {ys} e m) a b = (above x m a.0 (less_all x y ys e b.0), merges_rises m a.1 b)
merges_rises (equal {x} {y} {xs} {ys} e m) a b = (above x m a.0 (equal_all x y ys e b.0), merges_rises m a.1 b.1)
merges_rises (greater {x} {y} {xs} {ys} e m) a b = (above y m (greater_all x y xs e a.0) b.0, merges_rises m a b.1)
