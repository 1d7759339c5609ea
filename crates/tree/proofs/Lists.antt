-- Laws of the tests and lists that chain, tree and descent share: members, lists put together, pairs of a list.
use Rattle.fields.proofs.Base.{◌≡◌, refl, sym, ap, ◌∙◌, ◌⊎◌, inl, inr, ⊎_elim, Bool, true, false, not, ◌||◌, List, [], ◌∷◌, ◌++◌, map, flat_map, ℕ, zero, suc, ◌<◌, arith, eqb, length, eqb-true, eqb-false}
use Rattle.fields.proofs.Tests.{never, and_both}
use Rattle.fields.proofs.Lists.{flat_append}
use Rattle.tree.specs.Lists.{In, Each, all_of, member, every_below}

-- ---- tests

-- go by the two cases of a test, and keep the equation
pub on_test : {P : Type 0} (b : Bool) → (b ≡ true → P) → (b ≡ false → P) → P
on_test true f g = f refl
on_test false f g = g refl

-- two tests that hold together are one
pub same_test : (a b : Bool) → (a ≡ true → b ≡ true) → (b ≡ true → a ≡ true) → a ≡ b
same_test true b f g = sym (f refl)
same_test false true f g = g refl
same_test false false f g = refl

-- an implication as a test
pub implied : (a b : Bool) → (not a || b) ≡ true → a ≡ true → b ≡ true
implied true b e p = e
implied false b e p = never p

pub implied_by : (a b : Bool) → (a ≡ true → b ≡ true) → (not a || b) ≡ true
implied_by true b f = f refl
implied_by false b f = refl

pub every_below_lem : (n : ℕ) (p : ℕ → Bool) → every_below n p ≡ true → (c : ℕ) → c < n → p c ≡ true
every_below_lem zero p h c l = absurd (omega arith)
every_below_lem (suc n) p h c l =
    let t = and_both _ _ h in
    on_test (eqb c n)
    (λ e. rw (eqb-true c n e) t.1)
    (λ e. every_below_lem n p t.0 c (let d : ¬ (c ≡ n) = eqb-false c n e in omega arith))

pub below_every : (n : ℕ) (p : ℕ → Bool) → ((c : ℕ) → c < n → p c ≡ true) → every_below n p ≡ true
below_every zero p h = refl
below_every (suc n) p h = rw (below_every n p (λ c l. h c (omega arith)), h n (omega arith))

-- ---- members

module _ {A : Type 0} where
  pub all_more : (p : A → Bool) (x : A) (xs : List A) → all_of p (x ∷ xs) ≡ true → (p x ≡ true) × (all_of p xs ≡ true)
  all_more p x xs h = and_both _ _ h

  pub all_in : (p : A → Bool) (xs : List A) → all_of p xs ≡ true → (x : A) → In x xs → p x ≡ true
  all_in p [] h x m = elim m [ ]
  all_in p (y ∷ ys) h x (inl e) = rw e (all_more p y ys h).0
  all_in p (y ∷ ys) h x (inr m) = all_in p ys (all_more p y ys h).1 x m

  pub in_left : (xs ys : List A) (x : A) → In x xs → In x (xs ++ ys)
  in_left [] ys x m = elim m [ ]
  in_left (z ∷ zs) ys x (inl e) = inl e
  in_left (z ∷ zs) ys x (inr m) = inr (in_left zs ys x m)

  pub in_right : (xs ys : List A) (x : A) → In x ys → In x (xs ++ ys)
  in_right [] ys x m = m
  in_right (z ∷ zs) ys x m = inr (in_right zs ys x m)

  pub in_append : (xs ys : List A) (x : A) → In x (xs ++ ys) → In x xs ⊎ In x ys
  in_append [] ys x m = inr m
  in_append (z ∷ zs) ys x (inl e) = inl (inl e)
  in_append (z ∷ zs) ys x (inr m) = ⊎_elim (λ k. inl (inr k)) (λ k. inr k) (in_append zs ys x m)

  -- a list that is not empty begins with something
  pub first_of : (xs : List A) → 0 < length xs → (x : A) × (ys : List A) × (xs ≡ x ∷ ys)
  first_of [] h = absurd (omega arith)
  first_of (x ∷ xs) h = (x, xs, refl)

pub member_in : (n : ℕ) (l : List ℕ) → member n l ≡ true → In n l
member_in n [] h = never h
member_in n (x ∷ xs) h = on_test (eqb n x) (λ e. inl (eqb-true n x e)) (λ e. inr (member_in n xs (rw e at h)))

-- ---- lists put together

module _ {A B : Type 0} where
  pub in_map : (f : A → B) (xs : List A) (x : A) → In x xs → In (f x) (map f xs)
  in_map f [] x m = elim m [ ]
  in_map f (y ∷ xs) x (inl q) = inl (ap f q)
  in_map f (y ∷ xs) x (inr m) = inr (in_map f xs x m)

  pub in_flat : (f : A → List B) (xs : List A) (x : A) (y : B) → In x xs → In y (f x) → In y (flat_map f xs)
  unfolding flat_map
  in_flat f [] x y k m = elim k [ ]
  in_flat f (z ∷ zs) x y (inl e) m = in_left (f z) (flat_map f zs) y (rw e at m)
  in_flat f (z ∷ zs) x y (inr k) m = in_right (f z) (flat_map f zs) y (in_flat f zs x y k m)

  pub flat_in : (f : A → List B) (xs : List A) (y : B) → In y (flat_map f xs) → (x : A) × In x xs × In y (f x)
  unfolding flat_map
  flat_in f [] y m = elim m [ ]
  flat_in f (z ∷ zs) y m =
      ⊎_elim (λ k. (z, inl refl, k)) (λ k. let r = flat_in f zs y k in (r.0, inr r.1, r.2)) (in_append (f z) (flat_map f zs) y m)

pub flat_flat : {A B C : Type 0} (g : B → List C) (f : A → List B) (xs : List A) → flat_map g (flat_map f xs) ≡ flat_map (λ x. flat_map g (f x)) xs
unfolding flat_map
flat_flat g f [] = refl
flat_flat g f (x ∷ xs) = flat_append g (f x) (flat_map f xs) ∙ ap (λ l. flat_map g (f x) ++ l) (flat_flat g f xs)

-- ---- pairs of a list

module _ {A : Type 0} (R : A → A → Type 0) where
  pub each_left : (xs ys : List A) → Each R (xs ++ ys) → Each R xs
  each_left [] ys r = tt
  each_left (x ∷ xs) ys r = ((λ y m. r.0 y (in_left xs ys y m)), each_left xs ys r.1)

  pub each_right : (xs ys : List A) → Each R (xs ++ ys) → Each R ys
  each_right [] ys r = r
  each_right (x ∷ xs) ys r = each_right xs ys r.1

  -- one of the first list, one of the second
  pub each_apart : (xs ys : List A) → Each R (xs ++ ys) → (x y : A) → In x xs → In y ys → R x y
  each_apart [] ys r x y k m = elim k [ ]
  each_apart (z ∷ zs) ys r x y (inl e) m = rw e (r.0 y (in_right zs ys y m))
  each_apart (z ∷ zs) ys r x y (inr k) m = each_apart zs ys r.1 x y k m

  pub each_append : (xs ys : List A) → Each R xs → Each R ys → ((x y : A) → In x xs → In y ys → R x y) → Each R (xs ++ ys)
  each_append [] ys r s f = s
  each_append (x ∷ xs) ys r s f =
      ((λ y m. ⊎_elim (r.0 y) (f x y (inl refl)) (in_append xs ys y m)), each_append xs ys r.1 s (λ z y k m. f z y (inr k) m))

  -- one of several lists
  pub each_of : {B : Type 0} (f : B → List A) (xs : List B) → Each R (flat_map f xs) → (x : B) → In x xs → Each R (f x)
  unfolding flat_map
  each_of {B = B} f [] r x m = elim m [ ]
  each_of f (z ∷ zs) r x (inl e) = rw e (each_left (f z) (flat_map f zs) r)
  each_of f (z ∷ zs) r x (inr m) = each_of f zs (each_right (f z) (flat_map f zs) r) x m
