-- Which pair a name is in, in two lists that rise: only in the first where the second lacks it, only in the second where the first does, in both where both have it.
use Rattle.fields.proofs.Base.{◌≡◌, refl, sym, ap, ap₂, ◌∙◌, inl, inr, ⊎_elim, true, false, List, [], ◌∷◌, ℕ, arith}
use Rattle.fields.proofs.Tests.{never}
use Rattle.names.specs.Names.{matches}
use Rattle.names.proofs.Laws.{equal_matches}
use Rattle.tree.specs.Lists.{In, Each}
use Rattle.tree.specs.Reading.{Held}
use Rattle.tree.proofs.Lists.{on_test}
use Rattle.compare.specs.Course.{Pair, left, right, both, held_name, is_same, differences}
use Rattle.compare.specs.Compared.{Ahead, PairsRight}
use Rattle.compare.proofs.Merged.{Merges, none, only_right, only_left, less, equal, greater, merges_first, merges_second}
use Rattle.compare.proofs.Stand.{ahead_apart, behind_apart, less_all, equal_all, greater_all, equal_back}
use Rattle.compare.proofs.Ordered.{merges_parts, merges_rises}

-- pairs of different kinds
left_right : {P : Type 0} (x y : Held) → left x ≡ right y → P
left_right x y q = absurd (let z : ◌≡◌ {A = ℕ} 0 1 = cc in omega arith)

left_both : {P : Type 0} (h x y : Held) → left h ≡ both x y → P
left_both h x y q = absurd (let z : ◌≡◌ {A = ℕ} 0 1 = cc in omega arith)

right_left : {P : Type 0} (x y : Held) → right x ≡ left y → P
right_left x y q = absurd (let z : ◌≡◌ {A = ℕ} 0 1 = cc in omega arith)

right_both : {P : Type 0} (h x y : Held) → right h ≡ both x y → P
right_both h x y q = absurd (let z : ◌≡◌ {A = ℕ} 0 1 = cc in omega arith)

left_same : (h x : Held) → left h ≡ left x → h ≡ x
left_same h x q = cc

right_same : (h x : Held) → right h ≡ right x → h ≡ x
right_same h x q = cc

-- names that match and do not
apart : {P : Type 0} (h k : Held) → matches (held_name h) (held_name k) ≡ true → matches (held_name h) (held_name k) ≡ false → P
apart h k t f = never (sym f ∙ t)

-- ---- only in the first

first_lacks : {xs ys : List Held} {ps : List Pair} → Merges xs ys ps → Each Ahead xs → Each Ahead ys → (h : Held) → In (left h) ps → (k : Held) → In k ys
    → matches (held_name h) (held_name k) ≡ false
first_lacks none a b h i k j = absurd i
first_lacks (only_right {y} m) a b h (inl q) k j = left_right h y q
first_lacks (only_right m) a b h (inr i) k j = absurd (merges_parts m (left h) i)
first_lacks (only_left m) a b h i k j = absurd j
first_lacks (less {x} {y} {xs} {ys} e m) a b h (inl q) k j = rw (left_same h x q) (ahead_apart x k (less_all x y ys e b.0 k j))
first_lacks (less e m) a b h (inr i) k j = first_lacks m a.1 b h i k j
first_lacks (equal {x} {y} e m) a b h (inl q) k j = left_both h x y q
first_lacks (equal {x} {y} {xs} e m) a b h (inr i) k (inl q) = rw q (behind_apart h y (equal_back x y xs e a.0 h (merges_parts m (left h) i)))
first_lacks (equal e m) a b h (inr i) k (inr j) = first_lacks m a.1 b.1 h i k j
first_lacks (greater {x} {y} e m) a b h (inl q) k j = left_right h y q
first_lacks (greater {x} {y} {xs} e m) a b h (inr i) k (inl q) = rw q (behind_apart h y (greater_all x y xs e a.0 h (merges_parts m (left h) i)))
first_lacks (greater e m) a b h (inr i) k (inr j) = first_lacks m a b.1 h i k j

first_only : {xs ys : List Held} {ps : List Pair} → Merges xs ys ps → (h : Held) → In h xs → ((k : Held) → In k ys → matches (held_name h) (held_name k) ≡ false) → In (left h) ps
first_only none h i f = absurd i
first_only (only_right m) h i f = absurd i
first_only (only_left m) h (inl q) f = inl (ap left q)
first_only (only_left m) h (inr i) f = inr (first_only m h i f)
first_only (less e m) h (inl q) f = inl (ap left q)
first_only (less e m) h (inr i) f = inr (first_only m h i f)
first_only (equal {x} {y} e m) h (inl q) f = apart x y (equal_matches (held_name x) (held_name y) e) (rw q at (f y (inl refl)))
first_only (equal e m) h (inr i) f = inr (first_only m h i (λ k j. f k (inr j)))
first_only (greater e m) h i f = inr (first_only m h i (λ k j. f k (inr j)))

-- ---- only in the second

second_lacks : {xs ys : List Held} {ps : List Pair} → Merges xs ys ps → Each Ahead xs → Each Ahead ys → (k : Held) → In (right k) ps → (h : Held) → In h xs
    → matches (held_name h) (held_name k) ≡ false
second_lacks none a b k i h j = absurd i
second_lacks (only_right m) a b k i h j = absurd j
second_lacks (only_left {x} m) a b k (inl q) h j = right_left k x q
second_lacks (only_left m) a b k (inr i) h j = absurd (merges_parts m (right k) i)
second_lacks (less {x} e m) a b k (inl q) h j = right_left k x q
second_lacks (less {x} {y} {xs} {ys} e m) a b k (inr i) h (inl q) = rw q (ahead_apart x k (less_all x y ys e b.0 k (merges_parts m (right k) i)))
second_lacks (less e m) a b k (inr i) h (inr j) = second_lacks m a.1 b k i h j
second_lacks (equal {x} {y} e m) a b k (inl q) h j = right_both k x y q
second_lacks (equal {x} {y} {xs} {ys} e m) a b k (inr i) h (inl q) = rw q (ahead_apart x k (equal_all x y ys e b.0 k (merges_parts m (right k) i)))
second_lacks (equal e m) a b k (inr i) h (inr j) = second_lacks m a.1 b.1 k i h j
second_lacks (greater {x} {y} {xs} e m) a b k (inl q) h j = rw (right_same k y q) (behind_apart h y (greater_all x y xs e a.0 h j))
second_lacks (greater e m) a b k (inr i) h j = second_lacks m a b.1 k i h j

second_only : {xs ys : List Held} {ps : List Pair} → Merges xs ys ps → (k : Held) → In k ys → ((h : Held) → In h xs → matches (held_name h) (held_name k) ≡ false) → In (right k) ps
second_only none k i f = absurd i
second_only (only_right m) k (inl q) f = inl (ap right q)
second_only (only_right m) k (inr i) f = inr (second_only m k i f)
second_only (only_left m) k i f = absurd i
second_only (less e m) k i f = inr (second_only m k i (λ h j. f h (inr j)))
second_only (equal {x} {y} e m) k (inl q) f = apart x y (equal_matches (held_name x) (held_name y) e) (rw q at (f x (inl refl)))
second_only (equal e m) k (inr i) f = inr (second_only m k i (λ h j. f h (inr j)))
second_only (greater e m) k (inl q) f = inl (ap right q)
second_only (greater e m) k (inr i) f = inr (second_only m k i f)

-- ---- in both

both_there : {xs ys : List Held} {ps : List Pair} → Merges xs ys ps → Each Ahead xs → Each Ahead ys → (h k : Held) → In h xs → In k ys
    → matches (held_name h) (held_name k) ≡ true → In (both h k) ps
both_there none a b h k i j t = absurd i
both_there (only_right m) a b h k i j t = absurd i
both_there (only_left m) a b h k i j t = absurd j
both_there (less {x} {y} {xs} {ys} e m) a b h k (inl q) j t = apart x k (rw q at t) (ahead_apart x k (less_all x y ys e b.0 k j))
both_there (less e m) a b h k (inr i) j t = inr (both_there m a.1 b h k i j t)
both_there (equal e m) a b h k (inl q) (inl r) t = inl (ap₂ both q r)
both_there (equal {x} {y} {xs} {ys} e m) a b h k (inl q) (inr j) t = apart x k (rw q at t) (ahead_apart x k (equal_all x y ys e b.0 k j))
both_there (equal {x} {y} {xs} e m) a b h k (inr i) (inl r) t = apart h y (rw r at t) (behind_apart h y (equal_back x y xs e a.0 h i))
both_there (equal e m) a b h k (inr i) (inr j) t = inr (both_there m a.1 b.1 h k i j t)
both_there (greater {x} {y} {xs} e m) a b h k i (inl r) t = apart h y (rw r at t) (behind_apart h y (greater_all x y xs e a.0 h i))
both_there (greater e m) a b h k i (inr j) t = inr (both_there m a b.1 h k i j t)

-- ---- differences

difference_in : (ps : List Pair) (p : Pair) → In p (differences ps) → In p ps × (is_same p ≡ false)
unfolding differences
difference_in [] p = λ i. absurd i
difference_in (q ∷ ps) p =
    on_test (is_same q)
    (λ t. rw t (λ i. let r = difference_in ps p i in (inr r.0, r.1)))
    (λ t. rw t (λ i. ⊎_elim (λ e. (inl e, rw e t)) (λ j. let r = difference_in ps p j in (inr r.0, r.1)) i))

in_difference : (ps : List Pair) (p : Pair) → In p ps → is_same p ≡ false → In p (differences ps)
unfolding differences
in_difference [] p i f = elim i [ ]
in_difference (q ∷ ps) p (inl e) f = let g : is_same q ≡ false = rw e at f in rw g (inl e)
in_difference (q ∷ ps) p (inr i) f = on_test (is_same q) (λ t. rw t (in_difference ps p i f)) (λ t. rw t (inr (in_difference ps p i f)))

pub merges_right : {xs ys : List Held} {ps : List Pair} → Merges xs ys ps → Each Ahead xs → Each Ahead ys → PairsRight xs ys ps
merges_right {xs} {ys} {ps} m a b =
    record {
      first_all = merges_first m;
      second_all = merges_second m;
      rises = merges_rises m a b;
      only_first_iff = λ h. ((λ i. (merges_parts m (left h) i, first_lacks m a b h i)), (λ k. first_only m h k.0 k.1));
      only_second_iff = λ k. ((λ i. (merges_parts m (right k) i, second_lacks m a b k i)), (λ h. second_only m k h.0 h.1));
      both_iff = λ h k. (
        (λ i. let r = merges_parts m (both h k) i in (r.0, r.1, equal_matches (held_name h) (held_name k) r.2)),
        (λ r. both_there m a b h k r.0 r.1 r.2),
      );
      difference_iff = λ p. ((λ i. difference_in ps p i), (λ r. in_difference ps p r.0 r.1));
    }
