-- Two lists side by side, both to their ends, step by step (`Merges`); so the course ends well, and each entry of each list comes once, in its order.
use Rattle.fields.proofs.Base.{◌≡◌, refl, ap, true, List, [], ◌∷◌}
use Rattle.names.specs.Names.{compared}
use Rattle.std.specs.declared.cmp.Ordering.{Ordering}
use Rattle.std.specs.declared.cmp.Ordering.TheVariants.{Less, Equal, Greater}
use Rattle.seek.specs.Seek.{by_order}
use Rattle.tree.specs.Reading.{Held}
use Rattle.compare.specs.Course.{Pair, left, right, both, done, Course, next, held_name, second_alone, against, merged, pairs, ending, firsts, seconds}

-- how the pairs of two lists come about: one constructor for each way on
pub data Merges : List Held → List Held → List Pair → Type 0 where
  none : Merges [] [] []
  only_right : {y : Held} {ys : List Held} {ps : List Pair} → Merges [] ys ps → Merges [] (y ∷ ys) (right y ∷ ps)
  only_left : {x : Held} {xs : List Held} {ps : List Pair} → Merges xs [] ps → Merges (x ∷ xs) [] (left x ∷ ps)
  less : {x y : Held} {xs ys : List Held} {ps : List Pair} → compared (held_name x) (held_name y) ≡ Less → Merges xs (y ∷ ys) ps → Merges (x ∷ xs) (y ∷ ys) (left x ∷ ps)
  equal : {x y : Held} {xs ys : List Held} {ps : List Pair} → compared (held_name x) (held_name y) ≡ Equal → Merges xs ys ps → Merges (x ∷ xs) (y ∷ ys) (both x y ∷ ps)
  greater : {x y : Held} {xs ys : List Held} {ps : List Pair} → compared (held_name x) (held_name y) ≡ Greater → Merges (x ∷ xs) ys ps → Merges (x ∷ xs) (y ∷ ys) (right y ∷ ps)

-- the pairs of a course that ends well
record Well (xs ys : List Held) (c : Course) : Type 0 where
  merges : Merges xs ys (pairs c)
  ends : ending c ≡ done

rest_well : (ys : List Held) → Well [] ys (second_alone true true ys)
unfolding second_alone pairs ending
rest_well [] = record { merges = none; ends = refl }
rest_well (y ∷ ys) = let r = rest_well ys in record { merges = only_right r.merges; ends = r.ends }

against_well : (x : Held) (xs : List Held) (f : List Held → Course) → ((zs : List Held) → Well xs zs (f zs)) → (ys : List Held) → Well (x ∷ xs) ys (against true true x f ys)
unfolding against pairs ending
against_well x xs f h [] = let r = h [] in record { merges = only_left r.merges; ends = r.ends }
against_well x xs f h (y ∷ ys) = go (compared (held_name x) (held_name y)) refl (against_well x xs f h ys)
  where
    go : (o : Ordering) → compared (held_name x) (held_name y) ≡ o → Well (x ∷ xs) ys (against true true x f ys)
        → Well (x ∷ xs) (y ∷ ys) (by_order o (next (left x) (f (y ∷ ys))) (next (both x y) (f ys)) (next (right y) (against true true x f ys)))
    go Less e i = let r = h (y ∷ ys) in record { merges = less e r.merges; ends = r.ends }
    go Equal e i = let r = h ys in record { merges = equal e r.merges; ends = r.ends }
    go Greater e i = record { merges = greater e i.merges; ends = i.ends }

merged_well : (xs ys : List Held) → Well xs ys (merged true true xs ys)
unfolding merged
merged_well [] ys = rest_well ys
merged_well (x ∷ xs) ys = against_well x xs (λ zs. merged true true xs zs) (λ zs. merged_well xs zs) ys

pub merged_merges : (xs ys : List Held) → Merges xs ys (pairs (merged true true xs ys))
merged_merges xs ys = (merged_well xs ys).merges

pub merged_ends : (xs ys : List Held) → ending (merged true true xs ys) ≡ done
merged_ends xs ys = (merged_well xs ys).ends

-- ---- every entry of each list comes

pub merges_first : {xs ys : List Held} {ps : List Pair} → Merges xs ys ps → firsts ps ≡ xs
unfolding firsts
merges_first none = refl
merges_first (only_right m) = merges_first m
merges_first (only_left {x} m) = ap (λ l. x ∷ l) (merges_first m)
merges_first (less {x} e m) = ap (λ l. x ∷ l) (merges_first m)
merges_first (equal {x} e m) = ap (λ l. x ∷ l) (merges_first m)
merges_first (greater e m) = merges_first m

pub merges_second : {xs ys : List Held} {ps : List Pair} → Merges xs ys ps → seconds ps ≡ ys
unfolding seconds
merges_second none = refl
merges_second (only_right {y} m) = ap (λ l. y ∷ l) (merges_second m)
merges_second (only_left m) = merges_second m
merges_second (less e m) = merges_second m
merges_second (equal {x} {y} e m) = ap (λ l. y ∷ l) (merges_second m)
merges_second (greater {x} {y} e m) = ap (λ l. y ∷ l) (merges_second m)
