-- What one turn of a search over a chunk's bytes finds, with `left` entries left and the next at a place.
use Rattle.fields.proofs.Base.{◌≡◌, refl, sym, ap, ◌∙◌, List, ℕ, zero, suc, ◌+◌, ◌-◌, ◌≤◌, ◌<◌, arith, length, Option, Some, None, none-some, same_Some}
use Rattle.std.specs.declared.cmp.Ordering.{Ordering}
use Rattle.std.specs.declared.cmp.Ordering.TheVariants.{Less, Equal, Greater}
use Rattle.fields.specs.Part.{part}
use Rattle.entries.specs.Entry.{name_at, index_at, item_at, name_of, with_item}
use Rattle.entries.specs.declared.Limits.{Limits}
use Rattle.entries.specs.declared.Place.{Place}
use Rattle.entries.proofs.Laws.{item_inside, item_named, item_unnamed}
use Rattle.entries.specs.declared.Kind.TheVariants.{Listing, Index}
use Rattle.quickref.proofs.Steps.{some_left, none_left}
use Rattle.halving.specs.Halving.{Stand}
use Rattle.seek.specs.Seek.{by_order, find_at, choose_at, child_of}
use Rattle.seek.specs.Count.{compared_at, walked}
use Rattle.seek.specs.declared.Searched.{Searched}

-- a hit beside a count
abbrev beside : Option Place → ℕ → Searched (Option Place)
beside h n = record { answer = h; count = n }

no_more : (h : Option Place) (count : ℕ) → beside h (count + 0) ≡ beside h count
no_more h count = let z : count + 0 ≡ count = omega arith in ap (beside h) z

one_more : (h : Option Place) (count n m : ℕ) → count + 1 ≡ m → beside h (count + suc n) ≡ beside h (m + n)
one_more h count n m q = let z : count + suc n ≡ m + n = omega (arith, q) in ap (beside h) z

-- what a search comes to that compared `count` names before
module _ (limits : Limits) (s : List ℕ) (stand : Stand) where
  abbrev pub find_from : ℕ → ℕ → ℕ → Searched (Option Place)
  find_from count left at = record { answer = find_at limits s stand left at; count = count + walked limits Listing s stand left at }

  abbrev pub choose_from : Option Place → ℕ → ℕ → ℕ → Searched (Option Place)
  choose_from best count left at = record { answer = choose_at limits s stand best left at; count = count + walked limits Index s stand left at }

  -- ---- the entry of a name

  module _ (count left at : ℕ) where
    pub find_end : left ≤ 0 → find_from count left at ≡ record { answer = None; count = count }
    unfolding find_at walked
    find_end h = none_left (λ n. find_from count n at) left h ∙ no_more None count

    pub find_bad : 0 < left → item_at limits Listing s at ≡ None → find_from count left at ≡ record { answer = None; count = count }
    unfolding find_at walked compared_at
    find_bad h g = some_left (λ n. find_from count n at) left h ∙ rw g (no_more None count)

    module _ (e : Place) (h : 0 < left) (g : item_at limits Listing s at ≡ Some e) (more : ℕ) (q : count + 1 ≡ more) where
      pub find_above : stand (name_of s e) ≡ Less → find_from count left at ≡ record { answer = None; count = more }
      unfolding find_at walked compared_at
      find_above m = some_left (λ n. find_from count n at) left h ∙ rw (g, m) (ap (beside None) q)

      pub find_here : stand (name_of s e) ≡ Equal → find_from count left at ≡ record { answer = Some e; count = more }
      unfolding find_at walked compared_at
      find_here m = some_left (λ n. find_from count n at) left h ∙ rw (g, m) (ap (beside (Some e)) q)

      pub find_on : stand (name_of s e) ≡ Greater → find_from count left at ≡ find_from more (left - 1) e.next
      unfolding find_at walked compared_at
      find_on m =
          some_left (λ n. find_from count n at) left h
          ∙ rw (g, m) (one_more (find_at limits s stand (left - 1) e.next) count (walked limits Listing s stand (left - 1) e.next) more q)

  -- ---- the entry to go down from; the name is read first, and compared

  module _ (best : Option Place) (count left at : ℕ) where
    pub choose_end : left ≤ 0 → choose_from best count left at ≡ record { answer = best; count = count }
    unfolding choose_at walked
    choose_end h = none_left (λ n. choose_from best count n at) left h ∙ no_more best count

    pub choose_unnamed : 0 < left → name_at s at ≡ None → choose_from best count left at ≡ record { answer = best; count = count }
    unfolding choose_at walked compared_at
    choose_unnamed h q = some_left (λ n. choose_from best count n at) left h ∙ rw (item_unnamed limits Index s at q, q) (no_more best count)

    module _ (n p : ℕ) (h : 0 < left) (q : name_at s at ≡ Some (n, p)) (more : ℕ) (r : count + 1 ≡ more) where
      named_order : (o : Ordering) → stand (part s p n) ≡ o → (e : Place) → item_at limits Index s at ≡ Some e → stand (name_of s e) ≡ o
      named_order o r e g = ap stand (item_named limits Index s at n p e q g) ∙ r

      -- above: what stands behind it does not matter
      pub choose_above : stand (part s p n) ≡ Less → choose_from best count left at ≡ record { answer = best; count = more }
      unfolding choose_at walked compared_at
      choose_above o = some_left (λ i. choose_from best count i at) left h ∙ go (item_at limits Index s at) refl
        where
          go : (i : Option Place) → item_at limits Index s at ≡ i → choose_from best count (suc (left - 1)) at ≡ record { answer = best; count = more }
          go None g = rw (g, q, o) (ap (beside best) r)
          go (Some e) g = rw (g, named_order Less o e g, q, o) (ap (beside best) r)

      -- equal: its child
      pub choose_equal : stand (part s p n) ≡ Equal
          → (with_item (index_at limits.count s at) (child_of best) (λ e. Some e.child) ≡ child_of (choose_at limits s stand best left at))
          × (more ≡ count + walked limits Index s stand left at)
      unfolding choose_at walked compared_at item_at
      choose_equal o =
          let w : walked limits Index s stand (suc (left - 1)) at ≡ 1 = rw (q, o) refl in
          let v = some_left (λ i. walked limits Index s stand i at) left h ∙ w in
          (go (item_at limits Index s at) refl, omega (arith, v, r))
        where
          go : (i : Option Place) → item_at limits Index s at ≡ i → with_item i (child_of best) (λ e. Some e.child) ≡ child_of (choose_at limits s stand best left at)
          go None g =
              let w : choose_at limits s stand best (suc (left - 1)) at ≡ best = rw g refl in
              ap child_of (sym (some_left (λ i. choose_at limits s stand best i at) left h ∙ w))
          go (Some e) g =
              let w : choose_at limits s stand best (suc (left - 1)) at ≡ Some e = rw (g, named_order Equal o e g) refl in
              ap child_of (sym (some_left (λ i. choose_at limits s stand best i at) left h ∙ w))

      -- below, but no entry: the search ends
      pub choose_barred : stand (part s p n) ≡ Greater → item_at limits Index s at ≡ None → choose_from best count left at ≡ record { answer = best; count = more }
      unfolding choose_at walked compared_at
      choose_barred o g = some_left (λ i. choose_from best count i at) left h ∙ rw (g, q, o) (ap (beside best) r)

      -- below: it goes on behind it
      pub choose_on : stand (part s p n) ≡ Greater → (e : Place) → item_at limits Index s at ≡ Some e
          → choose_from best count left at ≡ choose_from (Some e) more (left - 1) e.next
      unfolding choose_at walked compared_at
      choose_on o e g =
          some_left (λ i. choose_from best count i at) left h
          ∙ rw (g, named_order Greater o e g, q, o)
          (one_more (choose_at limits s stand (Some e) (left - 1) e.next) count (walked limits Index s stand (left - 1) e.next) more r)

-- ---- what is found was read in the chunk, so that it lies inside, and its name is the asked one

-- an entry that was read somewhere in the chunk, with a name equal to the asked one
abbrev pub ReadAs : Limits → List ℕ → Stand → Place → Type 0
ReadAs limits s stand e = (p : ℕ) × ((item_at limits Listing s p ≡ Some e) × (stand (name_of s e) ≡ Equal))

pub find_read : (limits : Limits) (s : List ℕ) (stand : Stand) (e : Place) (n at : ℕ) → find_at limits s stand n at ≡ Some e → ReadAs limits s stand e
unfolding find_at
find_read limits s stand e zero at q = absurd (none-some e q)
find_read limits s stand e (suc n) at q = go (item_at limits Listing s at) refl (λ p. find_read limits s stand e n p) q
  where
    here : (x : Place) → item_at limits Listing s at ≡ Some x → (find_at limits s stand n x.next ≡ Some e → ReadAs limits s stand e)
        → (o : Ordering) → stand (name_of s x) ≡ o → by_order o None (Some x) (find_at limits s stand n x.next) ≡ Some e → ReadAs limits s stand e
    here x g f Less r q = absurd (none-some e q)
    here x g f Equal r q = rw (← same_Some x e q) (at, (g, r))
    here x g f Greater r q = f q

    go : (i : Option Place) → item_at limits Listing s at ≡ i → ((p : ℕ) → find_at limits s stand n p ≡ Some e → ReadAs limits s stand e)
        → with_item i None (λ x. by_order (stand (name_of s x)) None (Some x) (find_at limits s stand n x.next)) ≡ Some e → ReadAs limits s stand e
    go None g f q = absurd (none-some e q)
    go (Some x) g f q = here x g (f x.next) (stand (name_of s x)) refl q

pub find_inside : (limits : Limits) (s : List ℕ) (stand : Stand) (e : Place) (n at : ℕ) → find_at limits s stand n at ≡ Some e → (e.start + e.len ≤ length s) × (0 < e.len)
find_inside limits s stand e n at q =
    let r = find_read limits s stand e n at q in
    let i = item_inside limits Listing s r.0 e r.1.0 in
    (i.name, i.some)
