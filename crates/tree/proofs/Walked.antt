-- The walk over the tree, whose leaves must come along the chain while index chunks are counted down, accepts exactly the trees that are accepted:
-- `tree_walk`. A level is written `suc l`.
use Rattle.fields.proofs.Base.{◌≡◌, refl, sym, ap, ◌∙◌, subst, inl, inr, Bool, true, false, cond, not, ◌&&◌, ◌||◌, false≢true, List, [], ◌∷◌, ◌++◌, flat_map, ℕ, zero, suc, ◌<◌, ◌≤◌, arith, eqb, length, eqb-true, eq-eqb}
use mathlib.Core.Option.{Option, none, some, some-injective}
use lib.Dec.{eqb-zero-suc, eqb-suc-zero, eqb-suc-suc}
use Rattle.fields.specs.Same.{same}
use Rattle.fields.proofs.Same.{same_true, same_self}
use Rattle.fields.proofs.Tests.{never}
use Rattle.refusals.specs.Refusals.{no_chunk}
use Rattle.entries.specs.Entry.{Entry}
use Rattle.chunk.specs.Chunk.{Parsed, entries_in}
use Rattle.tree.specs.Lists.{In, Distinct, all_of, member, every_below}
use Rattle.tree.specs.Shape.{Shape, is_index, next_of, first_name, listing_chunk, index_chunk, GoodChunks}
use Rattle.tree.specs.Chain.{chain_from, chain, linked, chain_ok}
use Rattle.tree.specs.Tree.{top, leaves, index_chunks, shaped, tree_ok}
use Rattle.tree.specs.Walk.{indexes, chain_run_ok, TreeProgress, stopped, going, arrived, into_child, visit, walk_tree, tree_walk_ok}
use Rattle.tree.proofs.Lists.{on_test}
use Rattle.tree.proofs.Counting.{counted}
use Rattle.tree.proofs.Chunks.{listing_chunk_lem}
use Rattle.tree.proofs.Linked.{linked_chunk, on_link, good_filled, chain_distinct, chain_linked}
use Rattle.tree.proofs.ChainRun.{chain_run_lem}
use Rattle.tree.proofs.Shaped.{child_ok, leaf_listing}
use Rattle.tree.proofs.Once.{index_kind, index_once}

-- ---- what the walk keeps: the next listing chunk of the chain, and a count

on_option : {A P : Type 0} (o : Option A) → (o ≡ none → P) → ((x : A) → o ≡ some x → P) → P
on_option none f g = f refl
on_option (some x) f g = g x refl

abbrev and_then : Option ℕ → (ℕ → Option ℕ) → Option ℕ
and_then none f = none
and_then (some e) f = f e

-- the chunks of a list come one after another along the next numbers, from e on; the number that would come then
abbrev follow : (ℕ → Parsed) → List ℕ → ℕ → Option ℕ
follow D [] e = some e
follow D (c ∷ cs) e = cond (eqb c e) (follow D cs (next_of (D c))) none

follow_append : (D : ℕ → Parsed) (xs ys : List ℕ) (e : ℕ) → follow D (xs ++ ys) e ≡ and_then (follow D xs e) (λ e'. follow D ys e')
follow_append D [] ys e = refl
follow_append D (c ∷ cs) ys e = on_test (eqb c e) (λ u. rw u (follow_append D cs ys (next_of (D c)))) (λ u. rw u)

-- one taken off the count for each element
abbrev spend : List ℕ → ℕ → Option ℕ
spend [] k = some k
spend (x ∷ xs) zero = none
spend (x ∷ xs) (suc k) = spend xs k

spend_append : (xs ys : List ℕ) (k : ℕ) → spend (xs ++ ys) k ≡ and_then (spend xs k) (λ k'. spend ys k')
spend_append [] ys k = refl
spend_append (x ∷ xs) ys zero = refl
spend_append (x ∷ xs) ys (suc k) = spend_append xs ys k

abbrev progress : Option ℕ → Option ℕ → TreeProgress
progress none o = stopped
progress (some e) none = stopped
progress (some e) (some k) = going e k

progress_none : (o : Option ℕ) → progress o none ≡ stopped
progress_none none = refl
progress_none (some e) = refl

-- at the chain's end all is spent exactly if the list is as long as the count
spend_all : (xs : List ℕ) (k : ℕ) → arrived (progress (some no_chunk) (spend xs k)) ≡ eqb (length xs) k
spend_all [] zero = refl
spend_all [] (suc k) = rw (eqb-suc-zero k, eqb-zero-suc k)
spend_all (x ∷ xs) zero = sym (eqb-suc-zero (length xs))
spend_all (x ∷ xs) (suc k) = spend_all xs k ∙ sym (eqb-suc-suc (length xs) k)

-- a walk that does not end at the chain's end does not arrive
not_arrived : (o p : Option ℕ) → (o ≡ some no_chunk → ⊥) → arrived (progress o p) ≡ false
not_arrived none p h = refl
not_arrived (some e) none h = refl
not_arrived (some e) (some k) h = on_test (eqb e no_chunk) (λ v. absurd (h (ap {B = Option ℕ} some (eqb-true e no_chunk v)))) (λ v. rw v)

-- ---- what the walk comes to, in the terms of the tree

module _ (D : ℕ → Parsed) (H : Shape) where
  abbrev walk_is : Bool → List ℕ → List ℕ → ℕ → ℕ → TreeProgress
  walk_is good ls is e k = cond good (progress (follow D ls e) (spend is k)) stopped

  visit_is : (l : ℕ) → ((c e k : ℕ) → walk_tree D H (suc l) c e k ≡ walk_is (shaped D H (suc l) c) (leaves D (suc l) c) (index_chunks D (suc l) c) e k)
      → (xs : List Entry) (e k : ℕ)
      → visit (into_child D (walk_tree D H (suc l))) xs e k
      ≡ walk_is (all_of (child_ok D H l) xs) (flat_map (λ x. leaves D (suc l) x.child) xs) (flat_map (λ x. index_chunks D (suc l) x.child) xs) e k
  unfolding flat_map
  visit_is l ih [] e k = refl
  visit_is l ih (x ∷ xs) e k =
      let c = x.child in
      let good = all_of (child_ok D H l) xs in
      let ls = flat_map (λ x. leaves D (suc l) x.child) xs in
      let is = flat_map (λ x. index_chunks D (suc l) x.child) xs in
      let fa = follow_append D (leaves D (suc l) c) ls e in
      let sa = spend_append (index_chunks D (suc l) c) is k in
      on_test (same x.name (first_name (D c)))
      (λ u. on_test (shaped D H (suc l) c)
      (λ v. on_option (follow D (leaves D (suc l) c) e)
      (λ q. rw (u, ih c e k, v, fa, q) (on_test good (λ t. rw t) (λ t. rw t)))
      (λ e' q. on_option (spend (index_chunks D (suc l) c) k)
      (λ r. rw (u, ih c e k, v, fa, q, sa, r) (on_test good (λ t. rw t (sym (progress_none (follow D ls e')))) (λ t. rw t)))
      (λ k' r. rw (u, ih c e k, v, fa, q, sa, r) (visit_is l ih xs e' k'))))
      (λ v. rw (u, ih c e k, v)))
      (λ u. rw u)

  walk_is_lem : (l c e k : ℕ) → walk_tree D H (suc l) c e k ≡ walk_is (shaped D H (suc l) c) (leaves D (suc l) c) (index_chunks D (suc l) c) e k
  unfolding walk_tree shaped leaves index_chunks
  walk_is_lem zero c e k = on_test (listing_chunk D H c) (λ u. on_test (eqb c e) (λ v. rw (u, v)) (λ v. rw (u, v))) (λ u. on_test (eqb c e) (λ v. rw (u, v)) (λ v. rw (u, v)))
  walk_is_lem (suc l) c e zero =
      on_test (index_chunk D H c && all_of (child_ok D H l) (entries_in (D c)))
      (λ u. rw (u, progress_none (follow D (flat_map (λ x. leaves D (suc l) x.child) (entries_in (D c))) e)))
      (λ u. rw u)
  walk_is_lem (suc l) c e (suc k) =
      on_test (index_chunk D H c)
      (λ u. rw u (visit_is l (λ c e k. walk_is_lem l c e k) (entries_in (D c)) e k))
      (λ u. rw u)

  -- ---- the chain, and no other list of chunks, comes along the next numbers from its first chunk to its end

  follow_chain : (n p c : ℕ) → linked D H n p c ≡ true → follow D (chain_from D n c) c ≡ some no_chunk
  unfolding chain_from linked
  follow_chain zero p c h = never h
  follow_chain (suc n) p c h =
      let x = next_of (D c) in
      on_link D H n p c h
      (λ e. rw (e, eq-eqb c c refl) (ap {B = Option ℕ} some (eqb-true x no_chunk e)))
      (λ e b l. rw (e, eq-eqb c c refl) (follow_chain n c x l))

  module _ (small : H.count ≤ no_chunk) where
    follow_end : (cs : List ℕ) → ((x : ℕ) → In x cs → x < H.count) → follow D cs no_chunk ≡ some no_chunk → cs ≡ []
    follow_end [] b f = refl
    follow_end (y ∷ ys) b f =
        on_test (eqb y no_chunk)
        (λ v. let q : y ≡ no_chunk = eqb-true y no_chunk v in let l = b y (inl refl) in absurd (omega arith))
        (λ v. never (let z : none ≡ some no_chunk = rw v at f in cc))

    follow_only : (n p c : ℕ) → linked D H n p c ≡ true → (cs : List ℕ) → ((x : ℕ) → In x cs → x < H.count) → follow D cs c ≡ some no_chunk → cs ≡ chain_from D n c
    unfolding chain_from linked
    follow_only zero p c h cs b f = never h
    follow_only (suc n) p c h [] b f =
        let k = (listing_chunk_lem D H c (linked_chunk D H (suc n) p c h)).0 in
        let q : c ≡ no_chunk = some-injective c no_chunk f in
        absurd (omega arith)
    follow_only (suc n) p c h (x ∷ xs) b f =
        on_test (eqb x c)
        (λ v.
        let xc : x ≡ c = eqb-true x c v in
        let f₁ : follow D xs (next_of (D x)) ≡ some no_chunk = rw v at f in
        let f₂ : follow D xs (next_of (D c)) ≡ some no_chunk = subst (λ y. follow D xs (next_of (D y)) ≡ some no_chunk) xc f₁ in
        on_link D H n p c h
        (λ e.
        let t : xs ≡ [] = follow_end xs (λ y m. b y (inr m)) (subst (λ y. follow D xs y ≡ some no_chunk) (eqb-true (next_of (D c)) no_chunk e) f₂) in
        rw e (cc))
        (λ e k l.
        let t : xs ≡ chain_from D n (next_of (D c)) = follow_only n c (next_of (D c)) l xs (λ y m. b y (inr m)) f₂ in
        rw e (cc)))
        (λ v. never (let z : none ≡ some no_chunk = rw v at f in cc))

    -- ---- the whole walk

    module _ (good : GoodChunks D H) (l : linked D H H.count no_chunk H.first ≡ true) where
      -- at the top, with level `suc h`
      abbrev ls : ℕ → List ℕ
      ls h = leaves D (suc h) (top H)

      abbrev is : ℕ → List ℕ
      is h = index_chunks D (suc h) (top H)

      on_chain : (h : ℕ) → shaped D H (suc h) (top H) ≡ true → same (ls h) (chain D H) ≡ true
          → arrived (progress (follow D (ls h) H.first) (spend (is h) (indexes D H))) ≡ every_below H.count (λ c. not (is_index (D c)) || member c (is h))
      unfolding chain
      on_chain h s t =
          let q : ls h ≡ chain_from D H.count H.first = same_true (ls h) (chain D H) t in
          let d : Distinct (is h) = index_once D H good h (top H) s (rw q (chain_distinct D H (good_filled D H good) H.count no_chunk H.first l)) in
          let f : follow D (ls h) H.first ≡ some no_chunk = rw q (follow_chain H.count no_chunk H.first l) in
          rw f (spend_all (is h) (indexes D H) ∙ sym (counted H.count (is h) d (λ c. is_index (D c)) (index_kind D H good h (top H) s)))

      off_chain : (h : ℕ) → shaped D H (suc h) (top H) ≡ true → same (ls h) (chain D H) ≡ false
          → arrived (progress (follow D (ls h) H.first) (spend (is h) (indexes D H))) ≡ false
      unfolding chain
      off_chain h s t =
          not_arrived (follow D (ls h) H.first) (spend (is h) (indexes D H)) (λ f.
          let q : ls h ≡ chain D H = follow_only H.count no_chunk H.first l (ls h) (λ x m. (leaf_listing D H h (top H) s x m).0) f in
          false≢true (sym t ∙ (ap (same (ls h)) (sym q) ∙ same_self (ls h))))

      -- the two checks at a level
      abbrev Same : ℕ → Type 0
      Same d =
          arrived (walk_tree D H d (top H) H.first (indexes D H))
          ≡ (shaped D H d (top H)
          && (same (leaves D d (top H)) (chain D H)
          && every_below H.count (λ c. not (is_index (D c)) || member c (index_chunks D d (top H)))))

      walk_same : (h : ℕ) → Same (suc h)
      walk_same h =
          rw (walk_is_lem h (top H) H.first (indexes D H))
          (on_test (shaped D H (suc h) (top H))
          (λ s. on_test (same (ls h) (chain D H)) (λ t. rw (s, t) (on_chain h s t)) (λ t. rw (s, t) (off_chain h s t)))
          (λ s. rw s))

      walk_level : (d : ℕ) → Same d
      unfolding walk_tree shaped
      walk_level zero = refl
      walk_level (suc h) = walk_same h

-- ---- the theorem, and the two checks in their order

pub tree_walk : (D : ℕ → Parsed) (H : Shape) → GoodChunks D H → H.count ≤ no_chunk → chain_ok D H ≡ true → tree_walk_ok D H ≡ tree_ok D H
unfolding tree_walk_ok tree_ok
tree_walk D H good small passes = walk_level D H small good (chain_linked D H passes) H.depth

pub checks_same : {A : Type 0} (D : ℕ → Parsed) (H : Shape) → GoodChunks D H → H.count ≤ no_chunk → (accepted no-tree no-chain : A)
    → cond (chain_run_ok D H) (cond (tree_walk_ok D H) accepted no-tree) no-chain ≡ cond (chain_ok D H) (cond (tree_ok D H) accepted no-tree) no-chain
checks_same D H good small accepted no-tree no-chain =
    rw (chain_run_lem D H (good_filled D H good)) (on_test (chain_ok D H) (λ t. rw (t, tree_walk D H good small t)) (λ t. rw t))
