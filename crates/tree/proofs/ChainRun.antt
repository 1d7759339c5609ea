-- The run along the chain that counts listing chunks down accepts exactly the chains that are accepted: `chain_run_lem`.
use Rattle.fields.proofs.Base.{◌≡◌, refl, sym, ◌∙◌, true, not, ◌&&◌, ◌||◌, ℕ, zero, suc, ◌≤◌, arith, eqb, length, eqb-true}
use lib.Dec.{eqb-suc-suc}
use Rattle.fields.proofs.Tests.{and_both, eqb_flip}
use Rattle.refusals.specs.Refusals.{no_chunk}
use Rattle.names.specs.Names.{below}
use Rattle.chunk.specs.Chunk.{Parsed}
use Rattle.tree.specs.Lists.{member, every_below}
use Rattle.tree.specs.Shape.{Shape, is_listing, previous_of, next_of, first_name, last_name, listing_chunk}
use Rattle.tree.specs.Chain.{chain_from, chain, linked, chain_ok}
use Rattle.tree.specs.Walk.{listings, chain_run, chain_run_ok}
use Rattle.tree.proofs.Lists.{on_test, same_test}
use Rattle.tree.proofs.Counting.{count_bound, counted}
use Rattle.tree.proofs.Linked.{chain_listing, Filled, chain_distinct, linked_fuel}

module _ (D : ℕ → Parsed) (H : Shape) where
  -- to run over k chunks is to be linked over k chunks, and to have k
  run_is : (k p c : ℕ) → chain_run D H k p c ≡ (linked D H k p c && eqb (length (chain_from D k c)) k)
  unfolding chain_run linked chain_from
  run_is zero p c = refl
  run_is (suc k) p c =
      let n = next_of (D c) in
      on_test (listing_chunk D H c)
      (λ u. on_test (eqb (previous_of (D c)) p)
      (λ v. on_test (eqb n no_chunk)
      (λ w. rw (u, v, w, eqb-suc-suc 0 k, eqb_flip k 0))
      (λ w. on_test (below (last_name (D c)) (first_name (D n)))
      (λ b. rw (u, v, w, b, eqb-suc-suc (length (chain_from D k n)) k) (run_is k c n))
      (λ b. rw (u, v, w, b))))
      (λ v. rw (u, v)))
      (λ u. rw u)

  module _ (filled : Filled D H) where
    -- a linked chain has all the listing chunks exactly if it has as many
    all_listed : (n : ℕ) → linked D H n no_chunk H.first ≡ true
        → every_below H.count (λ c. not (is_listing (D c)) || member c (chain_from D n H.first)) ≡ eqb (length (chain_from D n H.first)) (listings D H)
    all_listed n l =
        counted H.count (chain_from D n H.first) (chain_distinct D H filled n no_chunk H.first l) (λ c. is_listing (D c))
        (chain_listing D H n no_chunk H.first l)

    pub chain_run_lem : chain_run_ok D H ≡ chain_ok D H
    unfolding chain_run_ok chain_ok chain
    chain_run_lem =
        let k = listings D H in
        let n = H.count in
        let f = H.first in
        rw (run_is k no_chunk f) (same_test (linked D H k no_chunk f && eqb (length (chain_from D k f)) k)
        (linked D H n no_chunk f && every_below n (λ c. not (is_listing (D c)) || member c (chain_from D n f)))
        (λ h.
        let t = and_both _ _ h in
        let q : length (chain_from D k f) ≡ k = eqb-true _ k t.1 in
        let b : k ≤ n = count_bound n (λ c. is_listing (D c)) in
        let r = linked_fuel D H k n no_chunk f t.0 (omega arith) in
        rw (r.0, r.1) (all_listed k t.0 ∙ t.1))
        (λ h.
        let t = and_both _ _ h in
        let e : eqb (length (chain_from D n f)) k ≡ true = sym (all_listed n t.0) ∙ t.1 in
        let q : length (chain_from D n f) ≡ k = eqb-true _ k e in
        let r = linked_fuel D H n k no_chunk f t.0 (omega arith) in
        rw (r.0, r.1) e))
