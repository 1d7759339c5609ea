-- At depth 1, where the header allows one chunk only (FORMAT D16), an accepted chain is a whole tree: no book is refused for its tree there.
use Rattle.fields.proofs.Base.{◌≡◌, subst, true, false, not, ◌||◌, [], ◌∷◌, ℕ, ◌<◌, arith, eqb}
use Rattle.fields.specs.Same.{same}
use Rattle.fields.proofs.Same.{same_self}
use Rattle.refusals.specs.Refusals.{no_chunk}
use Rattle.chunk.specs.Chunk.{Parsed}
use Rattle.tree.specs.Lists.{member}
use Rattle.tree.specs.Shape.{Shape, is_listing, is_index, next_of, listing_chunk}
use Rattle.tree.specs.Chain.{chain_from, chain, chain_ok}
use Rattle.tree.specs.Tree.{top, leaves, index_chunks, shaped, tree_ok}
use Rattle.tree.proofs.Lists.{on_test, below_every}
use Rattle.tree.proofs.Chunks.{not_both, listing_chunk_lem}
use Rattle.tree.proofs.Linked.{linked_chunk, chain_linked}

chain_one : (D : ℕ → Parsed) (c : ℕ) → chain_from D 1 c ≡ c ∷ []
unfolding chain_from
chain_one D c = on_test (eqb (next_of (D c)) no_chunk) (λ e. rw e) (λ e. rw e)

-- the only chunk is no index chunk
lonely : (D : ℕ → Parsed) (H : Shape) → H.count ≡ 1 → listing_chunk D H H.first ≡ true → (c : ℕ) → c < H.count → is_index (D c) ≡ false
lonely D H n h c l =
    let k = listing_chunk_lem D H H.first h in
    let b = k.0 in
    let e : H.first ≡ c = omega arith in
    on_test (is_index (D c)) (λ t. absurd (not_both (D c) (subst (λ x. is_listing (D x) ≡ true) e k.1) t)) (λ t. t)

pub depth_one : (D : ℕ → Parsed) (H : Shape) → H.count ≡ 1 → H.depth ≡ 1 → chain_ok D H ≡ true → tree_ok D H ≡ true
unfolding tree_ok top chain leaves index_chunks shaped listing_chunk
depth_one D H n d passes =
    let h = linked_chunk D H H.count no_chunk H.first (chain_linked D H passes) in
    let q : same (H.first ∷ []) (chain_from D H.count H.first) ≡ true = rw (n, chain_one D H.first) (same_self (H.first ∷ [])) in
    rw (d, h, q) (below_every H.count (λ c. not (is_index (D c)) || member c []) (λ c l. rw (lonely D H n h c l)))
