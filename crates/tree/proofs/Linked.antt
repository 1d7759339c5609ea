-- A chain that is linked: its chunks are listing chunks, none stands on it twice, the names of its entries rise; how many chunks it may have is no limit.
-- Of the chunks it asks only that listing chunks are filled.
use Rattle.fields.proofs.Base.{◌≡◌, refl, sym, ◌∙◌, ◌↔◌, inl, inr, true, false, cond, not, ◌&&◌, ◌||◌, List, [], ◌∷◌, ◌++◌, flat_map, ℕ, zero, suc, ◌<◌, ◌≤◌, arith, eqb, length, eqb-true, eq-eqb}
use Rattle.fields.proofs.Tests.{never, and_both}
use Rattle.refusals.specs.Refusals.{no_chunk}
use Rattle.names.specs.Names.{below}
use Rattle.names.proofs.Laws.{below_self}
use Rattle.entries.specs.Rising.{rising}
use Rattle.entries.specs.Entry.{Entry, entry_name}
use Rattle.chunk.specs.Chunk.{Parsed, entries_in}
use Rattle.quickref.specs.Quickref.{nth}
use Rattle.tree.specs.Lists.{In, Each, Distinct, member, every_below}
use Rattle.tree.specs.Shape.{Shape, is_listing, previous_of, next_of, first_name, last_name, listing_chunk, GoodChunks}
use Rattle.tree.specs.Chain.{chain_from, chain, entries_of, chain_entries, linked, chain_ok}
use Rattle.tree.specs.Exact.{ChainListed}
use Rattle.tree.proofs.Lists.{first_of, on_test, implied, in_flat, member_in, every_below_lem, each_right, each_apart}
use Rattle.tree.proofs.Rising.{Before, rising_each, rising_behind, rising_append}
use Rattle.tree.proofs.Chunks.{listing_chunk_lem}

module _ (D : ℕ → Parsed) (H : Shape) where
  -- ---- the first chunk: it is a listing chunk, it names the one before as previous, and it has no next or the chain goes on

  record Link (n p c : ℕ) : Type 0 where
    here : listing_chunk D H c ≡ true
    previous : previous_of (D c) ≡ p
    on : cond (eqb (next_of (D c)) no_chunk) (eqb c H.last) (below (last_name (D c)) (first_name (D (next_of (D c)))) && linked D H n c (next_of (D c))) ≡ true

  link : (n p c : ℕ) → linked D H (suc n) p c ≡ true → Link n p c
  unfolding linked
  link n p c h =
      let t = and_both _ _ h in
      let u = and_both _ _ t.1 in
      record { here = t.0; previous = eqb-true _ _ u.0; on = u.1 }

  -- go by the two cases
  pub on_link : {P : Type 0} (n p c : ℕ) → linked D H (suc n) p c ≡ true
      → (eqb (next_of (D c)) no_chunk ≡ true → P)
      → (eqb (next_of (D c)) no_chunk ≡ false → below (last_name (D c)) (first_name (D (next_of (D c)))) ≡ true → linked D H n c (next_of (D c)) ≡ true → P)
      → P
  on_link n p c h f g =
      on_test (eqb (next_of (D c)) no_chunk) f (λ e. let u = and_both _ _ (rw e at (link n p c h).on) in g e u.0 u.1)

  pub linked_chunk : (n p c : ℕ) → linked D H n p c ≡ true → listing_chunk D H c ≡ true
  unfolding linked
  linked_chunk zero p c h = never h
  linked_chunk (suc n) p c h = (link n p c h).here

  pub linked_previous : (n p c : ℕ) → linked D H n p c ≡ true → previous_of (D c) ≡ p
  unfolding linked
  linked_previous zero p c h = never h
  linked_previous (suc n) p c h = (link n p c h).previous

  pub chain_first : (n p c : ℕ) → linked D H n p c ≡ true → (cs : List ℕ) × (chain_from D n c ≡ c ∷ cs)
  unfolding linked chain_from
  chain_first zero p c h = never h
  chain_first (suc n) p c h = (_, refl)

  -- ---- every chunk

  chain_parts : chain_ok D H ≡ true
      → (linked D H H.count no_chunk H.first ≡ true) × (every_below H.count (λ c. not (is_listing (D c)) || member c (chain D H)) ≡ true)
  unfolding chain_ok
  chain_parts passes = and_both _ _ passes

  pub chain_linked : chain_ok D H ≡ true → linked D H H.count no_chunk H.first ≡ true
  chain_linked passes = (chain_parts passes).0

  chain_all : chain_ok D H ≡ true → (c : ℕ) → c < H.count → is_listing (D c) ≡ true → In c (chain D H)
  chain_all passes c l k =
      member_in c (chain D H) (implied _ _ (every_below_lem H.count (λ c. not (is_listing (D c)) || member c (chain D H)) (chain_parts passes).1 c l) k)

  pub chain_listing : (n p c : ℕ) → linked D H n p c ≡ true → (x : ℕ) → In x (chain_from D n c) → (x < H.count) × (is_listing (D x) ≡ true)
  unfolding chain_from
  chain_listing zero p c h x m = absurd m
  chain_listing (suc n) p c h x (inl e) = rw e (listing_chunk_lem D H c (linked_chunk (suc n) p c h))
  chain_listing (suc n) p c h x (inr m) = on_link n p c h (λ e. absurd (rw e at m)) (λ e b l. chain_listing n c (next_of (D c)) l x (rw e at m))

  -- it has exactly the listing chunks
  pub chain_chunks : chain_ok D H ≡ true → (c : ℕ) → In c (chain D H) ↔ ((c < H.count) × (is_listing (D c) ≡ true))
  unfolding chain
  chain_chunks passes c = (chain_listing H.count no_chunk H.first (chain_linked passes) c, λ k. chain_all passes c k.0 k.1)

  -- ---- how many chunks it may have: any number that is not below its length will do

  pub linked_fuel : (n m p c : ℕ) → linked D H n p c ≡ true → length (chain_from D n c) ≤ m → (linked D H m p c ≡ true) × (chain_from D m c ≡ chain_from D n c)
  unfolding linked chain_from
  linked_fuel zero m p c h k = never h
  linked_fuel (suc n) zero p c h k = absurd (omega arith)
  linked_fuel (suc n) (suc m) p c h k =
      let i = link n p c h in
      let v = eq-eqb (previous_of (D c)) p i.previous in
      on_link n p c h
      (λ e. (rw (i.here, v, e) (rw e at i.on), rw e))
      (λ e b l.
      let k' : suc (length (chain_from D n (next_of (D c)))) ≤ suc m = rw e at k in
      let r = linked_fuel n m c (next_of (D c)) l (omega arith) in
      (rw (i.here, v, e, b, r.0), rw (e, r.1)))

  -- ---- names

  -- what is asked of listing chunks: each has an entry, and its names rise
  abbrev pub Filled : Type 0
  Filled = (c : ℕ) → c < H.count → is_listing (D c) ≡ true → (0 < length (entries_in (D c))) × (rising entry_name [] (entries_in (D c)) ≡ true)

  pub good_filled : GoodChunks D H → Filled
  good_filled good c l k = (good.some c l, good.rises c l)

  module _ (filled : Filled) where
    first_entry : (c : ℕ) → (c < H.count) × (is_listing (D c) ≡ true) → (e : Entry) × (es : List Entry) × (entries_in (D c) ≡ e ∷ es)
    first_entry c k = first_of (entries_in (D c)) (filled c k.0 k.1).0

    -- the first name of some chunks is that of the first of them
    first_name_lem : (c : ℕ) (es : List Entry) → (c < H.count) × (is_listing (D c) ≡ true) → nth 0 (entries_in (D c) ++ es) ≡ nth 0 (entries_in (D c))
    unfolding nth
    first_name_lem c es k = let f = first_entry c k in rw f.2

    chunk_then_lem : (c : ℕ) (es : List Entry) → (c < H.count) × (is_listing (D c) ≡ true) → rising entry_name (last_name (D c)) es ≡ true → rising entry_name [] (entries_in (D c) ++ es) ≡ true
    chunk_then_lem c es k h =
        let f = first_entry c k in
        rw f.2 (rising_append [] f.0 f.1 es (rw f.2 at (filled c k.0 k.1).1) (rw f.2 at h))

    pub chain_rising : (n p c : ℕ) → linked D H n p c ≡ true → rising entry_name [] (entries_of D (chain_from D n c)) ≡ true
    unfolding chain_from flat_map rising
    chain_rising zero p c h = refl
    chain_rising (suc n) p c h =
        let l = listing_chunk_lem D H c (linked_chunk (suc n) p c h) in
        on_link n p c h
        (λ e. rw e (chunk_then_lem c [] l refl))
        (λ e b k.
        let x = next_of (D c) in
        let f = chain_first n c x k in
        let lx = listing_chunk_lem D H x (linked_chunk n c x k) in
        let es = entries_of D (chain_from D n x) in
        let q : nth 0 es ≡ nth 0 (entries_in (D x)) = rw f.1 (first_name_lem x (entries_of D f.0) lx) in
        rw e (chunk_then_lem c es l (rising_behind (last_name (D c)) [] es (chain_rising n c x k) (rw q b))))

    -- a chunk that stood in the chain twice would have its first name below itself
    rising_distinct : (cs : List ℕ) → ((c : ℕ) → In c cs → (c < H.count) × (is_listing (D c) ≡ true)) → Each Before (entries_of D cs) → Distinct cs
    unfolding flat_map
    rising_distinct [] b r = tt
    rising_distinct (c ∷ cs) b r =
        let f = first_entry c (b c (inl refl)) in
        let here : In f.0 (entries_in (D c)) = rw f.2 (inl refl) in
        let es = entries_of D cs in (
          (λ x m e.
              let t = each_apart Before (entries_in (D c)) es r f.0 f.0 here (in_flat (λ x. entries_in (D x)) cs c f.0 (rw e m) here) in
              never (sym (below_self f.0.name) ∙ t)),
          rising_distinct cs (λ x m. b x (inr m)) (each_right Before (entries_in (D c)) es r),
        )

    pub chain_distinct : (n p c : ℕ) → linked D H n p c ≡ true → Distinct (chain_from D n c)
    chain_distinct n p c h =
        let es = entries_of D (chain_from D n c) in
        rising_distinct (chain_from D n c) (chain_listing n p c h) (rising_each [] es (chain_rising n p c h))

    -- ---- a chain that is accepted

    pub listed : chain_ok D H ≡ true → ChainListed D H
    unfolding chain chain_entries
    listed passes =
        let l = chain_linked passes in
        record {
          chunks = chain_chunks passes;
          once = chain_distinct H.count no_chunk H.first l;
          rises = chain_rising H.count no_chunk H.first l;
        }
