-- Chunks below the count: their kind, and that each has a first entry.
use Rattle.fields.proofs.Base.{◌≡◌, refl, true, false, not, List, ◌∷◌, ℕ, ◌+◌, ◌<◌, ◌≤◌, ltb-true, lt-ltb, le-ltb}
use Rattle.fields.proofs.Tests.{never, and_both}
use Rattle.entries.specs.Entry.{Entry}
use Rattle.chunk.specs.Chunk.{Parsed, bad, listing, index, entries_in, is_good}
use Rattle.tree.specs.Shape.{Shape, is_listing, is_index, listing_chunk, index_chunk, GoodChunks}
use Rattle.tree.specs.Walk.{listings, indexes}
use Rattle.tree.proofs.Lists.{first_of}
use Rattle.tree.proofs.Counting.{count_both}

pub not_both : (p : Parsed) → is_listing p ≡ true → is_index p ≡ true → ⊥
not_both (bad n) h k = never h
not_both (listing a b es) h k = never k
not_both (index es) h k = never h

other_kind : (p : Parsed) → is_good p ≡ true → is_index p ≡ not (is_listing p)
other_kind (bad n) h = never h
other_kind (listing a b es) h = refl
other_kind (index es) h = refl

module _ (D : ℕ → Parsed) (H : Shape) where
  pub listing_chunk_lem : (c : ℕ) → listing_chunk D H c ≡ true → (c < H.count) × (is_listing (D c) ≡ true)
  unfolding listing_chunk
  listing_chunk_lem c h = let t = and_both _ _ h in (ltb-true c H.count t.0, t.1)

  pub index_chunk_lem : (c : ℕ) → index_chunk D H c ≡ true → (c < H.count) × (is_index (D c) ≡ true)
  unfolding index_chunk
  index_chunk_lem c h = let t = and_both _ _ h in (ltb-true c H.count t.0, t.1)

  -- the tests of a number as code makes them: first that it is below the count, then its chunk's kind
  pub is_listing_lem : (c : ℕ) → c < H.count → listing_chunk D H c ≡ is_listing (D c)
  unfolding listing_chunk
  is_listing_lem c l = rw (lt-ltb c H.count l)

  pub is_index_lem : (c : ℕ) → c < H.count → index_chunk D H c ≡ is_index (D c)
  unfolding index_chunk
  is_index_lem c l = rw (lt-ltb c H.count l)

  pub past_count : (c : ℕ) → H.count ≤ c → (listing_chunk D H c ≡ false) × (index_chunk D H c ≡ false)
  unfolding listing_chunk index_chunk
  past_count c l = (rw (le-ltb c H.count l), rw (le-ltb c H.count l))

  module _ (good : GoodChunks D H) where
    pub first_entry : (c : ℕ) → c < H.count → (e : Entry) × (es : List Entry) × (entries_in (D c) ≡ e ∷ es)
    first_entry c l = first_of (entries_in (D c)) (good.some c l)

    -- listing and index chunks are all the chunks
    pub kinds_count : listings D H + indexes D H ≡ H.count
    kinds_count = count_both H.count (λ c. is_listing (D c)) (λ c. is_index (D c)) (λ c l. other_kind (D c) (good.good c l))
