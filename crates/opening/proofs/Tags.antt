-- A good chunk's kind is what its tag says, and a good listing chunk's links are those that stand in it.
use Rattle.fields.proofs.Base.{◌≡◌, refl, ap, ◌∙◌, true, false, List, ℕ, ◌<◌}
use Rattle.fields.proofs.Tests.{never}
use Rattle.entries.specs.declared.Kind.{Kind}
use Rattle.entries.specs.declared.Kind.TheVariants.{Listing, Index}
use Rattle.chunk.specs.Chunk.{parsed_with, is_kind, entries_in}
use Rattle.entries.specs.Entry.{Entry}
use Rattle.chunk_fields.specs.ChunkFields.{kind_of, previous_link, next_link}
use Rattle.chunk.proofs.Accepted.{good_made}
use Rattle.header.specs.declared.Record.{Record}
use Rattle.tree.specs.Shape.{is_listing, is_index, previous_of, next_of, listing_chunk, index_chunk}
use Rattle.tree.proofs.Chunks.{is_listing_lem, is_index_lem}
use Rattle.book.specs.Book.{limits_of, chunk_bytes, directory_of, shape_of}
use Rattle.opening.specs.Passes.{GoodBook}

made_kind : (k : Kind) (s : List ℕ) (es : List Entry) → is_kind k (parsed_with k s es) ≡ true
made_kind Listing s es = refl
made_kind Index s es = refl

made_links : (k : Kind) (s : List ℕ) (es : List Entry) → is_listing (parsed_with k s es) ≡ true
    → (previous_of (parsed_with k s es) ≡ previous_link s) × (next_of (parsed_with k s es) ≡ next_link s)
made_links Listing s es h = (refl, refl)
made_links Index s es h = never h

-- ---- the chunks of a good book

module _ (s : List ℕ) (r : Record) (good : GoodBook s r) (c : ℕ) (l : c < r.count) where
  -- a chunk, where its tag is that of the kind k
  tagged : (k : Kind) → kind_of (chunk_bytes s r c) ≡ k → directory_of s r c ≡ parsed_with k (chunk_bytes s r c) (entries_in (directory_of s r c))
  unfolding directory_of
  tagged k e = good_made (limits_of s r) (chunk_bytes s r c) (good.good c l) ∙ ap (λ (j : Kind). parsed_with j (chunk_bytes s r c) (entries_in (directory_of s r c))) e

  pub kind_true : is_kind (kind_of (chunk_bytes s r c)) (directory_of s r c) ≡ true
  kind_true =
      let k = kind_of (chunk_bytes s r c) in
      ap (is_kind k) (tagged k refl) ∙ made_kind k (chunk_bytes s r c) (entries_in (directory_of s r c))

  pub listing_tagged : kind_of (chunk_bytes s r c) ≡ Listing → (listing_chunk (directory_of s r) (shape_of r) c ≡ true) × (index_chunk (directory_of s r) (shape_of r) c ≡ false)
  listing_tagged e =
      (is_listing_lem (directory_of s r) (shape_of r) c l ∙ ap is_listing (tagged Listing e), is_index_lem (directory_of s r) (shape_of r) c l ∙ ap is_index (tagged Listing e))

  pub index_tagged : kind_of (chunk_bytes s r c) ≡ Index → (listing_chunk (directory_of s r) (shape_of r) c ≡ false) × (index_chunk (directory_of s r) (shape_of r) c ≡ true)
  index_tagged e =
      (is_listing_lem (directory_of s r) (shape_of r) c l ∙ ap is_listing (tagged Index e), is_index_lem (directory_of s r) (shape_of r) c l ∙ ap is_index (tagged Index e))

  pub links_stand : is_listing (directory_of s r c) ≡ true
      → (previous_of (directory_of s r c) ≡ previous_link (chunk_bytes s r c)) × (next_of (directory_of s r c) ≡ next_link (chunk_bytes s r c))
  links_stand h =
      let b = chunk_bytes s r c in
      let e = tagged (kind_of b) refl in
      let m = made_links (kind_of b) b (entries_in (directory_of s r c)) (rw e at h) in
      (ap previous_of e ∙ m.0, ap next_of e ∙ m.1)
