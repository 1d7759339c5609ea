use Rattle.fields.proofs.Base.{eq-eqb, ne_eqb, ◌≡◌, List, ℕ, sym, ◌∙◌, true, false, eqb}
use Rattle.chunk_fields.specs.ChunkFields.{previous_link, next_link}
use Rattle.refusals.specs.Refusals.{no_chunk}
use Rattle.header.specs.declared.Record.{Record}
use Rattle.tree.specs.Shape.{previous_of, next_of, listing_chunk}
use Rattle.tree.proofs.Chunks.{listing_chunk_lem}
use Rattle.book.specs.Book.{chunk_bytes, directory_of, shape_of}
use Rattle.opening.specs.Passes.{GoodBook, link_of}
use Rattle.opening.proofs.Tags.{links_stand}
use Rattle.opening.proofs.link_from.Goals as goal

-- the links that were read in the bytes of a listing chunk
module _ (s : List ℕ) (r : Record) (good : GoodBook s r) (c : ℕ) (b : List ℕ) (p : b ≡ chunk_bytes s r c) (t : listing_chunk (directory_of s r) (shape_of r) c ≡ true) where
  previous_read : (n : ℕ) → n ≡ previous_link b → previous_of (directory_of s r c) ≡ n
  previous_read n q =
      let k = listing_chunk_lem (directory_of s r) (shape_of r) c t in
      rw (q, p) (links_stand s r good c k.0 k.1).0

  next_read : (n : ℕ) → n ≡ next_link b → next_of (directory_of s r c) ≡ n
  next_read n q =
      let k = listing_chunk_lem (directory_of s r) (shape_of r) c t in
      rw (q, p) (links_stand s r good c k.0 k.1).1

-- a number other than m is other than n, where m is n
other : (a m n : ℕ) → m ≡ n → (a ≡ m → ⊥) → eqb a n ≡ false
other a m n p h = ne_eqb a n (λ q. h (q ∙ sym p))

pub returns-then-not-is_listing : goal.returns-then-not-is_listing
unfolding link_of
returns-then-not-is_listing c = rw (sym c.is_listing.ensures ∙ c.if-not-is_listing.true)

pub returns-then-previous_link-previous : goal.returns-then-previous_link-previous
unfolding link_of
returns-then-previous_link-previous c =
    let a = c.args in
    let t = sym c.is_listing.ensures ∙ c.if-not-is_listing.false in
    rw (t, previous_read a.file.now a.book c.requires a.c _ c.chunk_bytes-bytes.ensures t _ c.previous_link.ensures, ne_eqb _ _ c.if-previous_link-previous.true)

pub returns-then-next-no_chunk : goal.returns-then-next-no_chunk
unfolding link_of
returns-then-next-no_chunk c =
    let a = c.args in
    let t = sym c.is_listing.ensures ∙ c.if-not-is_listing.false in
    rw (
      t,
      previous_read a.file.now a.book c.requires a.c _ c.chunk_bytes-bytes.ensures t _ c.previous_link.ensures,
      eq-eqb _ _ c.if-previous_link-previous.false,
      next_read a.file.now a.book c.requires a.c _ c.chunk_bytes-bytes.ensures t _ c.next_link-next.ensures,
      eq-eqb _ no_chunk (c.if-next-no_chunk.true ∙ c.no_chunk.ensures),
    )

pub returns-then-not-is_listing-2 : goal.returns-then-not-is_listing-2
unfolding link_of
returns-then-not-is_listing-2 c =
    let a = c.args in
    let t = sym c.is_listing.ensures ∙ c.if-not-is_listing.false in
    rw (
      t,
      previous_read a.file.now a.book c.requires a.c _ c.chunk_bytes-bytes.ensures t _ c.previous_link.ensures,
      eq-eqb _ _ c.if-previous_link-previous.false,
      next_read a.file.now a.book c.requires a.c _ c.chunk_bytes-bytes.ensures t _ c.next_link-next.ensures,
      other _ _ _ c.no_chunk.ensures c.if-next-no_chunk.false,
      sym c.is_listing-2.ensures ∙ c.if-not-is_listing-2.true,
    )

pub names_rise-requires : goal.names_rise-requires
names_rise-requires c =
    let t = sym c.is_listing.ensures ∙ c.if-not-is_listing.false in
    (c.requires, (listing_chunk_lem _ _ _ (sym c.is_listing-2.ensures ∙ c.if-not-is_listing-2.false)).0, t)

pub returns-then-names_rise : goal.returns-then-names_rise
unfolding link_of
returns-then-names_rise c =
    let a = c.args in
    let t = sym c.is_listing.ensures ∙ c.if-not-is_listing.false in
    rw (
      t,
      previous_read a.file.now a.book c.requires a.c _ c.chunk_bytes-bytes.ensures t _ c.previous_link.ensures,
      eq-eqb _ _ c.if-previous_link-previous.false,
      next_read a.file.now a.book c.requires a.c _ c.chunk_bytes-bytes.ensures t _ c.next_link-next.ensures,
      other _ _ _ c.no_chunk.ensures c.if-next-no_chunk.false,
      sym c.is_listing-2.ensures ∙ c.if-not-is_listing-2.false,
      sym c.names_rise.ensures ∙ c.if-names_rise.true,
    )

pub returns-else-names_rise : goal.returns-else-names_rise
unfolding link_of
returns-else-names_rise c =
    let a = c.args in
    let t = sym c.is_listing.ensures ∙ c.if-not-is_listing.false in
    rw (
      t,
      previous_read a.file.now a.book c.requires a.c _ c.chunk_bytes-bytes.ensures t _ c.previous_link.ensures,
      eq-eqb _ _ c.if-previous_link-previous.false,
      next_read a.file.now a.book c.requires a.c _ c.chunk_bytes-bytes.ensures t _ c.next_link-next.ensures,
      other _ _ _ c.no_chunk.ensures c.if-next-no_chunk.false,
      sym c.is_listing-2.ensures ∙ c.if-not-is_listing-2.false,
      sym c.names_rise.ensures ∙ c.if-names_rise.false,
    )
