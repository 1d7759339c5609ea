-- What a chunk number leads to tells of the chunk: whether it is below the count and of a kind, and its links.
use Rattle.refusals.specs.Refusals.{in_table}
use Rattle.fields.proofs.Base.{◌≡◌, refl, sym, ap, ◌∙◌, Bool, true, false, cond, ◌&&◌, List, ℕ, ◌<◌, arith, ltb, lt-ltb, Result, Ok, Err}
use Rattle.entries.specs.declared.Kind.{Kind}
use Rattle.chunk.specs.Chunk.{Parsed, bad, listing, index, is_kind}
use Rattle.chunk.specs.Answer.{chunk_of}
use Rattle.chunk.proofs.Refusals.{check_refused}
use Rattle.chunk.specs.declared.Chunk.{Chunk}
use Rattle.chunk.specs.declared.Chunk.TheVariants.{Listing, Index}
use Rattle.header.specs.declared.Record.{Record}
use Rattle.tree.specs.Shape.{is_listing, previous_of, next_of, listing_chunk, index_chunk}
use Rattle.book.specs.Book.{limits_of, chunk_bytes, directory_of, shape_of, checked_chunk}
use Rattle.refusals.specs.declared.Rule.TheVariants.{BadRecord}
use Rattle.refusals.specs.declared.Rule.{Rule}

-- the answer is a chunk of the kind k
abbrev is_of : Kind → Result Chunk Rule → Bool
is_of k (Err n) = false
is_of Kind.Listing (Ok (Listing p n)) = true
is_of Kind.Listing (Ok Index) = false
is_of Kind.Index (Ok (Listing p n)) = false
is_of Kind.Index (Ok Index) = true

-- a number that is below the count where t, of a chunk that is p
abbrev met_of : Bool → Parsed → Result Chunk Rule
met_of t p = cond t (chunk_of p) (Err BadRecord)

of_kind : (k : Kind) (p : Parsed) → is_of k (chunk_of p) ≡ is_kind k p
of_kind k (bad n) = refl
of_kind Kind.Listing (listing p n es) = refl
of_kind Kind.Listing (index es) = refl
of_kind Kind.Index (listing p n es) = refl
of_kind Kind.Index (index es) = refl

of_met : (k : Kind) (t : Bool) (p : Parsed) → is_of k (met_of t p) ≡ (t && is_kind k p)
of_met k true p = of_kind k p
of_met k false p = refl

linked_of : (t : Bool) (p : Parsed) (previous next : ℕ) → met_of t p ≡ Ok (Listing previous next)
    → (is_listing p ≡ true) × (previous_of p ≡ previous) × (next_of p ≡ next)
linked_of true (bad n) a b e = absurd (let z : ◌≡◌ {A = ℕ} 0 1 = cc in omega arith)
linked_of true (listing x y es) a b e = (refl, cc, cc)
linked_of true (index es) a b e = absurd (let z : ◌≡◌ {A = ℕ} 0 1 = cc in omega arith)
linked_of false p a b e = absurd (let z : ◌≡◌ {A = ℕ} 0 1 = cc in omega arith)

-- an answer that is no listing chunk, and one that is no index chunk
not_listing : (x : Result Chunk Rule) → ((p n : ℕ) → x ≡ Ok (Listing p n) → ⊥) → is_of Kind.Listing x ≡ false
not_listing (Err n) h = refl
not_listing (Ok (Listing p n)) h = absurd (h p n refl)
not_listing (Ok Index) h = refl

not_index : (x : Result Chunk Rule) → (x ≡ Ok Index → ⊥) → is_of Kind.Index x ≡ false
not_index (Err n) h = refl
not_index (Ok (Listing p n)) h = refl
not_index (Ok Index) h = absurd (h refl)

module _ (s : List ℕ) (book : Record) (c : ℕ) where
  listing_is : listing_chunk (directory_of s book) (shape_of book) c ≡ is_of Kind.Listing (checked_chunk s book c)
  unfolding listing_chunk checked_chunk
  listing_is = sym (of_met Kind.Listing (ltb c book.count) (directory_of s book c))

  index_is : index_chunk (directory_of s book) (shape_of book) c ≡ is_of Kind.Index (checked_chunk s book c)
  unfolding index_chunk checked_chunk
  index_is = sym (of_met Kind.Index (ltb c book.count) (directory_of s book c))

  -- what is met is a listing chunk, with its links,
  pub record Linked (previous next : ℕ) : Type 0 where
    pub below : listing_chunk (directory_of s book) (shape_of book) c ≡ true
    pub kind : is_listing (directory_of s book c) ≡ true
    pub previous_is : previous_of (directory_of s book c) ≡ previous
    pub next_is : next_of (directory_of s book c) ≡ next

  pub checked_listing : (previous next : ℕ) → checked_chunk s book c ≡ Ok (Listing previous next) → Linked previous next
  unfolding checked_chunk
  checked_listing a b e =
      let l = linked_of (ltb c book.count) (directory_of s book c) a b e in
      record { below = listing_is ∙ ap (is_of Kind.Listing) e; kind = l.0; previous_is = l.1; next_is = l.2 }

  -- or an index chunk,
  pub checked_index : checked_chunk s book c ≡ Ok Index
      → (index_chunk (directory_of s book) (shape_of book) c ≡ true) × (listing_chunk (directory_of s book) (shape_of book) c ≡ false)
  checked_index e = (index_is ∙ ap (is_of Kind.Index) e, listing_is ∙ ap (is_of Kind.Listing) e)

  -- or of no kind
  pub checked_refused : (n : Rule) → checked_chunk s book c ≡ Err n
      → (index_chunk (directory_of s book) (shape_of book) c ≡ false) × (listing_chunk (directory_of s book) (shape_of book) c ≡ false)
  checked_refused n e = (index_is ∙ ap (is_of Kind.Index) e, listing_is ∙ ap (is_of Kind.Listing) e)

  -- and its rule is one of the table
  pub checked_table : (n : Rule) → checked_chunk s book c ≡ Err n → in_table n ≡ true
  unfolding checked_chunk directory_of
  checked_table n = go (ltb c book.count)
    where
      go : (t : Bool) → met_of t (directory_of s book c) ≡ Err n → in_table n ≡ true
      go true e = (check_refused (limits_of s book) (chunk_bytes s book c) n e).2
      go false e = let z : BadRecord ≡ n = cc in ap in_table (sym z)

  -- the same of an answer x where only one kind was looked for
  module _ (x : Result Chunk Rule) (e : x ≡ checked_chunk s book c) where
    pub checked_no_listing : ((p n : ℕ) → x ≡ Ok (Listing p n) → ⊥) → listing_chunk (directory_of s book) (shape_of book) c ≡ false
    checked_no_listing h = listing_is ∙ (ap (is_of Kind.Listing) (sym e) ∙ not_listing x h)

    pub checked_no_index : (x ≡ Ok Index → ⊥) → index_chunk (directory_of s book) (shape_of book) c ≡ false
    checked_no_index h = index_is ∙ (ap (is_of Kind.Index) (sym e) ∙ not_index x h)

  -- below the count it is what the chunk means
  pub checked_inside : c < book.count → checked_chunk s book c ≡ chunk_of (directory_of s book c)
  unfolding checked_chunk
  checked_inside l = rw (lt-ltb c book.count l)
