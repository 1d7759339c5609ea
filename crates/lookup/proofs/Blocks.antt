-- A lookup reads the blocks of its descent and no other byte: `only_blocks`.
use Rattle.fields.proofs.Base.{◌≡◌, refl, ap₂, inl, inr, List, [], ◌∷◌, ℕ, ◌+◌, arith, length}
use Rattle.names.specs.Names.{compared}
use Rattle.chunk.specs.Chunk.{Parsed, entries_in}
use Rattle.chunk_fields.specs.ChunkFields.{spacing_of}
use Rattle.seek.specs.Count.{comparisons}
use Rattle.header.specs.declared.Record.{Record}
use Rattle.tree.specs.Lists.{In}
use Rattle.tree.specs.Tree.{top}
use Rattle.tree.specs.Descent.{trail}
use Rattle.tree.proofs.Descended.{trail_bound}
use Rattle.tree.proofs.Same.{same_descent}
use Rattle.book.specs.Book.{limits_of, directory_of, shape_of}
use Rattle.book.proofs.Laws.{fits_told, fits_same}
use Rattle.lookup.specs.Lookup.{trail_in, costs, looked_up, trail_after}
use Rattle.lookup.specs.Blocks.{SameBlocks, OnlyBlocks}

module _ (s t : List ℕ) (book : Record) (name : List ℕ) where
  -- the same bytes mean the same
  same_chunk : (cs : List ℕ) → SameBlocks s t book cs → (c : ℕ) → In c cs → directory_of s book c ≡ directory_of t book c
  unfolding directory_of limits_of
  same_chunk cs h c m = rw (h.lengths, h.bytes c m) refl

  same_costs : (cs : List ℕ) → ((c : ℕ) → In c cs → directory_of s book c ≡ directory_of t book c) → costs s book name cs ≡ costs t book name cs
  unfolding costs
  same_costs [] f = refl
  same_costs (c ∷ cs) f =
      ap₂ (λ (p : Parsed) (n : ℕ). comparisons (spacing_of book.density) (compared name) (entries_in p) + n) (f c (inl refl)) (same_costs cs (λ d m. f d (inr m)))

  module _ (h : SameBlocks s t book (trail_in s book name)) where
    same_answer : (places : ℕ) → looked_up t book name places ≡ looked_up s book name places
    unfolding looked_up
    same_answer places =
        let d = same_descent (directory_of s book) (directory_of t book) (shape_of book) name (same_chunk (trail_in s book name) h) in
        let c = same_costs (trail_in s book name) (same_chunk (trail_in s book name) h) in
        rw (d.0, c, d.1, fits_same s t book h.lengths) refl

    same_trail : (was : List ℕ) → trail_after t book name was ≡ trail_after s book name was
    unfolding trail_after
    same_trail was =
        let d = same_descent (directory_of s book) (directory_of t book) (shape_of book) name (same_chunk (trail_in s book name) h) in
        rw (same_answer (length was), d.1) refl

pub only_blocks : (s : List ℕ) (book : Record) (name was : List ℕ) → OnlyBlocks s book name was (looked_up s book name (length was)) (trail_after s book name was)
unfolding trail
only_blocks s book name was =
    record {
      five = λ f. (let b = trail_bound (directory_of s book) (shape_of book) name book.depth (top (shape_of book)) in
          let d = fits_told s book f in
          omega (arith, b, d.few_levels));
      answer_same = λ t h. same_answer s t book name h (length was);
      trail_same = λ t h. same_trail s t book name h was;
    }
