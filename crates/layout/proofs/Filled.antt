-- Chunks whose entries fit are as long as a chunk, and have room for what stands in them.
use Rattle.fields.proofs.Base.{◌≡◌, ap, ◌∙◌, List, [], ◌∷◌, flatten, ℕ, ◌+◌, ◌*◌, ◌≤◌, ◌<◌, arith, length}
use Rattle.entries.specs.declared.Kind.{Kind}
use Rattle.entries.specs.declared.Kind.TheVariants.{Listing, Index}
use Rattle.chunk_fields.specs.ChunkFields.{quick_count, spacing_of}
use Rattle.entries.specs.Stored.{Stored}
use Rattle.fields.proofs.Lists.{All, none, more, all_append}
use Rattle.pack.specs.Groups.{fits}
use Rattle.pack.specs.Levels.{entry_size}
use Rattle.pack.proofs.Groups.{Fit, sizes}
use Rattle.pack.proofs.Filling.{fits_small}
use Rattle.pack.proofs.Fitting.{index_fit}
use Rattle.compose.specs.NewChunk.{entries_end}
use Rattle.compose.proofs.Composing.{run_length}
use Rattle.compose.proofs.Whole.{length_chunk}
use Rattle.layout.specs.Layout.{Layout, layout_over, new_previous, new_next, chunks_of, chunk_list}
use Rattle.layout.proofs.Cut.{Cut, cut_ordered, cut_some}
use Rattle.layout.proofs.Sizes.{length_chunks, length_flat}

module _ (k : Kind) (n : ℕ) where
  pub fit_room : (g : List Stored) → Fit (entry_size k) (fits k n) g → entries_end k g + (2 * quick_count n (length g) + 2) ≤ 4096
  fit_room g f = omega (arith, fits_small k n (length g) (sizes (entry_size k) g) f.small, run_length k g)

  pub chunks_whole : (m c : ℕ) (gs : List (List Stored)) → All (Fit (entry_size k) (fits k n)) gs → All (λ (x : List ℕ). length x ≡ 4096) (chunks_of k n m c gs)
  unfolding chunks_of
  chunks_whole m c [] none = none
  chunks_whole m c (g ∷ gs) (more f fs) = more (length_chunk k n (new_previous c) (new_next m c) g (fit_room g f)) (chunks_whole m (c + 1) gs fs)

  pub length_all : (m c : ℕ) (gs : List (List Stored)) → All (Fit (entry_size k) (fits k n)) gs → length (flatten (chunks_of k n m c gs)) ≡ 4096 * length gs
  length_all m c gs fs =
      length_flat (chunks_of k n m c gs) (chunks_whole m c gs fs) ∙ ap (λ (j : ℕ). 4096 * j) (length_chunks k n m c gs)

-- ---- the chunks of a new layout

module _ (density content : ℕ) (es : List Stored) (gs : List (List Stored)) (c : Cut density content es gs) where
  abbrev n : ℕ
  n = spacing_of density

  abbrev l : Layout
  l = layout_over n gs

  pub leaves_some : 0 < length l.leaves
  unfolding layout_over
  leaves_some = cut_some density content es gs c

  pub nodes_fit : All (Fit (entry_size Index) (fits Index n)) (flatten l.levels)
  unfolding layout_over
  nodes_fit = index_fit n 5 0 gs (cut_ordered density content es gs c).short

  pub list_whole : All (λ (x : List ℕ). length x ≡ 4096) (chunk_list n l)
  unfolding chunk_list layout_over
  list_whole =
      let m = length gs in
      all_append (chunks_of Listing n m 0 gs) (chunks_of Index n m m (flatten l.levels))
      (chunks_whole Listing n m 0 gs c.fit) (chunks_whole Index n m m (flatten l.levels) nodes_fit)
