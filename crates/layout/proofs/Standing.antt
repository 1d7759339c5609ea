-- Chunks that stand one behind another: chunk c starts 4,096 bytes times c behind the first, and is the one that the layout has there.
use Rattle.fields.proofs.Base.{◌≡◌, sym, ap, ◌∙◌, List, [], ◌∷◌, ◌++◌, flatten, append_assoc, ℕ, zero, suc, ◌+◌, ◌*◌, ◌<◌, zero-add, arith, length, get_or, take_at, drop-append-add}
use lib.ListN.{get_or-append}
use lib.Seq.{get_or-append-add}
use Rattle.fields.specs.Part.{part}
use Rattle.entries.specs.declared.Kind.{Kind}
use Rattle.entries.specs.declared.Kind.TheVariants.{Listing, Index}
use Rattle.entries.specs.Stored.{Stored}
use Rattle.fields.proofs.Lists.{All, none, more}
use Rattle.compose.specs.NewChunk.{new_chunk}
use Rattle.layout.specs.Layout.{Layout, new_previous, new_next, chunks_of, chunk_list}
use Rattle.layout.proofs.Sizes.{length_chunks}

-- ---- bytes

pub chunk_part : (cs : List (List ℕ)) (q : List ℕ) (c : ℕ) → All (λ (x : List ℕ). length x ≡ 4096) cs → c < length cs
    → part (flatten cs ++ q) (4096 * c) 4096 ≡ get_or cs c []
unfolding flatten
chunk_part [] q c none h = absurd (omega arith)
chunk_part (x ∷ cs) q zero (more e es) h = rw append_assoc (take_at x (flatten cs ++ q) 4096 e)
chunk_part (x ∷ cs) q (suc c) (more e es) h =
    let s : 4096 * suc c ≡ length x + 4096 * c = omega arith in
    rw (append_assoc, s, drop-append-add) (chunk_part cs q c es (omega arith))

-- ---- chunks of a layout

chunk_of : (k : Kind) (n m c : ℕ) (gs : List (List Stored)) (i : ℕ) → i < length gs
    → get_or (chunks_of k n m c gs) i [] ≡ new_chunk k n (new_previous (c + i)) (new_next m (c + i)) (get_or gs i [])
unfolding chunks_of
chunk_of k n m c [] i h = absurd (omega arith)
chunk_of k n m c (g ∷ gs) zero h = let e : c + 0 ≡ c = omega arith in rw e
chunk_of k n m c (g ∷ gs) (suc i) h = let e : c + suc i ≡ c + 1 + i = omega arith in rw e (chunk_of k n m (c + 1) gs i (omega arith))

module _ (n : ℕ) (l : Layout) where
  abbrev m : ℕ
  m = length l.leaves

  abbrev listing : List (List ℕ)
  listing = chunks_of Listing n m 0 l.leaves

  abbrev index : List (List ℕ)
  index = chunks_of Index n m m (flatten l.levels)

  pub list_leaf : (c : ℕ) → c < m → get_or (chunk_list n l) c [] ≡ new_chunk Listing n (new_previous c) (new_next m c) (get_or l.leaves c [])
  unfolding chunk_list
  list_leaf c h = get_or-append listing index [] c (rw length_chunks h) ∙ simp zero-add at (chunk_of Listing n m 0 l.leaves c h)

  pub list_node : (i : ℕ) → i < length (flatten l.levels)
      → get_or (chunk_list n l) (m + i) [] ≡ new_chunk Index n (new_previous (m + i)) (new_next m (m + i)) (get_or (flatten l.levels) i [])
  unfolding chunk_list
  list_node i h =
      ap (λ (k : ℕ). get_or (listing ++ index) (k + i) []) (sym (length_chunks Listing n m 0 l.leaves))
      ∙ get_or-append-add listing index i []
      ∙ chunk_of Index n m m (flatten l.levels) i h
