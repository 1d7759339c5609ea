-- The layout of a new book: what the writer takes, which entries each chunk holds, and the bytes of the head (FORMAT, Writer).
use Rattle.std.specs.Prelude.{ℕ, ◌+◌, ◌-◌, ◌^◌, Bool, cond, ◌&&◌, length, ltb, leb, eqb}
use mathlib.Core.List.{List, [], ◌∷◌, ◌++◌, flatten}
use Rattle.entries.specs.declared.Kind.{Kind}
use Rattle.entries.specs.declared.Kind.TheVariants.{Listing, Index}
use Rattle.refusals.specs.Refusals.{no_chunk}
use Rattle.chunk_fields.specs.ChunkFields.{spacing_of}
use Rattle.entries.specs.Stored.{Stored}
use Rattle.source.specs.Input.{given, input_right}
use Rattle.pack.specs.Levels.{level, levels_above}
use Rattle.compose.specs.NewChunk.{new_chunk}
use Rattle.layout.specs.Headers.{head_length, file_header, section_zero, directory_header}

-- ---- what it takes (W2): refusal 18

unfoldable pub takes : ℕ → ℕ → List ℕ → Bool
takes density content s = leb density 7 && (ltb content (2 ^ 62) && input_right content s)

-- ---- which entries each chunk holds

-- the listing chunks, and the index levels, the lowest first; a chunk is the list of its entries
pub record Layout : Type 0 where
  pub leaves : List (List Stored)
  pub levels : List (List (List Stored))

-- over these listing chunks, wherever they are cut (W11). Five index levels are looked for; where there are so many, the depth is above 5
unfoldable pub layout_over : ℕ → List (List Stored) → Layout
layout_over n gs = record { leaves = gs; levels = levels_above n 5 0 gs }

-- of these entries: each listing chunk takes as many as fit (W10)
abbrev pub layout_of : ℕ → List Stored → Layout
layout_of n es = layout_over n (level n Listing es)

abbrev pub chunk_count : Layout → ℕ
chunk_count l = length l.leaves + length (flatten l.levels)

abbrev pub layout_depth : Layout → ℕ
layout_depth l = 1 + length l.levels

-- refusal 19 where it does not hold
unfoldable pub small_enough : Layout → Bool
small_enough l = leb (chunk_count l) 4096 && leb (layout_depth l) 5

-- ---- the chunks

-- the previous and the next of m listing chunks (W9)
unfoldable pub new_previous : ℕ → ℕ
new_previous c = cond (eqb c 0) no_chunk (c - 1)

unfoldable pub new_next : ℕ → ℕ → ℕ
new_next m c = cond (ltb (c + 1) m) (c + 1) no_chunk

-- chunks of a kind, numbered from c on, of which the first m are the listing chunks
unfoldable pub chunks_of : Kind → ℕ → ℕ → ℕ → List (List Stored) → List (List ℕ)
chunks_of k n m c [] = []
chunks_of k n m c (g ∷ gs) = new_chunk k n (new_previous c) (new_next m c) g ∷ chunks_of k n m (c + 1) gs

-- all chunks, in the order of their numbers
unfoldable pub chunk_list : ℕ → Layout → List (List ℕ)
chunk_list n l =
    chunks_of Listing n (length l.leaves) 0 l.leaves ++ chunks_of Index n (length l.leaves) (length l.leaves) (flatten l.levels)

-- ---- the head

-- the root is the last chunk; at depth 1 there is none (W11, W12)
unfoldable pub new_root : ℕ → ℕ → ℕ
new_root depth count = cond (eqb depth 1) no_chunk (count - 1)

-- headers and chunks; content is the content's length
unfoldable pub head_bytes : (density time language content : ℕ) → Layout → List ℕ
head_bytes density time language content l =
    file_header time language (chunk_count l)
    ++ (section_zero (head_length (chunk_count l) + content)
    ++ (directory_header language density (layout_depth l) (new_root (layout_depth l) (chunk_count l)) (length l.leaves - 1) (chunk_count l)
    ++ flatten (chunk_list (spacing_of density) l)))

-- the layout that the inputs fix
abbrev pub layout_for : ℕ → ℕ → List ℕ → Layout
layout_for density content s = layout_of (spacing_of density) (given content s)
