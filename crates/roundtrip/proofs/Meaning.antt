-- A directory that means a layout: what each chunk number stands for, and the numbers of chain and tree.
use Rattle.fields.proofs.Base.{ℕ, ◌+◌, ◌-◌, ◌<◌, ◌≡◌, [], flatten, length, get_or}
use Rattle.entries.specs.declared.Kind.TheVariants.{Listing, Index}
use Rattle.chunk.specs.Chunk.{Parsed}
use Rattle.tree.specs.Shape.{Shape}
use Rattle.compose.proofs.Placed.{new_parsed}
use Rattle.layout.specs.Layout.{Layout, chunk_count, layout_depth, new_root, new_previous, new_next}

abbrev pub shape_for : Layout → Shape
shape_for l =
    record { count = chunk_count l; depth = layout_depth l; root = new_root (layout_depth l) (chunk_count l); first = 0; last = length l.leaves - 1 }

-- the listing chunks come first, then the index chunks
pub record Means (D : ℕ → Parsed) (l : Layout) : Type 0 where
  pub leaf : (c : ℕ) → c < length l.leaves
      → D c ≡ new_parsed Listing (new_previous c) (new_next (length l.leaves) c) (get_or l.leaves c [])
  pub node : (i : ℕ) → i < length (flatten l.levels)
      → D (length l.leaves + i) ≡ new_parsed Index 0 0 (get_or (flatten l.levels) i [])
