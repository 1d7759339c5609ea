-- How many comparisons of the asked name a search in one chunk makes. First over the list of a chunk's entries, which is what is meant; then over the
-- chunk's bytes, which is how it goes. `cost_good` of proofs/Counts.antt says that on a chunk that passes its check the two are the same.
use Rattle.std.specs.Prelude.{List, [], ◌∷◌, ℕ, zero, suc, ◌+◌, ◌*◌, ◌^◌, ◌≤◌, length, take, drop, Option, Some, None}
use Rattle.fields.specs.Part.{part}
use Rattle.entries.specs.Entry.{with_number, name_at, item_at, with_item, Entry}
use Rattle.entries.specs.declared.Limits.{Limits}
use Rattle.entries.specs.declared.Kind.{Kind}
use Rattle.entries.specs.declared.Kind.TheVariants.{Listing, Index}
use Rattle.chunk_fields.specs.ChunkFields.{quick_count}
use Rattle.quickref.specs.Quickref.{group_at}
use Rattle.halving.specs.Halving.{Stand, group_in, size_in}
use Rattle.halving.specs.Halvings.{halvings, above_in, group_of, halvings_in}
use Rattle.seek.specs.Seek.{by_order}

-- ---- among entries

-- from the front up to the first name that is not below the asked one (Q10)
unfoldable pub passed : Stand → List Entry → ℕ
passed stand [] = 0
passed stand (e ∷ es) = suc (by_order (stand e.name) 0 0 (passed stand es))

-- the groups are halved, and the one that is left is gone through (Q11)
unfoldable pub comparisons : ℕ → Stand → List Entry → ℕ
comparisons n stand es =
    halvings (above_in n stand es) (quick_count n (length es)) 0 (quick_count n (length es))
    + passed stand (take n (drop (group_of n stand es * n) es))

-- h is the least whole number for which 2 ^ h is g or more (Q12)
pub record Least (g h : ℕ) : Type 0 where
  pub enough : g ≤ 2 ^ h
  pub least : (k : ℕ) → g ≤ 2 ^ k → h ≤ k

-- ---- over the bytes of a chunk; in those of a chunk that passes its check each turn has its name

-- the name that is compared at a place, if there is one: a listing entry is read whole before, of an index entry only the name
unfoldable pub compared_at : Limits → Kind → List ℕ → ℕ → Option (ℕ × ℕ)
compared_at limits Listing s at = with_item (item_at limits Listing s at) None (λ e. Some (e.len, e.start))
compared_at limits Index s at = name_at s at

-- among n entries from a place on
unfoldable pub walked : Limits → Kind → List ℕ → Stand → ℕ → ℕ → ℕ
walked limits k s stand zero at = 0
walked limits k s stand (suc n) at =
    with_number (compared_at limits k s at) 0 (λ len start.
    suc (by_order (stand (part s start len)) 0 0 (with_item (item_at limits k s at) 0 (λ e. walked limits k s stand n e.next))))

-- in all
unfoldable pub cost_in : Limits → Kind → List ℕ → Stand → ℕ
cost_in limits k s stand =
    halvings_in limits k s stand + walked limits k s stand (size_in limits s (group_in limits k s stand)) (group_at k s (group_in limits k s stand))
