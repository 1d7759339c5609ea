-- How many comparisons of the asked name halving makes; and halving over the list of a chunk's entries, which is what is meant.
-- `same_group` and `same_halvings` of proofs/Same.antt say that on a chunk that passes its check halving over its bytes is the same.
use Rattle.std.specs.Prelude.{List, Bool, cond, ℕ, zero, suc, ◌-◌, ◌*◌, ltb, length}
use Rattle.std.specs.Ordering.{is_lt}
use Rattle.entries.specs.declared.Limits.{Limits}
use Rattle.entries.specs.declared.Kind.{Kind}
use Rattle.entries.specs.Entry.{Entry}
use Rattle.chunk_fields.specs.ChunkFields.{quick_count}
use Rattle.quickref.specs.Quickref.{nth, name_in}
use Rattle.halving.specs.Halving.{Stand, middle, halved, group_above, last_group}

-- groups lo to hi are left: how many first names are compared until one group is (Q9), i at most. The recursion is that of `halved`
unfoldable pub halvings : (ℕ → Bool) → ℕ → ℕ → ℕ → ℕ
halvings above zero lo hi = 0
halvings above (suc i) lo hi =
    cond (ltb lo hi) (suc (cond (above (middle lo hi)) (halvings above i lo (middle lo hi - 1)) (halvings above i (middle lo hi) hi))) 0

-- ---- among entries, n in each group but the last (Q8)

-- the first name of group g is above the asked one
abbrev pub above_in : ℕ → Stand → List Entry → ℕ → Bool
above_in n stand es g = is_lt (stand (name_in (nth (g * n) es)))

-- the group that is left of all
abbrev pub group_of : ℕ → Stand → List Entry → ℕ
group_of n stand es = halved (above_in n stand es) (quick_count n (length es)) 0 (quick_count n (length es))

-- ---- over the bytes of a chunk

-- to find the group; a turn counts also where its first name is none
abbrev pub halvings_in : Limits → Kind → List ℕ → Stand → ℕ
halvings_in limits k s stand = halvings (group_above k s stand) (last_group limits s) 0 (last_group limits s)
