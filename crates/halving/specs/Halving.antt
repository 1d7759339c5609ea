-- The group of a chunk to go through for a name, by halving over the quick words.
use Rattle.std.specs.Prelude.{ℕ, zero, suc, ◌+◌, ◌-◌, ◌*◌, ◌/◌, min, List, Bool, true, cond, ltb}
use Rattle.fields.specs.Part.{part}
use Rattle.std.specs.Ordering.{is_lt}
use Rattle.std.specs.declared.cmp.Ordering.{Ordering}
use Rattle.entries.specs.Entry.{with_number, name_at}
use Rattle.entries.specs.declared.Limits.{Limits}
use Rattle.entries.specs.declared.Kind.{Kind}
use Rattle.chunk_fields.specs.ChunkFields.{entry_count, spacing_of, quick_count}
use Rattle.quickref.specs.Quickref.{group_at}

-- ---- how the asked name stands to another; a search goes by this alone, so that another comparison can be put in

abbrev pub Stand : Type 0
Stand = List ℕ → Ordering

-- ---- halving: groups lo to hi are left (Q9)

-- the group whose first name is compared
abbrev pub middle : ℕ → ℕ → ℕ
middle lo hi = lo + (hi - lo + 1) / 2

-- `above g` says that the first name of group g is above the asked one: then the earlier groups are left, else that group and the later ones.
-- The group that stays, after i comparisons at most; as many as hi - lo are always enough (`halved_enough` of proofs/Halving.antt)
unfoldable pub halved : (ℕ → Bool) → ℕ → ℕ → ℕ → ℕ
halved above zero lo hi = lo
halved above (suc i) lo hi =
    cond (ltb lo hi) (cond (above (middle lo hi)) (halved above i lo (middle lo hi - 1)) (halved above i (middle lo hi) hi)) lo

-- ---- over the bytes of a chunk

-- the first name of group g is above the asked one, or is none
unfoldable pub group_above : Kind → List ℕ → Stand → ℕ → Bool
group_above k s stand g = with_number (name_at s (group_at k s g)) true (λ len start. is_lt (stand (part s start len)))

-- the last group of a chunk
abbrev pub last_group : Limits → List ℕ → ℕ
last_group limits s = quick_count (spacing_of limits.density) (entry_count s)

-- of all groups of a chunk, the one that halving leaves
unfoldable pub group_in : Limits → Kind → List ℕ → Stand → ℕ
group_in limits k s stand = halved (group_above k s stand) (last_group limits s) 0 (last_group limits s)

-- how many entries group g has
abbrev pub size_in : Limits → List ℕ → ℕ → ℕ
size_in limits s g = min (spacing_of limits.density) (entry_count s - g * spacing_of limits.density)
