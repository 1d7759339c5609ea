-- Entry i of a chunk. First over the list of a chunk's entries, which is what is meant; then over the chunk's bytes, by its quick words.
-- The laws of proofs/Good.antt say that on a chunk that passes its check the two are the same.
use Rattle.std.specs.Prelude.{ℕ, zero, suc, ◌+◌, ◌-◌, ◌/◌, ◌%◌, List, [], ◌∷◌, cond, ltb, eqb, Option, Some, None}
use Rattle.entries.specs.Entry.{item_at, with_item, Entry, entry_of}
use Rattle.entries.specs.declared.Limits.{Limits}
use Rattle.entries.specs.declared.Kind.{Kind}
use Rattle.chunk_fields.specs.ChunkFields.{first_place, entry_count, spacing_of, quick_word}
use Rattle.entries.specs.declared.Place.{Place}

-- ---- among entries

pub data Sought : Type 0 where
  absent : Sought
  found : Entry → Sought

-- entry i
unfoldable pub nth : ℕ → List Entry → Sought
nth i [] = absent
nth zero (e ∷ es) = found e
nth (suc i) (e ∷ es) = nth i es

-- the last entry, with `last` that of the entries before
unfoldable pub final : Sought → List Entry → Sought
final last [] = last
final last (e ∷ es) = final (found e) es

-- the name of an entry that is there; else no bytes
abbrev pub name_in : Sought → List ℕ
name_in absent = []
name_in (found e) = e.name

-- what an answer says of the chunk s
abbrev pub sought_of : List ℕ → Option Place → Sought
sought_of s None = absent
sought_of s (Some e) = found (entry_of s e)

-- ---- over the bytes of a chunk; a walk ends at the first thing that is no entry

-- the entry behind j others, the first of which stands at a place
unfoldable pub after_at : Limits → Kind → List ℕ → ℕ → ℕ → Option Place
after_at limits k s zero at = item_at limits k s at
after_at limits k s (suc j) at = with_item (item_at limits k s at) None (λ e. after_at limits k s j e.next)

-- ---- groups: the first entry and each that has a quick word begin one (Q8)

-- the place of the entry that quick word g is for; the first entry for 0
unfoldable pub group_at : Kind → List ℕ → ℕ → ℕ
group_at k s g = cond (eqb g 0) (first_place k) (first_place k + quick_word s g)

-- entry i, from the last quick word that is not behind it
unfoldable pub nth_in : Limits → Kind → List ℕ → ℕ → Option Place
nth_in limits k s i =
    cond (ltb i (entry_count s)) (after_at limits k s (i % spacing_of limits.density) (group_at k s (i / spacing_of limits.density))) None

abbrev pub first_in : Limits → Kind → List ℕ → Option Place
first_in limits k s = nth_in limits k s 0

abbrev pub last_in : Limits → Kind → List ℕ → Option Place
last_in limits k s = nth_in limits k s (entry_count s - 1)
