-- Search in one chunk. First over the list of a chunk's entries, which is what a search means; then over the chunk's bytes, which is how it goes.
-- The laws of proofs/Good.antt say that on a chunk that passes its check the two are the same.
use Rattle.std.specs.Prelude.{ℕ, zero, suc, List, [], ◌∷◌, cond, Option, Some, None}
use Rattle.names.specs.Names.{below, matches}
use Rattle.std.specs.declared.cmp.Ordering.{Ordering}
use Rattle.std.specs.declared.cmp.Ordering.TheVariants.{Less, Equal, Greater}
use Rattle.entries.specs.Entry.{item_at, name_of, with_item, Entry}
use Rattle.entries.specs.declared.Limits.{Limits}
use Rattle.entries.specs.declared.Kind.TheVariants.{Listing, Index}
use Rattle.quickref.specs.Quickref.{Sought, absent, found, group_at}
use Rattle.halving.specs.Halving.{Stand, group_in, size_in}
use Rattle.entries.specs.declared.Place.{Place}

-- ---- what is sought among entries

-- the entry whose name compares equal to a name
unfoldable pub entry_named : List ℕ → List Entry → Sought
entry_named name [] = absent
entry_named name (e ∷ es) = cond (matches name e.name) (found e) (entry_named name es)

-- the last entry whose name is not above a name, with `last` that of the entries before
unfoldable pub choice : List ℕ → Sought → List Entry → Sought
choice name last [] = last
choice name last (e ∷ es) = choice name (cond (below name e.name) last (found e)) es

-- ---- by how the asked name stands to another

abbrev pub by_order : {A : Type 0} → Ordering → A → A → A → A
by_order Less less equal greater = less
by_order Equal less equal greater = equal
by_order Greater less equal greater = greater

-- ---- the search over the bytes of a chunk; it ends at the first thing that is no entry

-- among n entries from a place on, up to the first whose name is not below the asked one (Q10): that entry, if its name compares equal
unfoldable pub find_at : Limits → List ℕ → Stand → ℕ → ℕ → Option Place
find_at limits s stand zero at = None
find_at limits s stand (suc n) at =
    with_item (item_at limits Listing s at) None (λ e. by_order (stand (name_of s e)) None (Some e) (find_at limits s stand n e.next))

-- up to the same entry: it, if its name compares equal, else the last before it, with `best` that of the entries before
unfoldable pub choose_at : Limits → List ℕ → Stand → Option Place → ℕ → ℕ → Option Place
choose_at limits s stand best zero at = best
choose_at limits s stand best (suc n) at =
    with_item (item_at limits Index s at) best (λ e. by_order (stand (name_of s e)) best (Some e) (choose_at limits s stand (Some e) n e.next))

-- ---- the searches of a whole chunk: the groups are halved, and the one that is left is gone through from its front, no further than its end

abbrev pub find_in : Limits → List ℕ → Stand → Option Place
find_in limits s stand = find_at limits s stand (size_in limits s (group_in limits Listing s stand)) (group_at Listing s (group_in limits Listing s stand))

abbrev pub choose_in : Limits → List ℕ → Stand → Option Place
choose_in limits s stand =
    choose_at limits s stand None (size_in limits s (group_in limits Index s stand)) (group_at Index s (group_in limits Index s stand))

-- where an index chunk leads: the child of the entry that was chosen
abbrev pub child_of : Option Place → Option ℕ
child_of None = None
child_of (Some e) = Some e.child
