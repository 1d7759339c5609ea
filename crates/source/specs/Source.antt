-- Where the entries of a level come from. A level of listing chunks takes them from the input, by place; a level of index chunks has one
-- for each chunk of the level below, by number, with the first name of that chunk (FORMAT W11, T4).
use Rattle.std.specs.Prelude.{ℕ, zero, suc, ◌+◌, cond, List, [], ◌∷◌, length, get_or, ltb, Option, Some, None}
use Rattle.entries.specs.Entry.{with_number, name_at, listing_at, with_item}
use Rattle.entries.specs.declared.Place.{Place}
use Rattle.entries.specs.declared.Kind.{Kind}
use Rattle.entries.specs.declared.Kind.TheVariants.{Listing, Index}

-- the entry for chunk c, whose first name has its entry in the input s at place c of `starts`
unfoldable pub index_entry_for : List ℕ → List ℕ → ℕ → Option Place
index_entry_for s starts c =
    cond (ltb c (length starts))
    (with_number (name_at s (get_or starts c 0)) None (λ len start.
    Some (record { at = get_or starts c 0; start = start; len = len; section = 0; offset = 0; size = 0; child = c; next = c + 1 })))
    None

-- the entry at a cursor of a level of a kind
unfoldable pub item_from : ℕ → List ℕ → List ℕ → Kind → ℕ → Option Place
item_from content s starts Listing at = listing_at content s at
item_from content s starts Index at = index_entry_for s starts at

-- what a step hands out of it, where `left` more may be taken
unfoldable pub taken_of : ℕ → Option Place → Option Place
taken_of zero i = None
taken_of (suc left) i = i

-- the entries from a cursor on, up to the first place where none stands; `left` at most
unfoldable pub entries_from : (ℕ → Option Place) → ℕ → ℕ → List Place
entries_from item zero at = []
entries_from item (suc left) at = with_item (item at) [] (λ e. e ∷ entries_from item left e.next)

-- where they end
unfoldable pub end_of : ℕ → List Place → ℕ
end_of at [] = at
end_of at (e ∷ es) = end_of e.next es

-- those of a level
abbrev pub rows_from : ℕ → List ℕ → List ℕ → Kind → ℕ → ℕ → List Place
rows_from content s starts k left at = entries_from (item_from content s starts k) left at
