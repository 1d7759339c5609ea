-- The entries that the writer is given (FORMAT W1, W2).
use Rattle.std.specs.Prelude.{ℕ, Bool, true, ◌&&◌, List, [], ◌∷◌, map, length, ltb, eqb}
use Rattle.entries.specs.Entry.{listing_at}
use Rattle.entries.specs.declared.Place.{Place}
use Rattle.entries.specs.Rising.{rising}
use Rattle.entries.specs.Stored.{Stored, stored_of, unpadded, stored_name}
use Rattle.source.specs.Source.{entries_from, end_of}

-- where they stand: one directly behind another, as far as they are whole and good by E3 to E6
abbrev pub places_of : ℕ → List ℕ → List Place
places_of content s = entries_from (listing_at content s) (length s) 0

-- the entries
unfoldable pub given : ℕ → List ℕ → List Stored
given content s = map (stored_of s) (places_of content s)

-- none of them is padded
unfoldable pub all_unpadded : List ℕ → List Place → Bool
all_unpadded s [] = true
all_unpadded s (e ∷ es) = unpadded s e && all_unpadded s es

-- one or more; the last ends where the input does; every number is in its short form; their names rise strictly
unfoldable pub input_right : ℕ → List ℕ → Bool
input_right content s =
    ltb 0 (length (places_of content s)) && (eqb (end_of 0 (places_of content s)) (length s) && (all_unpadded s (places_of content s) && rising stored_name [] (given content s)))
