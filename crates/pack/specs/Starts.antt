-- The levels of a new directory as they stand in the input: the entries of a level are found by a cursor, and of each chunk its first entry's
-- place is kept, for the level above.
use Rattle.std.specs.Prelude.{ℕ, ◌+◌, ◌<◌, ◌≡◌, List, [], ◌∷◌, length}
use Rattle.fields.specs.Part.{part}
use Rattle.entries.specs.Entry.{with_number, name_at}
use Rattle.entries.specs.declared.Place.{Place}
use Rattle.entries.specs.declared.Kind.{Kind}
use Rattle.entries.specs.Stored.{Stored}
use Rattle.source.specs.Source.{rows_from}
use Rattle.pack.specs.Groups.{fits, groups}
use Rattle.pack.specs.Levels.{group_name}
use Rattle.pack.specs.Fill.{row_size}

-- the chunks of a level, from a cursor on
unfoldable pub chunks_from : ℕ → List ℕ → List ℕ → Kind → ℕ → ℕ → ℕ → List (List Place)
chunks_from content s starts k n left at = groups (row_size k) (fits k n) (rows_from content s starts k left at)

-- where the first entry of a chunk stands
unfoldable pub first_at : List Place → ℕ
first_at [] = 0
first_at (e ∷ es) = e.at

-- the name that stands at a place; none where there is no name
unfoldable pub name_from : List ℕ → ℕ → List ℕ
name_from s p = with_number (name_at s p) [] (λ len start. part s start len)

-- the names at these places of s are the first names of these chunks
pub data Starts (s : List ℕ) : List ℕ → List (List Stored) → Type 0 where
  none : Starts s [] []
  more : {p : ℕ} {ps : List ℕ} {g : List Stored} {gs : List (List Stored)}
      → name_from s p ≡ group_name g → 0 < length (group_name g) → Starts s ps gs → Starts s (p ∷ ps) (g ∷ gs)

-- so it is for each level, where `starts` has the places of all chunks from number c on
pub data AllStarts (s starts : List ℕ) : ℕ → List (List (List Stored)) → Type 0 where
  end : {c : ℕ} → AllStarts s starts c []
  level : {c : ℕ} {gs : List (List Stored)} {ls : List (List (List Stored))}
      → Starts s (part starts c (length gs)) gs → AllStarts s starts (c + length gs) ls → AllStarts s starts c (gs ∷ ls)
