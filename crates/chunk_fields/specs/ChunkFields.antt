-- The fields of a chunk: where they stand, and what they say (FORMAT, Chunk).
use Rattle.std.specs.Prelude.{ℕ, ◌+◌, ◌-◌, ◌*◌, ◌/◌, ◌^◌, List, [], ◌∷◌, cond}
use Rattle.fields.specs.Le.{le}
use Rattle.fields.specs.Same.{stands_at}
use Rattle.entries.specs.declared.Kind.{Kind}
use Rattle.entries.specs.declared.Kind.TheVariants.{Listing, Index}

-- `PMGL` and `PMGI` (C1, C2)
abbrev pub tag_of : Kind → List ℕ
tag_of Listing = 0x50 ∷ 0x4D ∷ 0x47 ∷ 0x4C ∷ []
tag_of Index = 0x50 ∷ 0x4D ∷ 0x47 ∷ 0x49 ∷ []

-- the kind of a chunk that is of one of the two
abbrev pub kind_of : List ℕ → Kind
kind_of s = cond (stands_at s 0 (tag_of Listing)) Listing Index

-- the length of the header, behind which the first entry stands (C1, C2, C3)
abbrev pub first_place : Kind → ℕ
first_place Listing = 20
first_place Index = 8

-- where the count of entries stands: the chunk's last 16 bits (C4)
abbrev pub count_place : ℕ
count_place = 4094

-- the count of entries
abbrev pub entry_count : List ℕ → ℕ
entry_count s = le 2 s count_place

-- the length of the tail
abbrev pub tail_length : List ℕ → ℕ
tail_length s = le 4 s 4

-- of a listing chunk, the number of the one before it and of the one behind it (C1)
abbrev pub previous_link : List ℕ → ℕ
previous_link s = le 4 s 12

abbrev pub next_link : List ℕ → ℕ
next_link s = le 4 s 16

-- how many entries there are from one that has a quick word to the next
abbrev pub spacing_of : ℕ → ℕ
spacing_of density = 1 + 2 ^ density

-- how many quick words c entries have
abbrev pub quick_count : ℕ → ℕ → ℕ
quick_count n c = (c - 1) / n

-- where word k stands, from 1 on: backward from the count, two bytes apart (C7)
abbrev pub quick_place : ℕ → ℕ
quick_place k = count_place - 2 * k

abbrev pub quick_word : List ℕ → ℕ → ℕ
quick_word s k = le 2 s (quick_place k)
