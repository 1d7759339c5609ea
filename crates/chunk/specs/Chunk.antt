-- The meaning of a chunk's bytes: what the rules on a chunk by itself make of them (FORMAT, Chunk).
use Rattle.std.specs.Prelude.{ℕ, zero, suc, ◌+◌, ◌-◌, ◌*◌, ◌/◌, ◌%◌, List, [], ◌∷◌, Bool, true, false, cond, ◌&&◌, ◌||◌, length, ltb, leb, eqb}
use Rattle.fields.specs.Same.{stands_at}
use Rattle.entries.specs.Entry.{with_item, item_at, Entry, entry_name, entry_of}
use Rattle.entries.specs.Rising.{rising}
use Rattle.chunk_fields.specs.ChunkFields.{tag_of, first_place, entry_count, tail_length, previous_link, next_link, spacing_of, quick_count, quick_word}
use Rattle.entries.specs.declared.Limits.{Limits}
use Rattle.entries.specs.declared.Kind.{Kind}
use Rattle.entries.specs.declared.Kind.TheVariants.{Listing, Index}
use Rattle.refusals.specs.declared.Rule.TheVariants.{ChunkTag, ChunkFrame, BadEntry, QuickWords, NameOrder}
use Rattle.refusals.specs.declared.Rule.{Rule}

-- ---- what a chunk can mean

-- `bad` has the rule that is broken, `listing` the previous and the next listing chunk
pub data Parsed : Type 0 where
  bad : Rule → Parsed
  listing : ℕ → ℕ → List Entry → Parsed
  index : List Entry → Parsed

-- ---- the parts around the entries

-- there is an entry; the tail has room for the count and the quick words, and leaves room for the header: refusal 9
unfoldable pub framed : ℕ → Kind → List ℕ → Bool
framed n k s = ltb 0 (entry_count s) && (leb (2 + 2 * quick_count n (entry_count s)) (tail_length s) && leb (tail_length s) (4096 - first_place k))

-- ---- the entries: refusal 10

-- entries that were read one behind another; `broken` where one of them is no entry or the last does not end at the tail
pub data Entries : Type 0 where
  broken : Entries
  all : List Entry → Entries

abbrev pub entry_then : Entry → Entries → Entries
entry_then e broken = broken
entry_then e (all es) = all (e ∷ es)

-- n entries one behind another from a place on, the last of which ends at `end`
unfoldable pub entries_at : Limits → Kind → List ℕ → ℕ → ℕ → ℕ → Entries
entries_at limits k s end zero at = cond (eqb at end) (all []) broken
entries_at limits k s end (suc n) at = with_item (item_at limits k s at) broken (λ e. entry_then (entry_of s e) (entries_at limits k s end n e.next))

-- ---- the quick words: refusal 11

-- entry i, which stands at a place, has a quick word where i is a multiple of n other than 0: word i / n, its distance from the first entry
unfoldable pub quick_at : List ℕ → ℕ → ℕ → ℕ → ℕ → Bool
quick_at s n first i at = eqb i 0 || (ltb 0 (i % n) || eqb (first + quick_word s (i / n)) at)

-- each entry stands where its quick word says, if it has one; the first of the list is entry i
unfoldable pub quick : List ℕ → ℕ → ℕ → ℕ → List Entry → Bool
quick s n first i [] = true
quick s n first i (e ∷ es) = quick_at s n first i e.at && quick s n first (i + 1) es

-- ---- a whole chunk: the checks in their order, 8, 9, 10, 12, 11

abbrev pub parsed_with : Kind → List ℕ → List Entry → Parsed
parsed_with Listing s es = listing (previous_link s) (next_link s) es
parsed_with Index s es = index es

-- entries that were read, by the rules on all of them: their names rise, refusal 12, and their quick words are right, refusal 11
unfoldable pub checked_entries : ℕ → Kind → List ℕ → Entries → Parsed
checked_entries n k s broken = bad BadEntry
checked_entries n k s (all es) = cond (rising entry_name [] es) (cond (quick s n (first_place k) 0 es) (parsed_with k s es) (bad QuickWords)) (bad NameOrder)

-- a chunk of 4,096 bytes of a known kind, with n entries from one quick word to the next
unfoldable pub parsed_as : ℕ → Limits → Kind → List ℕ → Parsed
parsed_as n limits k s =
    cond (framed n k s) (checked_entries n k s (entries_at limits k s (4096 - tail_length s) (entry_count s) (first_place k))) (bad ChunkFrame)

-- any bytes as a chunk
unfoldable pub parsed : Limits → List ℕ → Parsed
parsed limits s =
    cond (eqb (length s) 4096)
    (cond (stands_at s 0 (tag_of Listing)) (parsed_as (spacing_of limits.density) limits Listing s)
    (cond (stands_at s 0 (tag_of Index)) (parsed_as (spacing_of limits.density) limits Index s)
    (bad ChunkTag)))
    (bad ChunkTag)

-- ---- what is asked of a parsed chunk

-- it passed its checks
abbrev pub is_good : Parsed → Bool
is_good (bad n) = false
is_good (listing p n es) = true
is_good (index es) = true

-- the entries; a refused chunk has none
abbrev pub entries_in : Parsed → List Entry
entries_in (bad n) = []
entries_in (listing p n es) = es
entries_in (index es) = es

-- it is good, and of the kind k
abbrev pub is_kind : Kind → Parsed → Bool
is_kind k (bad n) = false
is_kind Listing (listing p n es) = true
is_kind Listing (index es) = false
is_kind Index (listing p n es) = false
is_kind Index (index es) = true
