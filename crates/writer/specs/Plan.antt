-- What the parts of the writer's code ask for and leave.
use Rattle.std.specs.Prelude.{◌⊎◌, ℕ, ◌+◌, ◌-◌, ◌^◌, ◌≤◌, ◌<◌, ◌≡◌, Bool, true, false, cond, ◌&&◌, length, take, set, ltb, leb, Option, Some, None, Result, Ok, Err}
use mathlib.Core.List.{List, [], ◌∷◌, ◌++◌, map, flatten}
use Rattle.std.proofs.lemmas.List.Edits.{sets}
use Rattle.entries.specs.declared.Place.{Place}
use Rattle.entries.specs.declared.Kind.{Kind}
use Rattle.entries.specs.declared.Kind.TheVariants.{Listing, Index}
use Rattle.source.specs.Input.{given, input_right}
use Rattle.pack.specs.Groups.{fits}
use Rattle.pack.specs.Fill.{row_size}
use Rattle.pack.specs.Starts.{chunks_from, first_at, AllStarts}
use Rattle.layout.specs.Headers.{head_length, file_header, section_zero, directory_header}
use Rattle.layout.specs.Layout.{Layout, layout_of, chunk_count, layout_depth, small_enough, new_root, chunks_of}
use Rattle.writer.specs.declared.Sizes.{Sizes}
use Rattle.writer.specs.declared.Open.{Open}
use Rattle.refusals.specs.declared.Rule.TheVariants.{BadInput, TooManyChunks}
use Rattle.refusals.specs.declared.Rule.{Rule}

-- ---- what is asked of density and content length (W2)

unfoldable pub in_bounds : ℕ → ℕ → Bool
in_bounds density content = leb density 7 && ltb content (2 ^ 62)

-- ---- the listing chunks so far, as the input is read, and the entry that comes next

-- what is known of them: no number grows past the bytes of a chunk, or past what can be taken
pub record Next (f : Open) (e : Place) (size : ℕ) : Type 0 where
  pub sized : size ≡ row_size Listing e
  pub short : e.len ≤ 1024
  pub small : f.bytes ≤ 4096
  pub counted : f.count ≤ f.bytes
  pub numbered : f.chunks + 1 < 2 ^ 64

-- with that entry: in the last chunk, or as the first of a new one
unfoldable pub open_with : ℕ → Open → Place → Open
open_with n f e =
    cond (fits Listing n (f.count + 1) (f.bytes + row_size Listing e))
    (record { chunks = f.chunks; count = f.count + 1; bytes = f.bytes + row_size Listing e })
    (record { chunks = f.chunks + 1; count = 1; bytes = row_size Listing e })

-- and the places of their first entries, as far as there is room for them
unfoldable pub starts_with : ℕ → Open → Place → List ℕ → List ℕ
starts_with n f e starts =
    cond (fits Listing n (f.count + 1) (f.bytes + row_size Listing e)) starts (set starts f.chunks e.at)

-- ---- the listing level, checked and planned: m is the number of its chunks

pub record ListingLevel (content : ℕ) (s : List ℕ) (n : ℕ) (starts₀ starts : List ℕ) (m : ℕ) : Type 0 where
  pub right : input_right content s ≡ true
  pub count : m ≡ length (chunks_from content s [] Listing n (length s) 0)
  pub places : starts ≡ sets starts₀ 0 (map first_at (chunks_from content s [] Listing n (length s) 0))

abbrev pub ListingPlanned : ℕ → List ℕ → ℕ → List ℕ → List ℕ → Option ℕ → Type 0
ListingPlanned content s n starts₀ starts (Some m) = ListingLevel content s n starts₀ starts m
ListingPlanned content s n starts₀ starts None = input_right content s ≡ false

-- ---- an index level that is planned: its chunks are numbered from `end` on; r is the number behind the last, where there is room for them

pub record IndexLevel (content : ℕ) (s : List ℕ) (n base end : ℕ) (starts₀ starts : List ℕ) (r : ℕ) : Type 0 where
  pub room : r ≤ length starts₀
  pub count : r ≡ end + length (chunks_from content s (take end starts₀) Index n (end - base) base)
  pub places : starts ≡ sets starts₀ end (map first_at (chunks_from content s (take end starts₀) Index n (end - base) base))

abbrev pub LevelPlanned : ℕ → List ℕ → ℕ → ℕ → ℕ → List ℕ → List ℕ → Option ℕ → Type 0
LevelPlanned content s n base end starts₀ starts (Some r) = IndexLevel content s n base end starts₀ starts r
LevelPlanned content s n base end starts₀ starts None = length starts₀ < end + length (chunks_from content s (take end starts₀) Index n (end - base) base)

-- ---- all levels of a layout, planned: m is the number of its listing chunks

pub record LevelsPlanned (s starts : List ℕ) (l : Layout) (m depth count : ℕ) : Type 0 where
  pub listings : m ≡ length l.leaves
  pub deep : depth ≡ layout_depth l
  pub counted : count ≡ chunk_count l
  pub small : count ≤ 4096
  pub flat : depth ≤ 5
  pub named : AllStarts s starts 0 (l.leaves ∷ l.levels)

abbrev pub Planned : ℕ → List ℕ → ℕ → List ℕ → Result Sizes Rule → Type 0
Planned content s n starts (Ok z) = (input_right content s ≡ true) × LevelsPlanned s starts (layout_of n (given content s)) z.listings z.depth z.count
Planned content s n starts (Err r) =
    ((r ≡ TooManyChunks) × (input_right content s ≡ true) × (small_enough (layout_of n (given content s)) ≡ false))
    ⊎ ((r ≡ BadInput) × (input_right content s ≡ false))

-- ---- room for a level, and for all index levels

pub record LevelFits (content : ℕ) (s starts : List ℕ) (k : Kind) (n left at end room : ℕ) : Type 0 where
  pub known : end ≤ length starts
  pub few : end + length (chunks_from content s (take end starts) k n left at) ≤ 4096
  pub enough : head_length (end + length (chunks_from content s (take end starts) k n left at)) ≤ room

-- the index chunks
abbrev pub index_of : ℕ → ℕ → Layout → List (List ℕ)
index_of n m l = chunks_of Index n m m (flatten l.levels)

pub record IndexFits (s starts : List ℕ) (l : Layout) (m room : ℕ) : Type 0 where
  pub listings : m ≡ length l.leaves
  pub small : chunk_count l ≤ 4096
  pub flat : layout_depth l ≤ 5
  pub known : length starts ≡ 4096
  pub named : AllStarts s starts 0 (l.leaves ∷ l.levels)
  pub enough : head_length (chunk_count l) ≤ room

-- ---- the headers, and the whole

unfoldable pub headers_of : (density time language content m depth count : ℕ) → List ℕ
headers_of density time language content m depth count =
    file_header time language count ++ (section_zero (head_length count + content) ++ directory_header language density depth (new_root depth count) (m - 1) count)

pub record Ready (s starts : List ℕ) (l : Layout) (m depth count room : ℕ) : Type 0 where
  pub made : LevelsPlanned s starts l m depth count
  pub known : length starts ≡ 4096
  pub some : 0 < m
  pub enough : head_length count ≤ room
