-- What the search for a name in one chunk comes to, in a file read by any record, with how many comparisons it makes, and what a report of a name that was
-- found is worth.
use Rattle.std.specs.Prelude.{◌≡◌, true, cond, List, ℕ, ◌+◌, ◌≤◌, length, Option, Some, None}
use Rattle.fields.specs.Part.{part}
use Rattle.names.specs.Names.{compared, matches}
use Rattle.entries.specs.declared.Kind.TheVariants.{Listing, Index}
use Rattle.chunk_fields.specs.ChunkFields.{spacing_of}
use Rattle.chunk.specs.Chunk.{entries_in}
use Rattle.quickref.specs.Quickref.{Sought}
use Rattle.seek.specs.Seek.{entry_named, find_in, choose_in, child_of}
use Rattle.seek.specs.Count.{comparisons, cost_in}
use Rattle.seek.specs.declared.Searched.{Searched}
use Rattle.header.specs.declared.Record.{Record}
use Rattle.tree.specs.Shape.{next_of, listing_chunk}
use Rattle.book.specs.Book.{limits_of, chunk_bytes, directory_of, shape_of}
use Rattle.report.specs.Report.{report_of, report_at}
use Rattle.report.specs.declared.Report.{Report}
use Rattle.search.specs.declared.Search.{Search}
use Rattle.search.specs.declared.Search.TheVariants.{Found, Next}
use Rattle.entries.specs.declared.Place.{Place}

-- ---- in the bytes of chunk c, checked or not (K22)

-- n is how many comparisons were made
abbrev pub finding_of : List ℕ → Record → ℕ → ℕ → Option Place → Searched (Option Report)
finding_of s book c n None = record { answer = None; count = n }
finding_of s book c n (Some e) = record { answer = Some (report_at s book c e); count = n }

-- the entry of a listing chunk whose name compares equal
unfoldable pub finding_in : List ℕ → Record → List ℕ → ℕ → Searched (Option Report)
finding_in s book name c =
    finding_of s book c (cost_in (limits_of s book) Listing (chunk_bytes s book c) (compared name)) (find_in (limits_of s book) (chunk_bytes s book c) (compared name))

-- where an index chunk leads
unfoldable pub child_in : List ℕ → Record → List ℕ → ℕ → Searched (Option ℕ)
child_in s book name c =
    record {
      answer = child_of (choose_in (limits_of s book) (chunk_bytes s book c) (compared name));
      count = cost_in (limits_of s book) Index (chunk_bytes s book c) (compared name);
    }

-- ---- in a chunk that passes its check

-- how many comparisons are made in chunk c (Q11)
abbrev pub cost_at : List ℕ → Record → List ℕ → ℕ → ℕ
cost_at s book name c = comparisons (spacing_of book.density) (compared name) (entries_in (directory_of s book c))

-- the entry of listing chunk c that holds the name (Q5, K6), or the number of the chunk's next; n is how many comparisons were made
abbrev pub search_of : Record → ℕ → ℕ → ℕ → Sought → Option Search
search_of book c next n (Sought.found e) = Some (Found n (report_of book c e))
search_of book c next n Sought.absent = Some (Next n next)

-- in chunk c; none where it is no listing chunk below the count (K13)
unfoldable pub search_in : List ℕ → Record → List ℕ → ℕ → Option Search
search_in s book name c =
    cond (listing_chunk (directory_of s book) (shape_of book) c)
    (search_of book c (next_of (directory_of s book c)) (cost_at s book name c) (entry_named name (entries_in (directory_of s book c))))
    None

-- ---- what a report is worth

-- the name stands inside the file where the report says, equal to the asked one (S1, S2, K24)
abbrev pub Stands : List ℕ → List ℕ → Report → Type 0
Stands s name x = (x.place + x.length ≤ length s) × (matches name (part s x.place x.length) ≡ true)
