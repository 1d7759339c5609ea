-- A chunk in the making: what its parts leave in it.
use Rattle.std.specs.Prelude.{ℕ, ◌-◌, ◌%◌, cond, ◌&&◌, List, [], ◌++◌, map, length, take, replicate, ltb, eqb}
use Rattle.fields.specs.Le.{bytes}
use Rattle.entries.specs.declared.Kind.{Kind}
use Rattle.chunk_fields.specs.ChunkFields.{first_place, quick_count, quick_place}
use Rattle.entries.specs.Stored.{Stored, stored_of}
use Rattle.source.specs.Source.{rows_from}
use Rattle.compose.specs.NewChunk.{run_bytes, quick_words, entries_end}

-- the quick word of entry i, which stands a distance behind the first; none for entry 0, and where n does not divide i
unfoldable pub mark_bytes : ℕ → ℕ → ℕ → List ℕ
mark_bytes n i distance = cond (ltb 0 i && eqb (i % n) 0) (bytes 2 distance) []

-- the entries that a chunk takes from a cursor on
abbrev pub group_from : ℕ → List ℕ → List ℕ → Kind → ℕ → ℕ → ℕ → List Stored
group_from content s starts k left at count = map (stored_of s) (take count (rows_from content s starts k left at))

-- a chunk of the entries es, with any header and any last bytes
unfoldable pub between : Kind → ℕ → List ℕ → List ℕ → List Stored → List ℕ
between k n header last es =
    header ++ (run_bytes k es
    ++ (replicate (quick_place (quick_count n (length es)) - entries_end k es) 0 ++ (quick_words k n es (quick_count n (length es)) ++ last)))

-- the same with zeros for header and count
abbrev pub entries_only : Kind → ℕ → List Stored → List ℕ
entries_only k n es = between k n (replicate (first_place k) 0) (replicate 2 0) es
