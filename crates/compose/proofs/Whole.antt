-- A whole chunk, from what it takes: its entries are there, and with their quick words they have room (`extent_told`); with a header and
-- a count they are a chunk (`chunk_written`).
use Rattle.fields.proofs.Base.{◌≡◌, sym, ap, ap₂, subst, ◌∙◌, true, List, [], ◌++◌, append_assoc, append-nil, ℕ, ◌+◌, ◌-◌, ◌*◌, ◌≤◌, ◌<◌, arith, zero-div, zero-add, length, take, replicate, length-append, length-replicate, length-map, sets, length-take-le, le-leb}
use Rattle.fields.specs.Le.{bytes}
use Rattle.fields.proofs.Le.{length_bytes}
use Rattle.entries.specs.declared.Place.{Place}
use Rattle.entries.specs.declared.Kind.{Kind}
use Rattle.chunk_fields.specs.ChunkFields.{first_place, quick_count, count_place}
use Rattle.chunk.proofs.Frame.{head_small}
use Rattle.entries.specs.Stored.{Stored, stored_of}
use Rattle.source.specs.Source.{rows_from}
use Rattle.fields.proofs.Lists.{All, all_take, all_weaken}
use Rattle.source.proofs.Rows.{Row, rows_all}
use Rattle.pack.specs.Groups.{fits, taken}
use Rattle.pack.specs.Fill.{row_size, extent_from}
use Rattle.pack.specs.declared.Extent.{Extent}
use Rattle.pack.proofs.Groups.{sizes, taken_le, taken_fits, sizes_long}
use Rattle.pack.proofs.Sizes.{row_long}
use Rattle.pack.proofs.Filling.{Extends, extent_is, fits_small}
use Rattle.compose.specs.NewChunk.{chunk_header, run_bytes, quick_words, tail_bytes, entries_end, new_chunk}
use Rattle.compose.specs.Steps.{group_from, between, entries_only}
use Rattle.compose.proofs.Composing.{run_sizes, length_quick}
use Rattle.compose.proofs.Entries.{length_chunk_header}
use Rattle.compose.proofs.Zeros.{into_front}

-- ---- header and count take the place of zeros

module _ (k : Kind) (n : ℕ) (es : List Stored) (room : entries_end k es + (2 * quick_count n (length es) + 2) ≤ 4096) where
  -- what stands between them
  body : List ℕ
  body = run_bytes k es ++ (replicate (count_place - 2 * quick_count n (length es) - entries_end k es) 0 ++ quick_words k n es (quick_count n (length es)))

  length_body : first_place k + length body ≡ count_place
  unfolding body
  length_body = simp (length-append, length-replicate, length_quick k n es (quick_count n (length es))) (omega arith)

  between_body : (hd lt : List ℕ) → between k n hd lt es ≡ hd ++ (body ++ lt)
  unfolding between body
  between_body hd lt = simp append_assoc

  in_place : (hd lt : List ℕ) → length hd ≡ first_place k → length lt ≡ 2 → sets (sets (entries_only k n es) 0 hd) count_place lt ≡ between k n hd lt es
  in_place hd lt lh ll =
      let z : List ℕ = replicate 2 0 in
      let o : first_place k - length hd ≡ 0 = omega arith in
      let q : 2 - length lt ≡ 0 = omega arith in
      let p : count_place ≡ length (hd ++ body) = omega (arith, length_body, length-append hd body) in
      ap (λ (l : List ℕ). sets (sets l 0 hd) count_place lt) (between_body (replicate (first_place k) 0) z)
      ∙ ap (λ (l : List ℕ). sets l count_place lt) (into_front [] (first_place k) (body ++ z) hd (omega arith))
      ∙ ap (λ (m : ℕ). sets (hd ++ (replicate m 0 ++ (body ++ z))) count_place lt) o
      ∙ ap (λ (l : List ℕ). sets l count_place lt) (sym (append_assoc hd body z))
      ∙ ap (λ (m : ℕ). sets ((hd ++ body) ++ z) m lt) p
      ∙ into_front (hd ++ body) 2 [] lt (omega arith)
      ∙ ap (λ (m : ℕ). (hd ++ body) ++ (lt ++ (replicate m 0 ++ []))) q
      ∙ ap (λ (l : List ℕ). (hd ++ body) ++ l) (append-nil lt)
      ∙ append_assoc hd body lt
      ∙ sym (between_body hd lt)

  framed : (prev next : ℕ)
      → sets (sets (entries_only k n es) 0 (chunk_header k (4096 - entries_end k es) prev next)) count_place (bytes 2 (length es)) ≡ new_chunk k n prev next es
  unfolding new_chunk tail_bytes between
  framed prev next =
      in_place (chunk_header k (4096 - entries_end k es) prev next) (bytes 2 (length es)) (length_chunk_header k (4096 - entries_end k es) prev next) (length_bytes 2 (length es))

-- ---- what a chunk takes

module _ (content : ℕ) (s starts : List ℕ) (k : Kind) (left at n : ℕ) (f : Extent) (is : f ≡ extent_from k n 0 0 at left (rows_from content s starts k left at)) where
  abbrev rows : List Place
  rows = rows_from content s starts k left at

  abbrev m : ℕ
  m = taken (row_size k) (fits k n) 0 0 rows

  told : Extends k n 0 0 at left rows m f
  told = subst (Extends k n 0 0 at left rows m) (sym is) (extent_is k n 0 0 at left rows)

  pub count_is : f.count ≡ m
  count_is = omega (arith, told.count)

  none_fits : fits k n 0 0 ≡ true
  none_fits = let l : first_place k + 0 + (2 * quick_count n 0 + 2) ≤ 4096 = omega (arith, zero-div n, head_small k) in le-leb _ _ l

  all_rows : All (Row s) (take m rows)
  all_rows = all_take m (rows_all content s starts k left at)

  pub record Told : Type 0 where
    pub there : f.count ≤ length rows
    pub bytes : f.bytes ≡ length (run_bytes k (group_from content s starts k left at f.count))
    pub room : first_place k + f.bytes + (2 * quick_count n f.count + 2) ≤ 4096
    pub few : f.count ≤ f.bytes

  pub extent_told : Told
  extent_told =
      let c = count_is in
      let b : f.bytes ≡ sizes (row_size k) (take m rows) = told.bytes ∙ zero-add _ in
      let t : fits k n (0 + m) (0 + sizes (row_size k) (take m rows)) ≡ true = taken_fits (row_size k) (fits k n) 0 0 rows none_fits in
      let u : fits k n f.count f.bytes ≡ true = rw (c, b) (rw (zero-add m, zero-add (sizes (row_size k) (take m rows))) at t) in
      let l = sizes_long (row_size k) (fits k n) (take m rows) (all_weaken (λ (e : Place) (r : Row s e). let z : 0 < row_size k e = omega (arith, r.some, row_long k e) in z) all_rows) in
      let tl = taken_le (row_size k) (fits k n) 0 0 rows in
      record {
        there = omega arith;
        bytes = b ∙ sym (run_sizes k s (take m rows) all_rows) ∙ ap (λ (j : ℕ). length (run_bytes k (group_from content s starts k left at j))) (sym c);
        room = fits_small k n f.count f.bytes u;
        few = omega (arith, length-take-le m rows tl);
      }

  group_length : length (group_from content s starts k left at f.count) ≡ f.count
  group_length = length-map (take f.count rows) (stored_of s) ∙ length-take-le f.count rows extent_told.there

  group_room : entries_end k (group_from content s starts k left at f.count) + (2 * quick_count n (length (group_from content s starts k left at f.count)) + 2) ≤ 4096
  group_room = let t = extent_told in omega (arith, t.room, t.bytes, ap (λ (j : ℕ). quick_count n j) group_length)

  -- header and count on the entries that were taken
  pub chunk_written : (prev next : ℕ) (out o : List ℕ) → out ≡ entries_only k n (group_from content s starts k left at f.count)
      → o ≡ sets (sets out 0 (chunk_header k (4096 - (first_place k + f.bytes)) prev next)) count_place (bytes 2 f.count)
      → o ≡ new_chunk k n prev next (group_from content s starts k left at f.count)
  chunk_written prev next out o is₁ w =
      let g = group_from content s starts k left at f.count in
      let t = extent_told in
      w
      ∙ ap (λ (x : List ℕ). sets (sets x 0 (chunk_header k (4096 - (first_place k + f.bytes)) prev next)) count_place (bytes 2 f.count)) is₁
      ∙ ap₂ (λ (b c : ℕ). sets (sets (entries_only k n g) 0 (chunk_header k (4096 - (first_place k + b)) prev next)) count_place (bytes 2 c)) t.bytes (sym group_length)
      ∙ framed k n g group_room prev next

-- ---- the length of a chunk

pub length_chunk : (k : Kind) (n prev next : ℕ) (es : List Stored) → entries_end k es + (2 * quick_count n (length es) + 2) ≤ 4096 → length (new_chunk k n prev next es) ≡ 4096
unfolding new_chunk tail_bytes
length_chunk k n prev next es h =
    let q = quick_count n (length es) in
    let tail = 4096 - entries_end k es in
    simp (length-append, length-replicate, length_bytes, length_quick k n es q, length_chunk_header k tail prev next) (omega arith)

pub length_extent : (content : ℕ) (s starts : List ℕ) (k : Kind) (left at n : ℕ) (f : Extent) → f ≡ extent_from k n 0 0 at left (rows_from content s starts k left at)
    → (prev next : ℕ) → length (new_chunk k n prev next (group_from content s starts k left at f.count)) ≡ 4096
length_extent content s starts k left at n f is prev next =
    length_chunk k n prev next (group_from content s starts k left at f.count) (group_room content s starts k left at n f is)
