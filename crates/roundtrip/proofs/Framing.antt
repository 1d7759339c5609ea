-- The headers of a new book are read back: they pass the checks of a head, give the record that the inputs fix, and each chunk stands where
-- the record says.
use Rattle.fields.proofs.Base.{ℕ, ◌+◌, ◌-◌, ◌*◌, ◌≤◌, ◌<◌, ◌^◌, arith, ℕ_discrete, ◌≡◌, refl, sym, ap, ◌∙◌, true, List, [], ◌∷◌, ◌++◌, flatten, length, get_or, le-leb, eq-eqb, ne_eqb, Ok}
use Rattle.fields.specs.Le.{le}
use Rattle.fields.proofs.Parts.{part_inside}
use Rattle.entries.specs.declared.Kind.TheVariants.{Listing, Index}
use Rattle.chunk_fields.specs.ChunkFields.{spacing_of}
use Rattle.file_header.specs.FileHeader.{file_fields_of}
use Rattle.file_header.specs.declared.FileFields.{FileFields}
use Rattle.file_header.proofs.Checks.{file_good, section_good}
use Rattle.directory_header.specs.DirectoryHeader.{directory_fields_of}
use Rattle.directory_header.proofs.Checks.{directory_good}
use Rattle.header.specs.Header.{header_in, section_in, directory_in, record_from, header_of}
use Rattle.header.proofs.Checks.{header_good}
use Rattle.book.specs.Book.{chunk_bytes}
use Rattle.entries.specs.Stored.{Stored}
use Rattle.fields.proofs.Lists.{All}
use Rattle.compose.specs.NewChunk.{new_chunk}
use Rattle.layout.specs.Headers.{head_length}
use Rattle.layout.specs.Layout.{Layout, chunk_count, layout_depth, new_root, small_enough, new_previous, new_next, chunk_list, head_bytes}
use Rattle.roundtrip.specs.RoundTrip.{record_for}
use Rattle.layout.proofs.Small.{small_told}
use Rattle.layout.proofs.Standing.{list_leaf, list_node}
use Rattle.layout.proofs.Places.{file_part, section_part, directory_part, length_book, book_chunk}
use Rattle.roundtrip.proofs.Fields.{FileRead, DirectoryRead, file_read, section_read, directory_read}
use Rattle.roundtrip.proofs.Passing.{version_pass, sections_pass, directory_pass}

-- no levels, no index chunks
flat_none : (gs : List (List (List Stored))) → length gs ≡ 0 → length (flatten gs) ≡ 0
unfolding flatten
flat_none [] h = refl
flat_none (g ∷ gs) h = absurd (omega arith)

-- the root has room in its field
root_small : (p n : ℕ) → n ≤ 4096 → new_root p n < 2 ^ 32
unfolding new_root
root_small p n h =
    elim (ℕ_discrete p 1) [
      | yes e ↦ rw (eq-eqb p 1 e) (omega arith)
      | no e ↦ rw (ne_eqb p 1 e) (omega arith)
    ]

-- headers that hold the numbers of a new book give its record
record_is : (density time language : ℕ) (l : Layout) (h d : List ℕ) → FileRead time language (chunk_count l) h
    → DirectoryRead density (layout_depth l) (new_root (layout_depth l) (chunk_count l)) (length l.leaves - 1) (chunk_count l) d
    → record_from (file_fields_of h) (directory_fields_of d) ≡ record_for density time language l
unfolding record_for
record_is density time language l h d f r =
    simp
    (f.version, f.time, f.language, f.directory, f.content, r.density, r.depth, r.root, r.first, r.last, r.count)

module _ (density time language : ℕ) (l : Layout) (content : List ℕ) (dense : density ≤ 7) (t : time < 2 ^ 32) (g : language < 2 ^ 32)
    (size : length content < 2 ^ 62) (small : small_enough l ≡ true) (some : 0 < length l.leaves)
    -- one listing chunk is the whole directory, more have an index over them
    (one : length l.levels ≡ 0 → length l.leaves ≡ 1) (more : 0 < length l.levels → 0 < length (flatten l.levels))
    -- every chunk is as long as a chunk
    (whole : All (λ (c : List ℕ). length c ≡ 4096) (chunk_list (spacing_of density) l)) where
  abbrev file : List ℕ
  file = head_bytes density time language (length content) l ++ content

  -- the numbers of chunks and levels, and the last listing chunk
  abbrev n : ℕ
  n = chunk_count l

  abbrev p : ℕ
  p = layout_depth l

  abbrev e : ℕ
  e = length l.leaves - 1

  -- ---- what the headers hold

  long : length file ≡ head_length n + length content
  long = length_book density time language l content whole

  few : (n ≤ 4096) × (p ≤ 5)
  few = small_told l small

  head : FileRead time language n (header_in file)
  head = rw (part_inside file 0 96 (omega (arith, long)), file_part density time language l content) (file_read time language n t g (omega (arith, few)))

  abbrev f : FileFields
  f = file_fields_of (header_in file)

  section : le 8 (section_in file f) 0x08 ≡ head_length n + length content
  section = rw (head.section, part_inside file 0x60 24 (omega (arith, long)), section_part density time language l content) (section_read (head_length n + length content) (omega (arith, few)))

  directory : DirectoryRead density p (new_root p n) e n (directory_in file f)
  directory =
      rw (head.directory, part_inside file 0x78 84 (omega (arith, long)), directory_part density time language l content)
      (directory_read language density p (new_root p n) e n (omega arith) (omega (arith, few)) (root_small p n few.0) (omega (arith, few)) (omega (arith, few)))

  -- ---- the checks

  flat : p ≡ 1 → n ≡ 1
  flat q = omega (arith, one (omega arith), flat_none l.levels (omega arith))

  tall : ¬ (p ≡ 1) → 1 < n
  tall q = omega (arith, more (omega arith))

  pub header_read : header_of file ≡ Ok (record_for density time language l)
  header_read =
      header_good file f (directory_fields_of (directory_in file f))
      (file_good (header_in file) (length file) (record {
        long = le-leb 96 (length file) (omega (arith, long));
        tagged = head.tagged;
        version = version_pass time language n (header_in file) head;
        sections = sections_pass time language n (header_in file) head (length file) (omega (arith, long));
      }))
      (section_good (section_in file f) (length file) (eq-eqb _ _ (section ∙ sym long)))
      (directory_good (directory_in file f) f.length directory.tagged
      (rw head.directory_length_lem
      (directory_pass density p e n (directory_in file f) directory dense (omega arith) few.1 few.0 (omega arith) flat tall)))
      ∙ ap Ok (record_is density time language l (header_in file) (directory_in file f) head directory)

  -- ---- the chunks

  chunk_is : (c : ℕ) → c < n → chunk_bytes file (record_for density time language l) c ≡ get_or (chunk_list (spacing_of density) l) c []
  unfolding chunk_bytes record_for
  chunk_is c h =
      part_inside file (204 + 4096 * c) 4096 (omega (arith, long)) ∙ book_chunk density time language l content whole c h

  pub leaf_read : (c : ℕ) → c < length l.leaves
      → chunk_bytes file (record_for density time language l) c
      ≡ new_chunk Listing (spacing_of density) (new_previous c) (new_next (length l.leaves) c) (get_or l.leaves c [])
  leaf_read c h = chunk_is c (omega arith) ∙ list_leaf (spacing_of density) l c h

  pub node_read : (i : ℕ) → i < length (flatten l.levels)
      → chunk_bytes file (record_for density time language l) (length l.leaves + i)
      ≡ new_chunk Index (spacing_of density) (new_previous (length l.leaves + i)) (new_next (length l.leaves) (length l.leaves + i)) (get_or (flatten l.levels) i [])
  node_read i h = chunk_is (length l.leaves + i) (omega arith) ∙ list_node (spacing_of density) l i h
