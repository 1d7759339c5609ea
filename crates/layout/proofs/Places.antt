-- Where the parts of a new book stand: its headers, its chunks, and the content behind them.
use Rattle.fields.proofs.Base.{◌≡◌, refl, ap, ◌∙◌, List, [], ◌++◌, flatten, append_assoc, ℕ, ◌+◌, ◌-◌, ◌*◌, ◌<◌, arith, length, get_or, length-append, take_at, drop_at, drop-append-add}
use Rattle.fields.specs.Part.{part}
use Rattle.chunk_fields.specs.ChunkFields.{spacing_of}
use Rattle.fields.proofs.Lists.{All}
use Rattle.layout.specs.Headers.{head_length, file_header, section_zero, directory_header}
use Rattle.layout.specs.Layout.{Layout, chunk_count, layout_depth, new_root, chunk_list, head_bytes}
use Rattle.layout.proofs.Sizes.{length_file, length_section, length_directory, length_list, length_flat}
use Rattle.layout.proofs.Standing.{chunk_part}

-- a part between others
between : (p x q : List ℕ) (at n : ℕ) → length p ≡ at → length x ≡ n → part (p ++ (x ++ q)) at n ≡ x
between p x q at n h g = rw (drop_at p (x ++ q) at h, take_at x q n g)

pub length_head : (density time language content : ℕ) (l : Layout) → All (λ (c : List ℕ). length c ≡ 4096) (chunk_list (spacing_of density) l)
    → length (head_bytes density time language content l) ≡ head_length (chunk_count l)
unfolding head_bytes
length_head density time language content l whole =
    simp (length-append, length_file, length_section, length_directory, length_flat (chunk_list (spacing_of density) l) whole, length_list) (omega arith)

module _ (density time language : ℕ) (l : Layout) (content : List ℕ) where
  abbrev n : ℕ
  n = chunk_count l

  abbrev file : List ℕ
  file = head_bytes density time language (length content) l ++ content

  abbrev h : List ℕ
  h = file_header time language n

  abbrev z : List ℕ
  z = section_zero (head_length n + length content)

  abbrev d : List ℕ
  d = directory_header language density (layout_depth l) (new_root (layout_depth l) n) (length l.leaves - 1) n

  abbrev cs : List (List ℕ)
  cs = chunk_list (spacing_of density) l

  parts : file ≡ h ++ (z ++ (d ++ (flatten cs ++ content)))
  unfolding head_bytes
  parts = simp append_assoc

  length_headers : length (h ++ (z ++ d)) ≡ 204
  length_headers = simp (length-append, length_file, length_section, length_directory)

  pub file_part : part file 0 96 ≡ h
  file_part = rw parts (between [] h _ 0 96 refl (length_file _ _ _))

  pub section_part : part file 0x60 24 ≡ z
  section_part = rw parts (between h z _ 0x60 24 (length_file _ _ _) (length_section _))

  pub directory_part : part file 0x78 84 ≡ d
  directory_part =
      rw (parts, ← append_assoc h z) (between (h ++ z) d _ 0x78 84 (simp (length-append, length_file, length_section)) (length_directory _ _ _ _ _ _))

  module _ (whole : All (λ (c : List ℕ). length c ≡ 4096) cs) where
    pub length_book : length file ≡ head_length n + length content
    length_book =
        length-append (head_bytes density time language (length content) l) content
        ∙ ap (λ (k : ℕ). k + length content) (length_head density time language (length content) l whole)

    pub book_chunk : (c : ℕ) → c < n → part file (204 + 4096 * c) 4096 ≡ get_or cs c []
    book_chunk c i =
        let e : 204 + 4096 * c ≡ length (h ++ (z ++ d)) + 4096 * c = omega (arith, length_headers) in
        let f : file ≡ (h ++ (z ++ d)) ++ (flatten cs ++ content) = parts ∙ simp append_assoc in
        rw (e, f, drop-append-add) (chunk_part cs content c whole (omega (arith, length_list (spacing_of density) l)))
