-- The lengths of the parts of a new head: its three headers, and its chunks.
use Rattle.fields.proofs.Base.{◌≡◌, refl, ap, List, [], ◌∷◌, flatten, ℕ, suc, ◌+◌, ◌*◌, arith, length, length-append}
use Rattle.fields.specs.Le.{bytes}
use Rattle.entries.specs.declared.Kind.{Kind}
use Rattle.entries.specs.Stored.{Stored}
use Rattle.fields.proofs.Lists.{All, none, more}
use Rattle.layout.specs.Headers.{file_header, section_zero, directory_header}
use Rattle.layout.specs.Layout.{Layout, chunk_count, chunks_of, chunk_list}

-- ---- the headers

pub length_file : (time language count : ℕ) → length (file_header time language count) ≡ 96
unfolding file_header bytes flatten
length_file time language count = refl

pub length_section : (size : ℕ) → length (section_zero size) ≡ 24
unfolding section_zero bytes flatten
length_section size = refl

pub length_directory : (language density depth root last count : ℕ) → length (directory_header language density depth root last count) ≡ 84
unfolding directory_header bytes flatten
length_directory language density depth root last count = refl

-- ---- the chunks

-- their number
pub length_chunks : (k : Kind) (n m c : ℕ) (gs : List (List Stored)) → length (chunks_of k n m c gs) ≡ length gs
unfolding chunks_of
length_chunks k n m c [] = refl
length_chunks k n m c (g ∷ gs) = ap suc (length_chunks k n m (c + 1) gs)

pub length_list : (n : ℕ) (l : Layout) → length (chunk_list n l) ≡ chunk_count l
unfolding chunk_list
length_list n l = simp (length-append, length_chunks)

-- their bytes
pub length_flat : (cs : List (List ℕ)) → All (λ (c : List ℕ). length c ≡ 4096) cs → length (flatten cs) ≡ 4096 * length cs
unfolding flatten
length_flat [] none = refl
length_flat (c ∷ cs) (more e es) = omega (arith, length-append c (flatten cs), length_flat cs es)
