-- Headers that hold the numbers of a new book pass the checks of a head.
use Rattle.fields.proofs.Base.{◌≡◌, refl, true, cond, not, ◌&&◌, ◌||◌, List, ℕ, ◌+◌, ◌-◌, ◌*◌, ◌≤◌, ◌<◌, arith, ℕ_discrete, ltb, eqb, le-leb, lt-ltb, eq-eqb, ne_eqb}
use Rattle.refusals.specs.Refusals.{no_chunk}
use Rattle.file_header.specs.FileHeader.{version_right, lengths_right, places_right, content_right, sections_right}
use Rattle.directory_header.specs.DirectoryHeader.{bounds_right, ends_right, root_right, directory_right, directory_fields_of}
use Rattle.layout.specs.Headers.{head_length}
use Rattle.layout.specs.Layout.{new_root}
use Rattle.roundtrip.proofs.Fields.{FileRead, DirectoryRead}

module _ (t g n : ℕ) (h : List ℕ) (f : FileRead t g n h) where
  pub version_pass : version_right h ≡ true
  unfolding version_right
  version_pass = simp (f.version, f.ends)

  pub sections_pass : (size : ℕ) → head_length n ≤ size → sections_right h size ≡ true
  unfolding sections_right lengths_right places_right content_right
  sections_pass size l =
      let m : ℕ = 84 + 4096 * n in
      simp
      (f.version, f.ends, f.section, f.section_length_lem, f.directory, f.directory_length_lem, f.content, le-leb 84 m (omega arith), le-leb 120 size (omega arith), le-leb (120 + m) size (omega arith), le-leb 120 (head_length n) (omega arith), le-leb (120 + m) (head_length n) (omega arith), le-leb (head_length n) size l)

-- ---- the directory's numbers

root_pass : (p n : ℕ) → (p ≡ 1 → n ≡ 1) → (¬ (p ≡ 1) → 1 < n)
    → cond (eqb p 1) (eqb n 1 && (eqb (new_root p n) no_chunk || eqb (new_root p n) 0)) (not (eqb n 1) && ltb (new_root p n) n) ≡ true
unfolding new_root
root_pass p n one more =
    elim (ℕ_discrete p 1) [
      | yes h ↦ rw (eq-eqb p 1 h, eq-eqb n 1 (one h))
      | no h ↦ let l : 1 < n = more h in rw (ne_eqb p 1 h, ne_eqb n 1 (λ e. omega arith), lt-ltb (n - 1) n (omega arith))
    ]

pub directory_pass : (y p e n : ℕ) (d : List ℕ) → DirectoryRead y p (new_root p n) e n d → y ≤ 7 → 1 ≤ p → p ≤ 5 → n ≤ 4096 → e < n
    → (p ≡ 1 → n ≡ 1) → (¬ (p ≡ 1) → 1 < n) → directory_right (directory_fields_of d) (84 + 4096 * n) ≡ true
unfolding directory_right bounds_right ends_right root_right
directory_pass y p e n d f a b c i j one more =
    simp
    (f.size, f.density, f.depth, f.root, f.first, f.last, f.count, le-leb y 7 a, le-leb 1 p b, le-leb p 5 c, le-leb 1 n (omega arith), le-leb n 4096 i, eq-eqb (84 + 4096 * n) (84 + 4096 * n) refl, lt-ltb e n j)
    (root_pass p n one more)
