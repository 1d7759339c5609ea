-- The headers of a file put together: where each is good, the whole is (`header_good`), and the other way round (`header_both`); a refusal has
-- a number of the table (`header_refused`).
use Rattle.fields.proofs.Base.{◌≡◌, ◌∙◌, ap, refl, true, List, ℕ, ◌≤◌, arith, length, Result, Ok, Err}
use Rattle.file_header.specs.FileHeader.{file_header_of, section_zero_of}
use Rattle.file_header.specs.declared.FileFields.{FileFields}
use Rattle.file_header.proofs.Checks.{file_refused, section_refused}
use Rattle.directory_header.specs.DirectoryHeader.{directory_header_of}
use Rattle.directory_header.specs.declared.DirectoryFields.{DirectoryFields}
use Rattle.directory_header.proofs.Checks.{directory_refused}
use Rattle.header.specs.Header.{record_from, header_in, section_in, directory_in, after_directory, directory_then, after_section, section_then, after_file, header_of}
use Rattle.header.specs.declared.Record.{Record}
use Rattle.refusals.specs.Refusals.{number_of, in_table}
use Rattle.refusals.specs.declared.Rule.{Rule}
use Rattle.std.specs.Prelude.{⊤}

pub header_good : (s : List ℕ) (f : FileFields) (d : DirectoryFields) → file_header_of (header_in s) (length s) ≡ Ok f
    → section_zero_of (section_in s f) (length s) ≡ Ok tt
    → directory_header_of (directory_in s f) f.length ≡ Ok d → header_of s ≡ Ok (record_from f d)
unfolding header_of section_then directory_then
header_good s f d a b c = rw (a, b, c)

module _ (s : List ℕ) where
  -- ---- a good one

  -- what both headers of the file say makes the record
  pub record BothGood (r : Record) : Type 0 where
    pub f : FileFields
    pub d : DirectoryFields
    pub file : file_header_of (header_in s) (length s) ≡ Ok f
    pub section : section_zero_of (section_in s f) (length s) ≡ Ok tt
    pub directory : directory_header_of (directory_in s f) f.length ≡ Ok d
    pub is : record_from f d ≡ r

  directory_both : (r : Record) (f : FileFields) → file_header_of (header_in s) (length s) ≡ Ok f
      → section_zero_of (section_in s f) (length s) ≡ Ok tt → directory_then s f ≡ Ok r → BothGood r
  unfolding directory_then
  directory_both r f p z = go (directory_header_of (directory_in s f) f.length) refl
    where
      go : (x : Result DirectoryFields Rule) → directory_header_of (directory_in s f) f.length ≡ x → after_directory f x ≡ Ok r → BothGood r
      go (Ok d) q e = record { f = f; d = d; file = p; section = z; directory = q; is = cc }
      go (Err n) q e = absurd (let z : ◌≡◌ {A = ℕ} 0 1 = cc in omega arith)

  section_both : (r : Record) (f : FileFields) → file_header_of (header_in s) (length s) ≡ Ok f → section_then s f ≡ Ok r → BothGood r
  unfolding section_then
  section_both r f p = go (section_zero_of (section_in s f) (length s)) refl
    where
      go : (x : Result ⊤ Rule) → section_zero_of (section_in s f) (length s) ≡ x → after_section s f x ≡ Ok r → BothGood r
      go (Ok tt) q e = directory_both r f p q e
      go (Err n) q e = absurd (let z : ◌≡◌ {A = ℕ} 0 1 = cc in omega arith)

  pub header_both : (r : Record) → header_of s ≡ Ok r → BothGood r
  unfolding header_of
  header_both r = go (file_header_of (header_in s) (length s)) refl
    where
      go : (x : Result FileFields Rule) → file_header_of (header_in s) (length s) ≡ x → after_file s x ≡ Ok r → BothGood r
      go (Ok f) p e = section_both r f p e
      go (Err n) p e = absurd (let z : ◌≡◌ {A = ℕ} 0 1 = cc in omega arith)

  -- ---- a refused one

  directory_number : (n : Rule) (f : FileFields) → directory_then s f ≡ Err n → (6 ≤ number_of n) × (number_of n ≤ 7) × (in_table n ≡ true)
  unfolding directory_then
  directory_number n f = go (directory_header_of (directory_in s f) f.length) refl
    where
      go : (x : Result DirectoryFields Rule) → directory_header_of (directory_in s f) f.length ≡ x → after_directory f x ≡ Err n → (6 ≤ number_of n) × (number_of n ≤ 7) × (in_table n ≡ true)
      go (Ok d) q e = absurd (let z : ◌≡◌ {A = ℕ} 0 1 = cc in omega arith)
      go (Err k) q e = let t = directory_refused _ _ n (q ∙ ap Err cc) in (omega arith, omega arith, t.2)

  section_number : (n : Rule) (f : FileFields) → section_then s f ≡ Err n → (5 ≤ number_of n) × (number_of n ≤ 7) × (in_table n ≡ true)
  unfolding section_then
  section_number n f = go (section_zero_of (section_in s f) (length s)) refl
    where
      go : (x : Result ⊤ Rule) → section_zero_of (section_in s f) (length s) ≡ x → after_section s f x ≡ Err n → (5 ≤ number_of n) × (number_of n ≤ 7) × (in_table n ≡ true)
      go (Ok tt) q e = let t = directory_number n f e in (omega arith, omega arith, t.2)
      go (Err k) q e = let w = section_refused _ _ n (q ∙ ap Err cc) in let t = ap number_of w in (omega arith, omega arith, ap in_table w)

  pub header_refused : (n : Rule) → header_of s ≡ Err n → (1 ≤ number_of n) × (number_of n ≤ 7) × (in_table n ≡ true)
  unfolding header_of
  header_refused n = go (file_header_of (header_in s) (length s)) refl
    where
      go : (x : Result FileFields Rule) → file_header_of (header_in s) (length s) ≡ x → after_file s x ≡ Err n → (1 ≤ number_of n) × (number_of n ≤ 7) × (in_table n ≡ true)
      go (Ok f) q e = let t = section_number n f e in (omega arith, omega arith, t.2)
      go (Err k) q e = let t = file_refused _ _ n (q ∙ ap Err cc) in (omega arith, omega arith, t.2)
