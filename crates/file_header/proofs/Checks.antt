-- The checks of a file header in their order: all hold where it is good, and what it says is read from its bytes (`file_rules`); where all
-- hold, it is good (`file_good`); a refusal has one of their numbers (`file_refused`). So too of section 0.
use Rattle.fields.proofs.Base.{◌≡◌, refl, subst, List, Bool, true, false, cond, ℕ, ◌≤◌, arith, Result, Ok, Err}
use Rattle.file_header.specs.FileHeader.{long_enough, file_tagged, version_right, sections_right, length_right, file_fields_of, requiring, file_header_of, section_zero_of}
use Rattle.file_header.specs.declared.FileFields.{FileFields}
use Rattle.refusals.specs.Refusals.{number_of, in_table}
use Rattle.refusals.specs.declared.Rule.TheVariants.{WrongLength, ShortFile, FileTags, WrongVersion, WrongSections}
use Rattle.refusals.specs.declared.Rule.{Rule}
use Rattle.std.specs.Prelude.{⊤}

-- the rules of refusals 1 to 4 hold
pub record FileRules (h : List ℕ) (size : ℕ) : Type 0 where
  pub long : long_enough size ≡ true
  pub tagged : file_tagged h ≡ true
  pub version : version_right h ≡ true
  pub sections : sections_right h size ≡ true

pub file_good : (h : List ℕ) (size : ℕ) → FileRules h size → file_header_of h size ≡ Ok (file_fields_of h)
unfolding file_header_of
file_good h size r = simp (r.long, r.tagged, r.version, r.sections)

passed : (t : Bool) (n : Rule) (x : Result FileFields Rule) (f : FileFields) → requiring t n x ≡ Ok f → (t ≡ true) × (x ≡ Ok f)
passed true n x f e = (refl, e)
passed false n x f e = absurd (let z : ◌≡◌ {A = ℕ} 0 1 = cc in omega arith)

pub file_rules : (h : List ℕ) (size : ℕ) (f : FileFields) → file_header_of h size ≡ Ok f → (f ≡ file_fields_of h) × FileRules h size
unfolding file_header_of
file_rules h size f e =
    let p1 = passed (long_enough size) ShortFile _ f e in
    let p2 = passed (file_tagged h) FileTags _ f p1.1 in
    let p3 = passed (version_right h) WrongVersion _ f p2.1 in
    let p4 = passed (sections_right h size) WrongSections _ f p3.1 in
    (cc, record { long = p1.0; tagged = p2.0; version = p3.0; sections = p4.0 })

-- ---- a refusal

-- one of the rules of refusals 1 to 4
abbrev OfFile : Rule → Type 0
OfFile n = (1 ≤ number_of n) × (number_of n ≤ 4) × (in_table n ≡ true)

numbered : (t : Bool) (k : Rule) (x : Result FileFields Rule) (n : Rule) → OfFile k → (x ≡ Err n → OfFile n) → requiring t k x ≡ Err n → OfFile n
numbered true k x n here f e = f e
numbered false k x n here f e = let z : k ≡ n = cc in subst OfFile z here

pub file_refused : (h : List ℕ) (size : ℕ) (n : Rule) → file_header_of h size ≡ Err n → (1 ≤ number_of n) × (number_of n ≤ 4) × (in_table n ≡ true)
unfolding file_header_of
file_refused h size n =
    numbered (long_enough size) ShortFile _ n (omega arith, omega arith, refl)
    (numbered (file_tagged h) FileTags _ n (omega arith, omega arith, refl)
    (numbered (version_right h) WrongVersion _ n (omega arith, omega arith, refl)
    (numbered (sections_right h size) WrongSections _ n (omega arith, omega arith, refl)
    (λ g. absurd (let z : ◌≡◌ {A = ℕ} 0 1 = cc in omega arith)))))

-- ---- section 0

pub section_good : (z : List ℕ) (size : ℕ) → length_right z size ≡ true → section_zero_of z size ≡ Ok tt
unfolding section_zero_of
section_good z size e = rw e

pub section_rules : (z : List ℕ) (size : ℕ) → section_zero_of z size ≡ Ok tt → length_right z size ≡ true
unfolding section_zero_of
section_rules z size = go (length_right z size)
  where
    go : (t : Bool) → ◌≡◌ {A = Result ⊤ Rule} (cond t (Ok tt) (Err WrongLength)) (Ok tt) → t ≡ true
    go true e = refl
    go false e = absurd (let z : ◌≡◌ {A = ℕ} 0 1 = cc in omega arith)

pub section_refused : (z : List ℕ) (size : ℕ) (n : Rule) → section_zero_of z size ≡ Err n → n ≡ WrongLength
unfolding section_zero_of
section_refused z size n = go (length_right z size)
  where
    go : (t : Bool) → ◌≡◌ {A = Result ⊤ Rule} (cond t (Ok tt) (Err WrongLength)) (Err n) → n ≡ WrongLength
    go true e = absurd (let z : ◌≡◌ {A = ℕ} 0 1 = cc in omega arith)
    go false e = cc
