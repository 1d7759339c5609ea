-- The headers of a new book, read back: each field holds the number that was written there.
use Rattle.fields.proofs.Base.{◌≡◌, refl, ap, ◌∙◌, true, List, ◌++◌, flatten, ℕ, ◌+◌, ◌*◌, ◌^◌, ◌<◌, arith, length, take, drop}
use Rattle.fields.specs.Le.{le, bytes}
use Rattle.fields.specs.Same.{same, stands_at}
use Rattle.fields.proofs.Le.{le_bytes}
use Rattle.file_header.specs.FileHeader.{file_tagged, version_field, header_end, time_field, language_field, section_start, section_length, directory_start, directory_length}
use Rattle.directory_header.specs.DirectoryHeader.{directory_tagged, directory_fields_of}
use Rattle.layout.specs.Headers.{head_length, file_header, section_zero, directory_header}

-- the number whose k bytes stand in s at `at`
field : (k v : ℕ) (s : List ℕ) (at : ℕ) → v < 256 ^ k → s ≡ take at s ++ (bytes k v ++ drop (at + k) s) → length (take at s) ≡ at → le k s at ≡ v
field k v s at h e n = ap (λ (x : List ℕ). le k x at) e ∙ rw n at (le_bytes k v (take at s) (drop (at + k) s) h)

-- ---- the file header

-- time, language, number of chunks
pub record FileRead (t g n : ℕ) (h : List ℕ) : Type 0 where
  pub tagged : file_tagged h ≡ true
  pub version : version_field h ≡ 3
  pub ends : header_end h ≡ 0x60
  pub time : time_field h ≡ t
  pub language : language_field h ≡ g
  pub section : section_start h ≡ 0x60
  pub section_length_lem : section_length h ≡ 24
  pub directory : directory_start h ≡ 0x78
  pub directory_length_lem : directory_length h ≡ 84 + 4096 * n
  pub content : le 8 h 0x58 ≡ head_length n

pub file_read : (t g n : ℕ) → t < 2 ^ 32 → g < 2 ^ 32 → n < 2 ^ 32 → FileRead t g n (file_header t g n)
unfolding file_tagged stands_at same le bytes file_header flatten
file_read t g n a b c =
    let h : List ℕ = file_header t g n in
    record {
      tagged = refl;
      version = refl;
      ends = refl;
      time = field 4 t h 0x10 (omega arith) refl refl;
      language = field 4 g h 0x14 (omega arith) refl refl;
      section = refl;
      section_length_lem = refl;
      directory = refl;
      directory_length_lem = field 8 (84 + 4096 * n) h 0x50 (omega arith) refl refl;
      content = field 8 (head_length n) h 0x58 (omega arith) refl refl;
    }

-- ---- section 0

pub section_read : (size : ℕ) → size < 2 ^ 64 → le 8 (section_zero size) 0x08 ≡ size
unfolding bytes section_zero flatten
section_read size h = field 8 size (section_zero size) 0x08 (omega arith) refl refl

-- ---- the directory's header

-- density, depth, root, last listing chunk, number of chunks
pub record DirectoryRead (y p r e n : ℕ) (d : List ℕ) : Type 0 where
  pub tagged : directory_tagged d ≡ true
  pub size : (directory_fields_of d).size ≡ 4096
  pub density : (directory_fields_of d).density ≡ y
  pub depth : (directory_fields_of d).depth ≡ p
  pub root : (directory_fields_of d).root ≡ r
  pub first : (directory_fields_of d).first ≡ 0
  pub last : (directory_fields_of d).last ≡ e
  pub count : (directory_fields_of d).count ≡ n

pub directory_read : (g y p r e n : ℕ) → y < 2 ^ 32 → p < 2 ^ 32 → r < 2 ^ 32 → e < 2 ^ 32 → n < 2 ^ 32
    → DirectoryRead y p r e n (directory_header g y p r e n)
unfolding directory_tagged stands_at same le bytes directory_header flatten
directory_read g y p r e n a b c x z =
    let d : List ℕ = directory_header g y p r e n in
    record {
      tagged = refl;
      size = refl;
      density = field 4 y d 0x14 (omega arith) refl refl;
      depth = field 4 p d 0x18 (omega arith) refl refl;
      root = field 4 r d 0x1C (omega arith) refl refl;
      first = refl;
      last = field 4 e d 0x24 (omega arith) refl refl;
      count = field 4 n d 0x2C (omega arith) refl refl;
    }
