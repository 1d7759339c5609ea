-- The file header with section 0: one test for each of the refusals 1 to 5, in their order, and what a header that passes says.
-- A test has its own part of the file: h is the file's first 96 bytes, z the 24 bytes of section 0. `size` is the file's length. Sums are
-- exact (FORMAT N7).
use Rattle.std.specs.Prelude.{ℕ, ◌+◌, List, [], ◌∷◌, Bool, cond, ◌&&◌, ◌||◌, leb, eqb, Result, Ok, Err, ⊤}
use Rattle.fields.specs.Le.{le}
use Rattle.fields.specs.Same.{stands_at}
use Rattle.file_header.specs.declared.FileFields.{FileFields}
use Rattle.refusals.specs.declared.Rule.TheVariants.{WrongLength, ShortFile, FileTags, WrongVersion, WrongSections}
use Rattle.refusals.specs.declared.Rule.{Rule}

-- ---- fields of the file header

-- FORMAT F2
abbrev pub version_field : List ℕ → ℕ
version_field h = le 4 h 0x04

-- FORMAT F3: the header's length, so that this is the header's end
abbrev pub header_end : List ℕ → ℕ
header_end h = le 4 h 0x08

-- FORMAT F4
abbrev pub time_field : List ℕ → ℕ
time_field h = le 4 h 0x10

abbrev pub language_field : List ℕ → ℕ
language_field h = le 4 h 0x14

-- FORMAT F7: section 0
abbrev pub section_start : List ℕ → ℕ
section_start h = le 8 h 0x38

abbrev pub section_length : List ℕ → ℕ
section_length h = le 8 h 0x40

-- FORMAT F8
abbrev pub directory_start : List ℕ → ℕ
directory_start h = le 8 h 0x48

abbrev pub directory_length : List ℕ → ℕ
directory_length h = le 8 h 0x50

-- FORMAT F9, F10: in version 2 the directory's end, else a field
abbrev pub content_start : List ℕ → ℕ
content_start h = cond (eqb (version_field h) 2) (directory_start h + directory_length h) (le 8 h 0x58)

-- ---- refusal 1

-- FORMAT R1
abbrev pub long_enough : ℕ → Bool
long_enough size = leb 96 size

-- ---- refusal 2

-- FORMAT F1: `ITSF`
abbrev pub file_tag : List ℕ
file_tag = 0x49 ∷ 0x54 ∷ 0x53 ∷ 0x46 ∷ []

-- FORMAT F5, F6: the two GUIDs differ in their first byte
abbrev pub file_guid : ℕ → List ℕ
file_guid b =
    b ∷ 0xFD ∷ 0x01 ∷ 0x7C ∷ 0xAA ∷ 0x7B ∷ 0xD0 ∷ 0x11 ∷ 0x9E ∷ 0x0C ∷ 0x00 ∷ 0xA0 ∷ 0xC9 ∷ 0x22 ∷ 0xE6 ∷ 0xEC ∷ []

-- FORMAT R2: F1, F5, F6
unfoldable pub file_tagged : List ℕ → Bool
file_tagged h = stands_at h 0x00 file_tag && stands_at h 0x18 (file_guid 0x10) && stands_at h 0x28 (file_guid 0x11)

-- ---- refusal 3

-- FORMAT R3: F2, F3
unfoldable pub version_right : List ℕ → Bool
version_right h = eqb (version_field h) 2 && eqb (header_end h) 0x58 || eqb (version_field h) 3 && eqb (header_end h) 0x60

-- ---- refusal 4

-- FORMAT F11, F12: n bytes from `at` on start at or behind the header's end, and end inside the file
abbrev pub placed : ℕ → ℕ → ℕ → ℕ → Bool
placed size end at n = leb end at && leb (at + n) size

-- FORMAT F13, N8: m bytes from a on and n bytes from b on do not overlap
abbrev pub apart : ℕ → ℕ → ℕ → ℕ → Bool
apart a m b n = leb (a + m) b || leb (b + n) a

-- FORMAT F7, F8
unfoldable pub lengths_right : List ℕ → Bool
lengths_right h = eqb (section_length h) 24 && leb 84 (directory_length h)

-- FORMAT F11 to F13
unfoldable pub places_right : List ℕ → ℕ → Bool
places_right h size =
    placed size (header_end h) (section_start h) (section_length h)
    && placed size (header_end h) (directory_start h) (directory_length h)
    && apart (section_start h) (section_length h) (directory_start h) (directory_length h)

-- FORMAT F14
unfoldable pub content_right : List ℕ → ℕ → Bool
content_right h size =
    leb (section_start h + section_length h) (content_start h)
    && leb (directory_start h + directory_length h) (content_start h)
    && leb (content_start h) size

-- FORMAT R4: F7, F8, F11 to F14
unfoldable pub sections_right : List ℕ → ℕ → Bool
sections_right h size = lengths_right h && places_right h size && content_right h size

-- ---- the whole

-- FORMAT F2, F4, F7 to F10
abbrev pub file_fields_of : List ℕ → FileFields
file_fields_of h =
    record {
      version = version_field h;
      time = time_field h;
      language = language_field h;
      section = section_start h;
      start = directory_start h;
      length = directory_length h;
      content = content_start h;
    }

-- a test that has to hold, or else the refusal n
abbrev pub requiring : Bool → Rule → Result FileFields Rule → Result FileFields Rule
requiring t n r = cond t r (Err n)

-- FORMAT RO1, RO4
unfoldable pub file_header_of : List ℕ → ℕ → Result FileFields Rule
file_header_of h size =
    requiring (long_enough size) ShortFile
    (requiring (file_tagged h) FileTags
    (requiring (version_right h) WrongVersion
    (requiring (sections_right h size) WrongSections
    (Ok (file_fields_of h)))))

-- ---- refusal 5

-- FORMAT R5: F15
abbrev pub length_right : List ℕ → ℕ → Bool
length_right z size = eqb (le 8 z 0x08) size

unfoldable pub section_zero_of : List ℕ → ℕ → Result ⊤ Rule
section_zero_of z size = cond (length_right z size) (Ok tt) (Err WrongLength)
