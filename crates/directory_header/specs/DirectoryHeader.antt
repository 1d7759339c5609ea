-- The directory's header: one test for each of the refusals 6 and 7, and what a header that passes says. d is the 84 bytes of the header.
use Rattle.std.specs.Prelude.{ℕ, ◌+◌, ◌*◌, List, [], ◌∷◌, Bool, cond, not, ◌&&◌, ◌||◌, ltb, leb, eqb, Result, Ok, Err}
use Rattle.fields.specs.Le.{le}
use Rattle.fields.specs.Same.{stands_at}
use Rattle.refusals.specs.Refusals.{no_chunk}
use Rattle.directory_header.specs.declared.DirectoryFields.{DirectoryFields}
use Rattle.refusals.specs.declared.Rule.TheVariants.{DirectoryTags, WrongDirectory}
use Rattle.refusals.specs.declared.Rule.{Rule}

-- ---- what it says

-- FORMAT D6 to D11
abbrev pub directory_fields_of : List ℕ → DirectoryFields
directory_fields_of d =
    record {
      size = le 4 d 0x10;
      density = le 4 d 0x14;
      depth = le 4 d 0x18;
      root = le 4 d 0x1C;
      first = le 4 d 0x20;
      last = le 4 d 0x24;
      count = le 4 d 0x2C;
    }

-- ---- refusal 6

-- FORMAT D2: `ITSP`
abbrev pub directory_tag : List ℕ
directory_tag = 0x49 ∷ 0x54 ∷ 0x53 ∷ 0x50 ∷ []

-- FORMAT D12
abbrev pub directory_guid : List ℕ
directory_guid =
    0x6A ∷ 0x92 ∷ 0x02 ∷ 0x5D ∷ 0x2E ∷ 0x21 ∷ 0xD0 ∷ 0x11 ∷ 0x9D ∷ 0xF9 ∷ 0x00 ∷ 0xA0 ∷ 0xC9 ∷ 0x22 ∷ 0xE6 ∷ 0xEC ∷ []

-- FORMAT R6: D2, D3, D4, D12, D13
unfoldable pub directory_tagged : List ℕ → Bool
directory_tagged d =
    stands_at d 0x00 directory_tag
    && eqb (le 4 d 0x04) 1
    && eqb (le 4 d 0x08) 0x54
    && stands_at d 0x34 directory_guid
    && eqb (le 4 d 0x44) 0x54

-- ---- refusal 7

-- x is from low to high
abbrev pub within : ℕ → ℕ → ℕ → Bool
within low high x = leb low x && leb x high

-- FORMAT D6, D7, D8, D11
unfoldable pub bounds_right : DirectoryFields → Bool
bounds_right f = eqb f.size 4096 && leb f.density 7 && within 1 5 f.depth && within 1 4096 f.count

-- FORMAT D14: n is the directory's length
abbrev pub filled : DirectoryFields → ℕ → Bool
filled f n = eqb n (84 + 4096 * f.count)

-- FORMAT D15
unfoldable pub ends_right : DirectoryFields → Bool
ends_right f = ltb f.first f.count && ltb f.last f.count

-- FORMAT D16 to D18: at depth 1 there is one chunk and the root is none, or 0; at any other depth there are more, and the root is one of them
unfoldable pub root_right : DirectoryFields → Bool
root_right f =
    cond (eqb f.depth 1)
    (eqb f.count 1 && (eqb f.root no_chunk || eqb f.root 0))
    (not (eqb f.count 1) && ltb f.root f.count)

-- FORMAT R7: D6, D7, D8, D11, D14 to D18
unfoldable pub directory_right : DirectoryFields → ℕ → Bool
directory_right f n = bounds_right f && filled f n && ends_right f && root_right f

-- ---- the whole

-- n is the directory's length (FORMAT RO1, RO4)
unfoldable pub directory_header_of : List ℕ → ℕ → Result DirectoryFields Rule
directory_header_of d n = cond (directory_tagged d) (cond (directory_right (directory_fields_of d) n) (Ok (directory_fields_of d)) (Err WrongDirectory)) (Err DirectoryTags)
