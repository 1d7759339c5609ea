-- What refusal 4 tells of a file header where it holds.
use Rattle.fields.proofs.Base.{◌≡◌, List, Bool, true, ◌&&◌, ℕ, ◌+◌, ◌≤◌, arith, leb, eqb, leb-true, eqb-true}
use Rattle.fields.proofs.Tests.{and_both}
use Rattle.file_header.specs.FileHeader.{header_end, section_start, section_length, directory_start, directory_length, content_start, placed, apart, lengths_right, places_right, content_right, sections_right}

pub lengths_told : (h : List ℕ) → lengths_right h ≡ true → (section_length h ≡ 24) × (84 ≤ directory_length h)
unfolding lengths_right
lengths_told h e =
    let t = and_both (eqb (section_length h) 24) (leb 84 (directory_length h)) e in
    (eqb-true (section_length h) 24 t.0, leb-true 84 (directory_length h) t.1)

placed_end : (size end at n : ℕ) → placed size end at n ≡ true → at + n ≤ size
placed_end size end at n e = leb-true (at + n) size (and_both (leb end at) (leb (at + n) size) e).1

-- both end inside the file
pub places_told : (h : List ℕ) (size : ℕ) → places_right h size ≡ true
    → (section_start h + section_length h ≤ size) × (directory_start h + directory_length h ≤ size)
unfolding places_right
places_told h size e =
    let a : Bool = placed size (header_end h) (section_start h) (section_length h) in
    let b : Bool = placed size (header_end h) (directory_start h) (directory_length h) in
    let u : Bool = apart (section_start h) (section_length h) (directory_start h) (directory_length h) in
    let t = and_both a b (and_both (a && b) u e).0 in
    (placed_end size (header_end h) (section_start h) (section_length h) t.0, placed_end size (header_end h) (directory_start h) (directory_length h) t.1)

pub content_told : (h : List ℕ) (size : ℕ) → content_right h size ≡ true → content_start h ≤ size
unfolding content_right
content_told h size e =
    let a : Bool = leb (section_start h + section_length h) (content_start h) in
    let b : Bool = leb (directory_start h + directory_length h) (content_start h) in
    leb-true (content_start h) size (and_both (a && b) (leb (content_start h) size) e).1

pub record Sections (h : List ℕ) (size : ℕ) : Type 0 where
  pub section : section_start h + 24 ≤ size
  pub room : 84 ≤ directory_length h
  pub directory : directory_start h + directory_length h ≤ size
  pub content : content_start h ≤ size

pub sections_told : (h : List ℕ) (size : ℕ) → sections_right h size ≡ true → Sections h size
unfolding sections_right
sections_told h size e =
    let t = and_both (lengths_right h && places_right h size) (content_right h size) e in
    let u = and_both (lengths_right h) (places_right h size) t.0 in
    let l = lengths_told h u.0 in
    let p = places_told h size u.1 in
    record { section = omega arith; room = l.1; directory = p.1; content = content_told h size t.1 }
