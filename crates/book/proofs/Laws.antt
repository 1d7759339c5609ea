-- A chunk that has its 4,096 bytes lies inside the file; what a record that can be asked has.
use Rattle.fields.proofs.Base.{◌≡◌, refl, sym, ap, ◌∙◌, true, ◌&&◌, List, ℕ, ◌+◌, ◌≤◌, ◌<◌, arith, dec_le, length, get_or, leb, lit<, le-leb, leb-true}
use Rattle.fields.proofs.Tests.{and_both}
use Rattle.fields.specs.Part.{part, part_of}
use Rattle.fields.proofs.Parts.{length_part, part_inside, part_outside, part_small, part_within}
use Rattle.entries.specs.declared.Kind.{Kind}
use Rattle.chunk.specs.Chunk.{is_kind}
use Rattle.chunk.proofs.Accepted.{chunk_accepted}
use Rattle.directory_header.specs.DirectoryHeader.{within}
use Rattle.header.specs.declared.Record.{Record}
use Rattle.book.specs.Book.{limits_of, chunk_place, chunk_bytes, directory_of, record_fits}

module _ (s : List ℕ) (r : Record) (c : ℕ) where
  pub chunk_inside : length (chunk_bytes s r c) ≡ 4096 → chunk_place r c + 4096 ≤ length s
  unfolding chunk_bytes
  chunk_inside e =
      elim (dec_le (chunk_place r c + 4096) (length s)) [
        | yes h ↦ h
        | no h ↦ absurd (omega (arith, e, ap length (part_outside s (chunk_place r c) 4096 (omega arith))))
      ]

  -- one that has any bytes has them all
  pub chunk_some : 0 < length (chunk_bytes s r c) → length (chunk_bytes s r c) ≡ 4096
  unfolding chunk_bytes
  chunk_some e =
      elim (dec_le (chunk_place r c + 4096) (length s)) [
        | yes h ↦ ap length (part_inside s (chunk_place r c) 4096 h) ∙ length_part s (chunk_place r c) 4096 h
        | no h ↦ absurd (omega (arith, e, ap length (part_outside s (chunk_place r c) 4096 (omega arith))))
      ]

  -- a chunk of either kind has its bytes
  pub chunk_whole : (k : Kind) → is_kind k (directory_of s r c) ≡ true → length (chunk_bytes s r c) ≡ 4096
  unfolding directory_of
  chunk_whole k h = (chunk_accepted (limits_of s r) k (chunk_bytes s r c) h).size

  -- a part of a chunk is that part of the file
  pub chunk_part : length (chunk_bytes s r c) ≡ 4096 → (at n : ℕ) → at + n ≤ 4096 → part_of s (chunk_place r c + at) n ≡ part (chunk_bytes s r c) at n
  unfolding chunk_bytes
  chunk_part e at n h =
      let w = chunk_inside e in
      part_inside s (chunk_place r c + at) n (omega arith)
      ∙ rw (part_inside s (chunk_place r c) 4096 w) (sym (part_within s (chunk_place r c) 4096 at n (omega arith)))

  -- what a chunk has are bytes where the file's are
  pub chunk_small : ((i : ℕ) → get_or s i 0 < 256) → (i : ℕ) → get_or (chunk_bytes s r c) i 0 < 256
  unfolding chunk_bytes
  chunk_small b i =
      elim (dec_le (chunk_place r c + 4096) (length s)) [
        | yes h ↦ rw (part_inside s (chunk_place r c) 4096 h) (part_small s (chunk_place r c) 4096 b i)
        | no h ↦ rw (part_outside s (chunk_place r c) 4096 (omega arith)) (lit< tt)
      ]

-- ---- a record that can be asked

pub record RecordFits (s : List ℕ) (r : Record) : Type 0 where
  pub dense : r.density ≤ 7
  pub some_levels : 1 ≤ r.depth
  pub few_levels : r.depth ≤ 5
  pub some_chunks : 1 ≤ r.count
  pub few_chunks : r.count ≤ 4096
  pub content_inside : r.content ≤ length s

pub fits_told : (s : List ℕ) (r : Record) → record_fits s r ≡ true → RecordFits s r
unfolding record_fits
fits_told s r h =
    let levels = within 1 5 r.depth in
    let chunks = within 1 4096 r.count in
    let inside = leb r.content (length s) in
    let d = and_both (leb r.density 7) (levels && (chunks && inside)) h in
    let a = and_both levels (chunks && inside) d.1 in
    let e = and_both chunks inside a.1 in
    let b = and_both (leb 1 r.depth) (leb r.depth 5) a.0 in
    let c = and_both (leb 1 r.count) (leb r.count 4096) e.0 in
    record {
      dense = leb-true r.density 7 d.0;
      some_levels = leb-true 1 r.depth b.0;
      few_levels = leb-true r.depth 5 b.1;
      some_chunks = leb-true 1 r.count c.0;
      few_chunks = leb-true r.count 4096 c.1;
      content_inside = leb-true r.content (length s) e.1;
    }

pub fits_made : (s : List ℕ) (r : Record) → RecordFits s r → record_fits s r ≡ true
unfolding record_fits
fits_made s r f =
    simp (le-leb r.density 7 f.dense, le-leb 1 r.depth f.some_levels, le-leb r.depth 5 f.few_levels, le-leb 1 r.count f.some_chunks, le-leb r.count 4096 f.few_chunks, le-leb r.content (length s) f.content_inside)

-- of the file only its length counts
pub fits_same : (s t : List ℕ) (r : Record) → length s ≡ length t → record_fits s r ≡ record_fits t r
unfolding record_fits
fits_same s t r h = rw h refl
