use Rattle.fields.proofs.Base.{◌≡◌, List, ℕ, true, sym, ◌∙◌, add-sub_cancel_left, arith, ◌+◌, ◌≤◌, length, Option, Some, None}
use Rattle.entries.specs.declared.Limits.{Limits}
use Rattle.entries.specs.declared.Place.{Place}
use Rattle.entries.specs.declared.Kind.TheVariants.{Listing}
use Rattle.quickref.specs.Quickref.{last_in}
use Rattle.header.specs.declared.Record.{Record}
use Rattle.tree.specs.Shape.{last_name, listing_chunk}
use Rattle.tree.proofs.Chunks.{listing_chunk_lem}
use Rattle.book.specs.Book.{limits_of, chunk_bytes, directory_of, shape_of}
use Rattle.opening.proofs.Firsts.{Hits, last_found, last_hit}
use Rattle.opening.proofs.names_rise.Goals as goal

module _ (s : List ℕ) (r : Record) (c : ℕ) where
  -- what was found in the bytes b, held to l, is the chunk's last entry
  met : (l : Limits) (b : List ℕ) (h x : Option Place) → l ≡ limits_of s r → b ≡ chunk_bytes s r c → h ≡ last_in l Listing b → h ≡ x
      → x ≡ last_in (limits_of s r) Listing (chunk_bytes s r c)
  met l b h x p q e g = rw (← p, ← q) (sym g ∙ e)

  module _ (t : listing_chunk (directory_of s r) (shape_of r) c ≡ true) where
    -- there is one,
    there : None ≡ last_in (limits_of s r) Listing (chunk_bytes s r c) → ⊥
    unfolding directory_of
    there e = last_found (limits_of s r) Listing (chunk_bytes s r c) (listing_chunk_lem (directory_of s r) (shape_of r) c t).1 e

    -- with the last name, and inside the bytes
    hit : (x : Place) → Some x ≡ last_in (limits_of s r) Listing (chunk_bytes s r c) → Hits (chunk_bytes s r c) x (last_name (directory_of s r c))
    unfolding directory_of
    hit x e = last_hit (limits_of s r) Listing (chunk_bytes s r c) (listing_chunk_lem (directory_of s r) (shape_of r) c t).1 x e

    inside : (x : Place) → Some x ≡ last_in (limits_of s r) Listing (chunk_bytes s r c) → (b : List ℕ) → b ≡ chunk_bytes s r c → x.start + x.len ≤ length b
    inside x e b q = rw q (hit x e).inside

pub returns-in_default : goal.returns-in_default
returns-in_default c =
    let a = c.args in
    absurd (there a.file.now a.book a.c c.requires.2 (met a.file.now a.book a.c _ _ _ _ c.limits.ensures c.chunk_bytes-bytes.ensures c.last_entry.ensures c.in_default.is))

pub overflow_add-start : goal.overflow_add-start
overflow_add-start c =
    let a = c.args in
    let e = met a.file.now a.book a.c _ _ _ _ c.limits.ensures c.chunk_bytes-bytes.ensures c.last_entry.ensures c.in-Some.is in
    omega (arith, inside a.file.now a.book a.c c.requires.2 c.in-Some.e e c.chunk_bytes-bytes.result.now c.chunk_bytes-bytes.ensures)

pub slice_bounds-is_before-count : goal.slice_bounds-is_before-count
slice_bounds-is_before-count c =
    let a = c.args in
    let e = met a.file.now a.book a.c _ _ _ _ c.limits.ensures c.chunk_bytes-bytes.ensures c.last_entry.ensures c.in-Some.is in
    omega (arith, inside a.file.now a.book a.c c.requires.2 c.in-Some.e e c.chunk_bytes-bytes.result.now c.chunk_bytes-bytes.ensures)

pub slice_bounds-is_before-start : goal.slice_bounds-is_before-start
slice_bounds-is_before-start c = omega arith

pub slice_bounds-is_before-end : goal.slice_bounds-is_before-end
slice_bounds-is_before-end c =
    let a = c.args in
    let e = met a.file.now a.book a.c _ _ _ _ c.limits.ensures c.chunk_bytes-bytes.ensures c.last_entry.ensures c.in-Some.is in
    omega (arith, inside a.file.now a.book a.c c.requires.2 c.in-Some.e e c.chunk_bytes-bytes.result.now c.chunk_bytes-bytes.ensures)

pub returns : goal.returns
returns c =
    let a = c.args in
    let e = met a.file.now a.book a.c _ _ _ _ c.limits.ensures c.chunk_bytes-bytes.ensures c.last_entry.ensures c.in-Some.is in
    rw (← (hit a.file.now a.book a.c c.requires.2 c.in-Some.e e).named, ← c.chunk_bytes-bytes.ensures) (simp add-sub_cancel_left at c.is_before.ensures)
