use Rattle.fields.proofs.Base.{◌≡◌, List, ℕ, subst, add-sub_cancel_left, arith, ◌+◌, ◌≤◌, length, Some}
use Rattle.entries.specs.declared.Place.{Place}
use Rattle.header.specs.declared.Record.{Record}
use Rattle.book.specs.Book.{chunk_bytes}
use Rattle.opening.specs.Passes.{FirstHit}
use Rattle.opening.proofs.first_name.Goals as goal

-- the first entry lies inside the bytes b of its chunk
inside : (s : List ℕ) (r : Record) (c : ℕ) (b : List ℕ) (x : Place) → b ≡ chunk_bytes s r c → FirstHit s r c (Some x) → x.start + x.len ≤ length b
inside s r c b x q h = rw q h.0

pub returns-in_default : goal.returns-in_default
returns-in_default c = let a = c.args in
    absurd (subst (FirstHit a.file.now a.book a.c) c.in_default.is c.first_of.ensures)

pub overflow_add-result : goal.overflow_add-result
overflow_add-result c =
    let a = c.args in
    let h = subst (FirstHit a.file.now a.book a.c) c.in-Some.is c.first_of.ensures in
    omega (arith, inside a.file.now a.book a.c c.chunk_bytes-bytes.result.now c.in-Some.e c.chunk_bytes-bytes.ensures h)

pub slice_bounds-result-end-2 : goal.slice_bounds-result-end-2
slice_bounds-result-end-2 c =
    let a = c.args in
    let h = subst (FirstHit a.file.now a.book a.c) c.in-Some.is c.first_of.ensures in
    omega (arith, inside a.file.now a.book a.c c.chunk_bytes-bytes.result.now c.in-Some.e c.chunk_bytes-bytes.ensures h)

pub returns : goal.returns
returns c =
    let a = c.args in
    let h = subst (FirstHit a.file.now a.book a.c) c.in-Some.is c.first_of.ensures in
    rw (← h.1, ← c.chunk_bytes-bytes.ensures, add-sub_cancel_left)
