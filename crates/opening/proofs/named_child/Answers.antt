use Rattle.fields.proofs.Base.{◌≡◌, List, ℕ, sym, ◌∙◌, add-sub_cancel_left, arith, ◌+◌, ◌≤◌, ◌<◌, length, Option, Some}
use Rattle.fields.specs.Same.{same}
use Rattle.entries.specs.Entry.{item_at, name_of}
use Rattle.entries.specs.declared.Limits.{Limits}
use Rattle.entries.specs.declared.Place.{Place}
use Rattle.entries.proofs.Laws.{item_inside, index_apart}
use Rattle.entries.specs.declared.Kind.TheVariants.{Index}
use Rattle.header.specs.declared.Record.{Record}
use Rattle.tree.specs.Shape.{first_name}
use Rattle.book.specs.Book.{limits_of, chunk_bytes, directory_of}
use Rattle.opening.specs.Passes.{named_child}
use Rattle.opening.proofs.named_child.Goals as goal

module _ (s : List ℕ) (r : Record) (c at : ℕ) where
  -- what was read in the bytes b, held to l, is what stands in the chunk
  met : (l : Limits) (b : List ℕ) (i x : Option Place) → l ≡ limits_of s r → b ≡ chunk_bytes s r c → i ≡ item_at l Index b at → i ≡ x
      → item_at (limits_of s r) Index (chunk_bytes s r c) at ≡ x
  met l b i x p q e g = rw (← p, ← q) (sym e ∙ g)

  module _ (x : Place) (e : item_at (limits_of s r) Index (chunk_bytes s r c) at ≡ Some x) where
    -- an entry lies inside, and its child is below the count
    inside : (b : List ℕ) → b ≡ chunk_bytes s r c → x.start + x.len ≤ length b
    inside b q = rw q (item_inside (limits_of s r) Index (chunk_bytes s r c) at x e).name

    child_below : x.child < r.count
    unfolding limits_of item_at
    child_below = (index_apart r.count (chunk_bytes s r c) at x e).below

pub returns-in_err-x : goal.returns-in_err-x
unfolding named_child
returns-in_err-x c =
    let a = c.args in
    rw (c.from_residual.ensures, met a.file.now a.book a.c a.at _ _ _ _ c.limits.ensures c.chunk_bytes-bytes.ensures c.item_at.ensures c.in_err-x.was)

pub overflow_add-start : goal.overflow_add-start
overflow_add-start c =
    let a = c.args in
    let e = met a.file.now a.book a.c a.at _ _ _ _ c.limits.ensures c.chunk_bytes-bytes.ensures c.item_at.ensures c.in_ok-x.was in
    omega (arith, inside a.file.now a.book a.c a.at c.in_ok-x.x e c.chunk_bytes-bytes.result.now c.chunk_bytes-bytes.ensures)

pub slice_bounds-is_named-count : goal.slice_bounds-is_named-count
slice_bounds-is_named-count c =
    let a = c.args in
    let e = met a.file.now a.book a.c a.at _ _ _ _ c.limits.ensures c.chunk_bytes-bytes.ensures c.item_at.ensures c.in_ok-x.was in
    omega (arith, inside a.file.now a.book a.c a.at c.in_ok-x.x e c.chunk_bytes-bytes.result.now c.chunk_bytes-bytes.ensures)

pub slice_bounds-is_named-start : goal.slice_bounds-is_named-start
slice_bounds-is_named-start c = omega arith

pub slice_bounds-is_named-end : goal.slice_bounds-is_named-end
slice_bounds-is_named-end c =
    let a = c.args in
    let e = met a.file.now a.book a.c a.at _ _ _ _ c.limits.ensures c.chunk_bytes-bytes.ensures c.item_at.ensures c.in_ok-x.was in
    omega (arith, inside a.file.now a.book a.c a.at c.in_ok-x.x e c.chunk_bytes-bytes.result.now c.chunk_bytes-bytes.ensures)

pub is_named-requires : goal.is_named-requires
is_named-requires c =
    let a = c.args in
    let e = met a.file.now a.book a.c a.at _ _ _ _ c.limits.ensures c.chunk_bytes-bytes.ensures c.item_at.ensures c.in_ok-x.was in
    (c.requires, child_below a.file.now a.book a.c a.at c.in_ok-x.x e)

pub returns-then-is_named : goal.returns-then-is_named
unfolding named_child
returns-then-is_named c =
    let a = c.args in
    let e = met a.file.now a.book a.c a.at _ _ _ _ c.limits.ensures c.chunk_bytes-bytes.ensures c.item_at.ensures c.in_ok-x.was in
    let named_is : c.is_named.result ≡ same (name_of (chunk_bytes a.file.now a.book a.c) c.in_ok-x.x) (first_name (directory_of a.file.now a.book c.in_ok-x.x.child))
    = rw (← c.chunk_bytes-bytes.ensures) (simp add-sub_cancel_left at c.is_named.ensures) in
    rw (e, sym named_is ∙ c.if-is_named.true)

pub returns-else-is_named : goal.returns-else-is_named
unfolding named_child
returns-else-is_named c =
    let a = c.args in
    let e = met a.file.now a.book a.c a.at _ _ _ _ c.limits.ensures c.chunk_bytes-bytes.ensures c.item_at.ensures c.in_ok-x.was in
    let named_is : c.is_named.result ≡ same (name_of (chunk_bytes a.file.now a.book a.c) c.in_ok-x.x) (first_name (directory_of a.file.now a.book c.in_ok-x.x.child))
    = rw (← c.chunk_bytes-bytes.ensures) (simp add-sub_cancel_left at c.is_named.ensures) in
    rw (e, sym named_is ∙ c.if-is_named.false)
