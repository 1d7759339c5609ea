use Rattle.fields.proofs.Base.{◌≡◌, sym, ap, ◌∙◌, subst, List, ℕ, ◌-◌, ◌<◌, arith, Option, Some}
use mathlib.Core.Path.{subst₂}
use native.Mathlib.Nat.{sub-zero, sub-add-eq}
use Rattle.entries.specs.Entry.{Entry}
use Rattle.chunk.specs.Chunk.{entries_in}
use Rattle.chunk_fields.specs.ChunkFields.{entry_count}
use Rattle.header.specs.declared.Record.{Record}
use Rattle.tree.specs.Walk.{TreeProgress, going, visit, into_child, walk_tree}
use Rattle.tree.proofs.Chunks.{index_chunk_lem}
use Rattle.tree.proofs.Steps.{walk_none, leaf_other, index_none, index_not, index_enter}
use Rattle.book.specs.Book.{chunk_bytes, directory_of, shape_of}
use Rattle.opening.specs.Passes.{progress_of, named_child}
use Rattle.opening.proofs.Visits.{Left, Visited, all_left, none_left, visited, stopped_is, going_is, leaf_is}
use Rattle.opening.proofs.+walk_tree.Goals as goal

-- what the entry that was met at a place makes of the visit, x being what was met
met : (s : List ℕ) (r : Record) (c : ℕ) (f : ℕ → ℕ → ℕ → TreeProgress) (at : ℕ) (xs : List Entry) (expected left rest : ℕ) (x y : Option (ℕ × ℕ))
    → 0 < rest → Left s r c rest at xs → x ≡ named_child s r c at → x ≡ y → Visited s r c f at xs expected left (rest - 1) y
met s r c f at xs expected left rest x y h i p q =
    subst (Visited s r c f at xs expected left (rest - 1)) (sym p ∙ q) (visited s r c f at xs expected left rest h i)

-- the visit goes on behind an entry under whose child the walk comes to e and k
on : (s : List ℕ) (r : Record) (c : ℕ) (f : ℕ → ℕ → ℕ → TreeProgress) (at : ℕ) (xs : List Entry) (expected left rest child behind e k : ℕ) (t : TreeProgress)
    → Visited s r c f at xs expected left rest (Some (child, behind)) → f child expected left ≡ going e k → visit (into_child (directory_of s r) f) xs expected left ≡ t
    → (ys : List Entry) × Left s r c rest behind ys × (visit (into_child (directory_of s r) f) ys e k ≡ t)
on s r c f at xs expected left rest child behind e k t v z i = (v.0, v.1, sym (rw z at v.2) ∙ i)

pub returns-then-level-eq0 : goal.returns-then-level-eq0
returns-then-level-eq0 t c =
    let a = c.args in
    ap progress_of (sym (walk_none (directory_of a.file.now a.book) (shape_of a.book) a.level a.c a.expected a.left c.if-level-eq0.true))

pub returns-then-c-expected : goal.returns-then-c-expected
returns-then-c-expected t c =
    let a = c.args in
    ap progress_of (sym (leaf_other (directory_of a.file.now a.book) (shape_of a.book) a.level a.c a.expected a.left c.if-level-eq1.true c.if-c-expected.true))

pub returns-then-level-eq1 : goal.returns-then-level-eq1
returns-then-level-eq1 t c =
    let a = c.args in
    c.leaf.ensures ∙ leaf_is (directory_of a.file.now a.book) (shape_of a.book) a.level a.c a.expected a.left c.if-level-eq1.true c.if-c-expected.false

pub returns-then-left-eq0 : goal.returns-then-left-eq0
returns-then-left-eq0 t c =
    let a = c.args in
    ap progress_of (sym (index_none (directory_of a.file.now a.book) (shape_of a.book) a.level a.c a.expected a.left (omega arith) c.if-left-eq0.true))

pub returns-then-not-is_index : goal.returns-then-not-is_index
returns-then-not-is_index t c =
    let a = c.args in
    ap progress_of
    (sym (index_not (directory_of a.file.now a.book) (shape_of a.book) a.level a.c a.expected a.left (omega arith) (sym c.is_index.ensures ∙ c.if-not-is_index.true)))

pub loop-init : goal.loop-init
loop-init t c =
    let a = c.args in
    let h = sym c.is_index.ensures ∙ c.if-not-is_index.false in
    let q : c.entry_count-entries.result - 0 ≡ entry_count (chunk_bytes a.file.now a.book a.c) = sub-zero _ ∙ rw (← c.chunk_bytes.ensures) c.entry_count-entries.ensures in (
      entries_in (directory_of a.file.now a.book a.c),
      subst₂ (λ (n m : ℕ). Left a.file.now a.book a.c n m (entries_in (directory_of a.file.now a.book a.c))) (sym q) (sym c.first_place-at.ensures)
          (all_left a.file.now a.book a.c (index_chunk_lem (directory_of a.file.now a.book) (shape_of a.book) a.c h).1),
      index_enter (directory_of a.file.now a.book) (shape_of a.book) a.level a.c a.expected a.left (omega arith) (omega arith) h,
    )

pub returns-in_err-child : goal.returns-in_err-child
returns-in_err-child t c =
    let a = c.args in
    let l = c.loop in
    let f = walk_tree (directory_of a.file.now a.book) (shape_of a.book) (a.level - 1) in
    let w = met a.file.now a.book a.c f l.at l.invariant.0 l.next l.k (c.entry_count-entries.result - l.counter) _ _ (omega arith) l.invariant.1 c.named_child.ensures c.in_err-child.was in
    c.from_residual.ensures ∙ ap progress_of (sym w ∙ l.invariant.2)

pub returns-in_err-e : goal.returns-in_err-e
returns-in_err-e t c =
    let a = c.args in
    let l = c.loop in
    let f = walk_tree (directory_of a.file.now a.book) (shape_of a.book) (a.level - 1) in
    let w = met a.file.now a.book a.c f l.at l.invariant.0 l.next l.k (c.entry_count-entries.result - l.counter) _ _ (omega arith) l.invariant.1 c.named_child.ensures c.in_ok-child.was in
    let z = stopped_is (f c.in_ok-child.child l.next l.k) (sym c.in_err-e.was ∙ c.walk_tree.ensures) in
    rw c.from_residual-in_err-e.ensures (ap progress_of (sym (rw z at w.2) ∙ l.invariant.2))

pub loop-preserved : goal.loop-preserved
loop-preserved t c =
    let a = c.args in
    let l = c.loop in
    let f = walk_tree (directory_of a.file.now a.book) (shape_of a.book) (a.level - 1) in
    let w = met a.file.now a.book a.c f l.at l.invariant.0 l.next l.k (c.entry_count-entries.result - l.counter) _ _ (omega arith) l.invariant.1 c.named_child.ensures c.in_ok-child.was in
    let z = going_is (f c.in_ok-child.child l.next l.k) c.in_ok-e.e c.in_ok-e.l (sym c.in_ok-e.was ∙ c.walk_tree.ensures) in
    rw (sub-add-eq c.entry_count-entries.result l.counter 1)
    (on a.file.now a.book a.c f l.at l.invariant.0 l.next l.k (c.entry_count-entries.result - l.counter - 1) c.in_ok-child.child c.in_ok-child.behind c.in_ok-e.e c.in_ok-e.l _ w z l.invariant.2)

pub returns : goal.returns
returns t c =
    let a = c.args in
    let l = c.loop in
    let f = walk_tree (directory_of a.file.now a.book) (shape_of a.book) (a.level - 1) in
    let z = none_left a.file.now a.book a.c (c.entry_count-entries.result - l.counter) l.at l.invariant.0 (omega arith) l.invariant.1 in
    ap progress_of (sym (ap (λ (ys : List Entry). visit (into_child (directory_of a.file.now a.book) f) ys l.next l.k) z) ∙ l.invariant.2)
