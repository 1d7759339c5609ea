use Rattle.fields.proofs.Base.{eq-eqb, ne_eqb, ◌≡◌, List, ℕ, sym, ◌∙◌, Option}
use Rattle.refusals.specs.Refusals.{no_chunk}
use Rattle.header.specs.declared.Record.{Record}
use Rattle.tree.specs.Tree.{top}
use Rattle.tree.specs.Walk.{walk_tree}
use Rattle.book.specs.Book.{directory_of, shape_of}
use Rattle.opening.specs.Passes.{progress_of}
use Rattle.opening.proofs.Visits.{stopped_is, going_is}
use Rattle.opening.proofs.tree_right.Goals as goal

-- what the walk x from the top came to
walked : (s : List ℕ) (r : Record) (k n : ℕ) (x y : Option (ℕ × ℕ)) → n ≡ top (shape_of r) → x ≡ progress_of (walk_tree (directory_of s r) (shape_of r) r.depth n r.first k) → x ≡ y
    → y ≡ progress_of (walk_tree (directory_of s r) (shape_of r) r.depth (top (shape_of r)) r.first k)
walked s r k n x y p q e = rw (← p) (sym e ∙ q)

pub returns-in_default : goal.returns-in_default
returns-in_default c =
    let a = c.args in
    rw (stopped_is _ (walked a.file.now a.book a.indexes _ _ _ c.top_chunk.ensures c.walk_tree.ensures c.in_default.is))

pub returns-then-expected-no_chunk : goal.returns-then-expected-no_chunk
returns-then-expected-no_chunk c =
    let a = c.args in
    rw (
      going_is _ _ _ (walked a.file.now a.book a.indexes _ _ _ c.top_chunk.ensures c.walk_tree.ensures c.in-Some.is),
      eq-eqb _ no_chunk (c.if-expected-no_chunk.true ∙ c.no_chunk.ensures),
    )

pub returns-else-expected-no_chunk : goal.returns-else-expected-no_chunk
returns-else-expected-no_chunk c =
    let a = c.args in
    rw (
      going_is _ _ _ (walked a.file.now a.book a.indexes _ _ _ c.top_chunk.ensures c.walk_tree.ensures c.in-Some.is),
      ne_eqb _ no_chunk (λ q. c.if-expected-no_chunk.false (q ∙ sym c.no_chunk.ensures)),
    )
