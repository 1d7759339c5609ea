use Rattle.fields.proofs.Base.{eq-eqb, ne_eqb}
use Rattle.tree.specs.Tree.{top}
use Rattle.book.proofs.top_chunk.Goals as goal

pub returns-then-book-eq1 : goal.returns-then-book-eq1
unfolding top
returns-then-book-eq1 c = rw (eq-eqb _ _ c.if-book-eq1.true)

pub returns : goal.returns
unfolding top
returns c = rw (ne_eqb _ _ c.if-book-eq1.false)
