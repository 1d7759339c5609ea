use Rattle.fields.proofs.Base.{le-ltb, lt-ltb, sym, arith}
use Rattle.entries.specs.Entry.{index_at}
use Rattle.entries.proofs.Laws.{name_next}
use Rattle.entries.proofs.index_at.Goals as goal

pub returns-in_err-n : goal.returns-in_err-n
unfolding index_at
returns-in_err-n c = simp (c.from_residual.ensures, sym c.in_err-n.ensures)

pub overflow_add-start : goal.overflow_add-start
overflow_add-start c = let h = name_next _ _ _ _ (sym c.in_ok-n.ensures) in omega arith

pub returns-in_err-child : goal.returns-in_err-child
unfolding index_at
returns-in_err-child c = simp (c.from_residual-in_err-child.ensures, sym c.in_ok-n.ensures, sym c.in_err-child.ensures.number)

pub returns-then-count-child : goal.returns-then-count-child
unfolding index_at
returns-then-count-child c = simp (sym c.in_ok-n.ensures, sym c.in_ok-child.ensures.number, le-ltb _ _ c.if-count-child.true)

pub returns : goal.returns
unfolding index_at
returns c = simp (sym c.in_ok-n.ensures, sym c.in_ok-child.ensures.number, lt-ltb _ _ c.if-count-child.false)
