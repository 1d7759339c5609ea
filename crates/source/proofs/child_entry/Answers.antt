use Rattle.fields.proofs.Base.{sym, ◌∙◌, lt-ltb, le-ltb}
use Rattle.source.specs.Source.{index_entry_for}
use Rattle.source.proofs.child_entry.Goals as goal

pub returns-then-starts-c : goal.returns-then-starts-c
unfolding index_entry_for
returns-then-starts-c c = simp (le-ltb _ _ c.if-starts-c.true)

pub returns-in_err-len : goal.returns-in_err-len
unfolding index_entry_for
returns-in_err-len c = rw (c.from_residual.ensures, lt-ltb _ _ c.if-starts-c.false, sym c.name_at.ensures ∙ c.in_err-len.was)

pub returns : goal.returns
unfolding index_entry_for
returns c = simp (lt-ltb _ _ c.if-starts-c.false, sym c.name_at.ensures ∙ c.in_ok-len.was)
