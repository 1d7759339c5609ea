use Rattle.fields.proofs.Base.{◌∙◌, arith}
use Rattle.source.proofs.Rows.{taken_spent, taken_some}
use Rattle.writer.proofs.given_at.Goals as goal

pub returns-then-left-eq0 : goal.returns-then-left-eq0
returns-then-left-eq0 c = taken_spent _ _ (omega (arith, c.if-left-eq0.true))

pub returns : goal.returns
returns c = c.listing_at.ensures ∙ taken_some _ _ c.if-left-eq0.false
