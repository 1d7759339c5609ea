use Rattle.fields.proofs.Base.{◌∙◌, arith}
use Rattle.source.specs.Source.{item_from}
use Rattle.source.proofs.Rows.{taken_spent, taken_some}
use Rattle.source.proofs.step.Goals as goal

pub returns-then-from-eq0 : goal.returns-then-from-eq0
returns-then-from-eq0 c = taken_spent _ _ (omega (arith, c.if-from-eq0.true))

pub returns-in-Listing : goal.returns-in-Listing
unfolding item_from
returns-in-Listing c = rw c.in-Listing.is (c.listing_at.ensures ∙ taken_some _ _ c.if-from-eq0.false)

pub returns : goal.returns
unfolding item_from
returns c = rw c.in_default.is (c.child_entry.ensures ∙ taken_some _ _ c.if-from-eq0.false)
