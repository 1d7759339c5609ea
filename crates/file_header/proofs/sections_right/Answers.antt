use Rattle.fields.proofs.Base.{arith, sym, ◌∙◌}
use Rattle.file_header.proofs.Rules.{places_told}
use Rattle.file_header.proofs.sections_right.Goals as goal

pub content_right-requires : goal.content_right-requires
content_right-requires c = omega (arith, (places_told _ _ (sym c.places_right.ensures ∙ c.if-not-places_right.false)).1)
