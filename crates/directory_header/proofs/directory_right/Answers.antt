use Rattle.fields.proofs.Base.{arith, sym, ◌∙◌}
use Rattle.directory_header.proofs.Rules.{bounds_told}
use Rattle.directory_header.proofs.directory_right.Goals as goal

pub overflow_mul-f : goal.overflow_mul-f
overflow_mul-f c = omega (arith, (bounds_told c.args.f (sym c.bounds_right.ensures ∙ c.if-not-bounds_right.false)).count_high)

pub overflow_add-f : goal.overflow_add-f
overflow_add-f c = omega (arith, (bounds_told c.args.f (sym c.bounds_right.ensures ∙ c.if-not-bounds_right.false)).count_high)
