use Rattle.fields.proofs.Base.{sym, ◌∙◌, arith}
use Rattle.file_header.proofs.Rules.{sections_told}
use Rattle.file_header.proofs.check.Goals as goal

pub fields_of-requires : goal.fields_of-requires
fields_of-requires c =
    omega (arith, (sections_told c.args.h.now c.args.len (sym c.sections_right.ensures ∙ c.if-not-sections_right.false)).directory)
