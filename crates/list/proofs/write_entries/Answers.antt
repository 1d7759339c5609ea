use Rattle.std.proofs.Common.{◌<◌, Ok, ap, subst, sym, ◌∙◌}
use Rattle.walk.specs.Walk.{weight}
use Rattle.walk.specs.declared.Walk.{Walk}
use Rattle.walk.proofs.Falling.{peek_falls}
use Rattle.list.proofs.write_entries.Goals as goal

pub loop-e-smaller : goal.loop-e-smaller
loop-e-smaller g c =
    subst
    (λ (w : Walk). weight w < weight c.loop-e.at)
    (sym c.after-at.ensures)
    (peek_falls c.args.file.now c.args.book c.loop-e.at _ _ (sym c.peek.ensures ∙ c.in-Ok-Some.is ∙ ap Ok c.in-Ok-Some.field-0-is))
