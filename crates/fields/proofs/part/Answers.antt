use Rattle.fields.proofs.Base.{◌≡◌, sym, ap, ◌∙◌, ℕ, ◌+◌, ◌-◌, arith, take, drop}
use Rattle.fields.proofs.Parts.{part_inside, part_outside}
use Rattle.fields.proofs.part.Goals.{then-at-s+else-n-s, else-at-s}
use Rattle.fields.proofs.part.Goals as goal

pub returns-then-n-s : goal.returns-then-n-s
returns-then-n-s c = let a = c.args in
    let e : a.at + a.n - a.at ≡ a.n = omega arith in
    ap (λ (k : ℕ). take k (drop a.at a.s.now)) e ∙ sym (part_inside a.s.now a.at a.n (omega arith))

pub returns : goal.returns
returns c = let a = c.args in
    sym (part_outside a.s.now a.at a.n (elim c.if-at-s.branch [ then-at-s+else-n-s w ↦ omega arith | else-at-s w ↦ omega arith ]))
