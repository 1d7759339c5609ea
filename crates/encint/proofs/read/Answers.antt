use Rattle.fields.proofs.Base.{sym, ◌∙◌, arith}
use Rattle.encint.proofs.Reading.{at_past, at_one, at_cut, at_number}
use Rattle.encint.proofs.Padded.{answer_exact}
use Rattle.encint.proofs.read.Goals as goal

pub returns-then-s-at : goal.returns-then-s-at
returns-then-s-at c = let w = answer_exact _ _ (λ j. (c.type_inv.s j).fits) _ (sym (at_past _ _ c.if-s-at.true)) in record { number = w.0; exact = w.1 }

pub returns-then-b-lt128 : goal.returns-then-b-lt128
returns-then-b-lt128 c = let w = answer_exact _ _ (λ j. (c.type_inv.s j).fits) _ (sym (at_one _ _ (omega arith) (omega arith))) in record { number = w.0; exact = w.1 }

pub returns-then-s-next : goal.returns-then-s-next
returns-then-s-next c = let w = answer_exact _ _ (λ j. (c.type_inv.s j).fits) _ (sym (at_cut _ _ (omega arith) (omega arith) c.if-s-next.true)) in record { number = w.0; exact = w.1 }

pub returns : goal.returns
returns c = let w = answer_exact _ _ (λ j. (c.type_inv.s j).fits) _ (c.groups_at.ensures ∙ sym (at_number _ _)) in record { number = w.0; exact = w.1 }
