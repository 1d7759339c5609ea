use Rattle.fields.proofs.Base.{◌∙◌, arith, rules, length-set}
use Rattle.encint.proofs.Writing.{leading_turn, leading_end}
use Rattle.encint.proofs.write_leading.Goals as goal

pub loop-j-preserved : goal.loop-j-preserved
loop-j-preserved c = let l = c.loop-j in
    (search rules, simp length-set l.invariant.1, leading_turn l.out c.args.at l.j l.x (omega arith) (omega arith) ∙ l.invariant.2)

pub returns : goal.returns
returns c = let l = c.loop-j in leading_end l.out c.args.at l.j l.x c.loop-j-test.false ∙ l.invariant.2
