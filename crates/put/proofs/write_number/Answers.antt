use Rattle.fields.proofs.Base.{length-set, rules}
use Rattle.fields.proofs.Le.{bytes_more, bytes_none}
use Rattle.put.proofs.Put.{sets_turn, sets_end}
use Rattle.put.proofs.write_number.Goals as goal

pub loop-i-preserved : goal.loop-i-preserved
loop-i-preserved c = let l = c.loop-i in
    (search rules, simp length-set l.invariant.1, sets_turn _ _ _ _ _ _ _ (bytes_more _ l.i l.x c.loop-i-test.true) l.invariant.2)

pub returns : goal.returns
returns c = let l = c.loop-i in sets_end _ _ _ _ (bytes_none _ l.i l.x c.loop-i-test.false) l.invariant.2
