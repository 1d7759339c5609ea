use Rattle.frames.proofs.Hex.{left_start, left_turn, left_end}
use Rattle.frames.proofs.put_hex.Goals as goal

pub loop-i-init : goal.loop-i-init
loop-i-init c = left_start _ _

pub loop-i-preserved : goal.loop-i-preserved
loop-i-preserved c = left_turn _ _ _ _ _ _ c.loop-i.invariant c.loop-i-test.true c.digit.ensures c.digit-in-loop-i.ensures

pub returns : goal.returns
returns c = left_end _ _ _ _ c.loop-i.invariant c.loop-i-test.false
