use Rattle.fields.proofs.Base.{arith}
use Rattle.writer.proofs.Indexing.{indexing_start, indexing_end, indexing_room, indexing_some, indexing_turn}
use Rattle.writer.proofs.put_index.Goals as goal

pub loop-end-init : goal.loop-end-init
loop-end-init c = indexing_start _ _ _ _ _ _ _ c.requires.0 c.requires.1

pub put_level-next-requires : goal.put_level-next-requires
put_level-next-requires c = indexing_room _ _ _ _ _ _ _ c.requires.0 _ _ _ c.loop-end.invariant c.loop-end-test.true

pub loop-end-smaller : goal.loop-end-smaller
loop-end-smaller c = let r = c.put_level-next in let x = indexing_some _ _ _ _ _ _ _ c.requires.0 _ _ _ c.loop-end.invariant c.loop-end-test.true _ r.ensures.0 in omega (arith, x.0, x.1)

pub loop-end-preserved : goal.loop-end-preserved
loop-end-preserved c = let r = c.put_level-next in indexing_turn _ _ _ _ _ _ _ c.requires.0 _ _ _ c.loop-end.invariant c.loop-end-test.true _ _ r.auto.out r.ensures.0 r.ensures.1

pub returns : goal.returns
returns c = indexing_end _ _ _ _ _ _ _ c.requires.0 _ _ _ c.loop-end.invariant c.loop-end-test.false
