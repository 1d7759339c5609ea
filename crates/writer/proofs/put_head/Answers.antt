use Rattle.writer.proofs.Heads.{leaves_are, ready_level, head_written}
use Rattle.writer.proofs.put_head.Goals as goal

pub put_level-requires : goal.put_level-requires
put_level-requires c = rw c.put_headers.auto.out (ready_level _ _ _ _ _ _ _ _ _ c.requires.ready (leaves_are _ _ _))

pub returns : goal.returns
returns c = let p = c.requires in
    head_written _ _ _ _ _ _ _ _ _ p.ready (leaves_are _ _ _) _ _ _ p.n_value.0 _ _ _ _
    c.put_headers.ensures c.put_level.ensures.1 c.put_index.ensures
