use Rattle.fields.proofs.Base.{◌+◌, arith, lt-ltb, le-ltb}
use Rattle.layout.specs.Layout.{new_next}
use Rattle.layout.proofs.following.Goals as goal

pub returns-then-m-c : goal.returns-then-m-c
unfolding new_next
returns-then-m-c c = rw (le-ltb (c.args.c + 1) c.args.m (omega arith)) c.no_chunk.ensures

pub returns-then-c-m : goal.returns-then-c-m
unfolding new_next
returns-then-c-m c = rw (lt-ltb (c.args.c + 1) c.args.m c.if-c-m.true)

pub returns : goal.returns
unfolding new_next
returns c = rw (le-ltb (c.args.c + 1) c.args.m c.if-c-m.false) c.no_chunk-2.ensures
