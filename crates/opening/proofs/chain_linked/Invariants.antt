use Rattle.fields.proofs.Base.{◌≡◌}
use Rattle.refusals.specs.Refusals.{no_chunk}
use Rattle.tree.specs.Walk.{chain_run}
use Rattle.book.specs.Book.{directory_of, shape_of}
use Rattle.opening.proofs.chain_linked.Given as goal

abbrev pub invariant-loop-left : goal.invariant-loop-left
invariant-loop-left l = chain_run (directory_of l.file l.book) (shape_of l.book) l.left l.previous l.c ≡ chain_run (directory_of l.file l.book) (shape_of l.book) l.listings no_chunk l.book.first

abbrev pub decreases-loop-left : goal.decreases-loop-left
decreases-loop-left l = l.left
