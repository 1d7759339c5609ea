-- The invariant: the chunks are those of the two walks, and what was passed so far leaves the step as it is.
use Rattle.fields.proofs.Base.{◌≡◌}
use Rattle.book.specs.Book.{chunk_bytes}
use Rattle.walk.specs.Walk.{weight}
use Rattle.turn.specs.Turn.{both_at}
use Rattle.compare.specs.Passing.{Passed}
use Rattle.compare.proofs.pass_inside.Given as goal

abbrev pub invariant-loop-first : goal.invariant-loop-first
invariant-loop-first l = (l.c1 ≡ chunk_bytes l.file1 l.one l.first.chunk) × (l.c2 ≡ chunk_bytes l.file2 l.two l.second.chunk)
    × Passed l.file1 l.one l.file2 l.two (both_at l.initial.first l.initial.second l.initial.totals) (both_at l.first l.second l.totals)

abbrev pub decreases-loop-first : goal.decreases-loop-first
decreases-loop-first l = weight l.first
