-- `pack::fill` meets its contract. The loop's invariant: what is taken, with what is yet to be taken, is the whole.
use Rattle.fields.proofs.Base.{◌≡◌, ◌≤◌}
use Rattle.source.specs.Source.{rows_from}
use Rattle.pack.specs.Fill.{extent_from}
use Rattle.pack.proofs.fill.Given as goal

abbrev pub invariant-loop-e : goal.invariant-loop-e
invariant-loop-e l = (l.f.count ≤ l.f.bytes) × (l.f.bytes ≤ 4096)
    × (extent_from l.kind l.n l.f.count l.f.bytes l.f.at l.f.left (rows_from l.content l.input l.starts l.kind l.f.left l.f.at)
    ≡ extent_from l.kind l.n 0 0 l.initial.f.at l.initial.f.left (rows_from l.content l.input l.starts l.kind l.initial.f.left l.initial.f.at))

abbrev pub decreases-loop-e : goal.decreases-loop-e
decreases-loop-e l = l.f.left
