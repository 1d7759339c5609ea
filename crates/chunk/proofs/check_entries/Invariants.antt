use Rattle.fields.proofs.Base.{◌≡◌, ◌+◌, ◌*◌, ◌<◌}
use Rattle.chunk_fields.specs.ChunkFields.{first_place}
use Rattle.chunk.specs.Chunk.{entries_at, checked_entries}
use Rattle.chunk.specs.Answer.{chunk_of}
use Rattle.chunk.proofs.Turn.{outcome}
use Rattle.chunk.proofs.check_entries.Given as goal

-- entry word * n + past is next, and `left` entries are left
abbrev pub invariant-loop-left : goal.invariant-loop-left
invariant-loop-left l = (l.m.past < l.n) × (l.m.word * l.n + l.m.past + l.left ≡ l.total)
    × (outcome l.n l.kind l.c l.rises l.quick (l.m.word * l.n + l.m.past) l.last (entries_at l.limits l.kind l.c l.end l.left l.at)
    ≡ chunk_of (checked_entries l.n l.kind l.c (entries_at l.limits l.kind l.c l.end l.total (first_place l.kind))))

abbrev pub decreases-loop-left : goal.decreases-loop-left
decreases-loop-left l = l.left
