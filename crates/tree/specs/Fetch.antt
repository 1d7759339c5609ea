-- The descent for a name over the bytes of chunks that nobody checks (K22): on any bytes, what the searches in one chunk make of them.
use Rattle.std.specs.Prelude.{List, ℕ, zero, suc}
use Rattle.names.specs.Names.{compared}
use Rattle.entries.specs.declared.Limits.{Limits}
use Rattle.quickref.specs.Quickref.{sought_of}
use Rattle.seek.specs.Seek.{find_in, choose_in}
use Rattle.tree.specs.Descent.{Outcome, absent, answer, onward}

-- from chunk c of a level on, `bytes` giving the bytes of each chunk number: the search of a listing chunk at level 1 (Q4), else the child that the search of
-- an index chunk chooses (Q2), or none (Q3)
module _ (limits : Limits) (bytes : ℕ → List ℕ) (name : List ℕ) where
  unfoldable pub fetch_from : ℕ → ℕ → Outcome
  fetch_from zero c = absent
  fetch_from (suc zero) c = answer c (sought_of (bytes c) (find_in limits (bytes c) (compared name)))
  fetch_from (suc (suc l)) c = onward (sought_of (bytes c) (choose_in limits (bytes c) (compared name))) absent (λ k. fetch_from (suc l) k)
