-- The descent for a name on any directory (FORMAT, Descent): its outcome, and the chunks that it goes through.
use Rattle.std.specs.Prelude.{cond, List, [], ◌∷◌, ℕ, zero, suc}
use Rattle.entries.specs.Entry.{Entry}
use Rattle.chunk.specs.Chunk.{Parsed, entries_in}
use Rattle.quickref.specs.Quickref.{Sought}
use Rattle.seek.specs.Seek.{entry_named, choice}
use Rattle.tree.specs.Shape.{Shape, listing_chunk, index_chunk}
use Rattle.tree.specs.Tree.{top}

-- `found` has the listing chunk and its entry; `refused` is a chunk that is not below the count, or not of its level's kind
pub data Outcome : Type 0 where
  found : ℕ → Entry → Outcome
  absent : Outcome
  refused : Outcome

-- what a listing chunk answers (Q4)
abbrev pub answer : ℕ → Sought → Outcome
answer c Sought.absent = absent
answer c (Sought.found e) = found c e

-- the entry of an index chunk to go down from: the last whose name is not above (Q2)
abbrev pub child_for : List ℕ → Parsed → Sought
child_for name p = choice name Sought.absent (entries_in p)

-- f of the child of the entry that was chosen; where there is none, d (Q3)
abbrev pub onward : {A : Type 0} → Sought → A → (ℕ → A) → A
onward Sought.absent d f = d
onward (Sought.found e) d f = f e.child

module _ (D : ℕ → Parsed) (H : Shape) (name : List ℕ) where
  -- from chunk c of a level
  unfoldable pub outcome_from : ℕ → ℕ → Outcome
  outcome_from zero c = refused
  outcome_from (suc zero) c = cond (listing_chunk D H c) (answer c (entry_named name (entries_in (D c)))) refused
  outcome_from (suc (suc l)) c = cond (index_chunk D H c) (onward (child_for name (D c)) absent (λ k. outcome_from (suc l) k)) refused

  -- the chunks, that at which it starts and each child that it takes (Q6); a chunk that is refused is the last
  unfoldable pub trail_from : ℕ → ℕ → List ℕ
  trail_from zero c = []
  trail_from (suc zero) c = c ∷ []
  trail_from (suc (suc l)) c = c ∷ cond (index_chunk D H c) (onward (child_for name (D c)) [] (λ k. trail_from (suc l) k)) []

  -- the whole descent begins at the top (Q1), whose level is the depth
  unfoldable pub outcome : Outcome
  outcome = outcome_from H.depth (top H)

  unfoldable pub trail : List ℕ
  trail = trail_from H.depth (top H)
