-- The descent step by step, as the private functions take it.
use Rattle.std.specs.Prelude.{◌≡◌, cond, List, ℕ, ◌+◌, length, Result, Option, Some, None}
use Rattle.std.proofs.lemmas.List.Edits.{sets}
use Rattle.header.specs.declared.Record.{Record}
use Rattle.tree.specs.Shape.{index_chunk}
use Rattle.tree.specs.Descent.{Outcome, child_for, onward, outcome_from, trail_from}
use Rattle.book.specs.Book.{directory_of, shape_of}
use Rattle.search.specs.Search.{cost_at}
use Rattle.lookup.specs.Lookup.{costs, answer_of, unless}
use Rattle.lookup.specs.declared.Effort.{Effort}
use Rattle.lookup.specs.declared.Answer.{Answer}
use Rattle.seek.specs.declared.Searched.{Searched}
use Rattle.refusals.specs.declared.Refusal.{Refusal}

-- where index chunk c leads: to the child of the entry to go down from (Q2), or nowhere (Q3), with how many comparisons are made there;
-- none where it is no index chunk below the count (K13)
unfoldable pub way_at : List ℕ → Record → List ℕ → ℕ → Option (Searched (Option ℕ))
way_at s book name c =
    cond (index_chunk (directory_of s book) (shape_of book) c)
    (Some (record { answer = onward (child_for name (directory_of s book c)) None (λ k. Some k); count = cost_at s book name c }))
    None

-- the descent from chunk c of a level on: what it comes to, and its chunks
abbrev pub outcome_at : List ℕ → Record → List ℕ → ℕ → ℕ → Outcome
outcome_at s book name level c = outcome_from (directory_of s book) (shape_of book) name level c

abbrev pub trail_at : List ℕ → Record → List ℕ → ℕ → ℕ → List ℕ
trail_at s book name level c = trail_from (directory_of s book) (shape_of book) name level c

-- what a descent takes that took i chunks and n comparisons before
abbrev pub effort_after : List ℕ → Record → List ℕ → ℕ → ℕ → List ℕ → Effort
effort_after s book name i n cs = record { chunks = i + length cs; comparisons = n + costs s book name cs }

-- chunk c being chunk i of a whole descent, which made n comparisons before: the answer, and the trail, which was `was`
pub record Descended (s : List ℕ) (book : Record) (name : List ℕ) (level c i n : ℕ) (was : List ℕ) (r : Result Answer Refusal) (is : List ℕ) : Type 0 where
  pub answer : r ≡ answer_of book (effort_after s book name i n (trail_at s book name level c)) (outcome_at s book name level c)
  pub places : is ≡ unless r was (sets was i (trail_at s book name level c))
