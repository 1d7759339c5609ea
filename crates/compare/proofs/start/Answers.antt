use Rattle.fields.proofs.Base.{◌≡◌, sym, subst, List, ℕ, Ok}
use Rattle.header.specs.declared.Record.{Record}
use Rattle.opening.specs.Opened.{opened}
use Rattle.turn.specs.declared.Cursor.{Cursor}
use Rattle.compare.specs.Compare.{compare_start}
use Rattle.compare.specs.Compared.{ComparisonExact, BooksCompared}
use Rattle.compare.proofs.Exact.{comparison_exact}
use Rattle.compare.proofs.Compared.{books_compared}
use Rattle.compare.proofs.start.Goals as goal

promised : (one two : Record) (at : Cursor) → at ≡ compare_start one two
    → record {
      answer : at ≡ compare_start one two;
      exact : (s₁ s₂ : List ℕ) → ComparisonExact s₁ one s₂ two at;
      opened : (s₁ s₂ : List ℕ) → opened s₁ ≡ Ok one → opened s₂ ≡ Ok two → BooksCompared s₁ one s₂ two at;
    }
promised one two at e = record {
  answer = e;
  exact = λ s₁ s₂. subst (ComparisonExact s₁ one s₂ two) (sym e) (comparison_exact s₁ one s₂ two);
  opened = λ s₁ s₂ o₁ o₂. subst (BooksCompared s₁ one s₂ two) (sym e) (books_compared s₁ one s₂ two o₁ o₂);
}

pub returns : goal.returns
returns c = promised _ _ _ (rw (c.start-first.ensures.answer, c.start-second.ensures.answer))
