-- What a comparison of two books that open is worth: `books_compared`.
use Rattle.fields.proofs.Base.{◌≡◌, refl, sym, ap, subst, ◌∙◌, true, List, ℕ, arith, length, Ok}
use Rattle.header.specs.declared.Record.{Record}
use Rattle.tree.specs.Chain.{chain_entries}
use Rattle.tree.specs.Reading.{Reading}
use Rattle.book.specs.Book.{directory_of, shape_of}
use Rattle.opening.specs.Opened.{opened}
use Rattle.walk.specs.Exact.{reading_of}
use Rattle.compare.specs.Course.{done, Course, merged, course, pairs, ending, firsts, seconds, no_totals}
use Rattle.compare.specs.Compare.{compare_start}
use Rattle.compare.specs.Compared.{course_pairs, PairsRight, BooksCompared}
use Rattle.compare.proofs.Merged.{merged_merges, merged_ends}
use Rattle.compare.proofs.Which.{merges_right}
use Rattle.compare.proofs.Counted.{first_total, second_total}
use Rattle.compare.proofs.Exact.{comparison_exact, none_refused}
use Rattle.compare.proofs.Books.{book_read, book_rises, book_length, book_few}

module _ (s₁ : List ℕ) (b₁ : Record) (s₂ : List ℕ) (b₂ : Record) (o₁ : opened s₁ ≡ Ok b₁) (o₂ : opened s₂ ≡ Ok b₂) where
  -- both are read to their ends
  whole_course : course s₁ b₁ s₂ b₂ ≡ merged true true (reading_of s₁ b₁).entries (reading_of s₂ b₂).entries
  unfolding course
  whole_course =
      let p : (reading_of s₁ b₁).whole ≡ true = ap (λ (r : Reading). r.whole) (book_read s₁ b₁ o₁) in
      let q : (reading_of s₂ b₂).whole ≡ true = ap (λ (r : Reading). r.whole) (book_read s₂ b₂ o₂) in
      rw (p, q) refl

  course_ends : ending (course s₁ b₁ s₂ b₂) ≡ done
  course_ends = ap ending whole_course ∙ merged_ends (reading_of s₁ b₁).entries (reading_of s₂ b₂).entries

  course_right : PairsRight (reading_of s₁ b₁).entries (reading_of s₂ b₂).entries (course_pairs s₁ b₁ s₂ b₂)
  course_right =
      subst (λ (c : Course). PairsRight (reading_of s₁ b₁).entries (reading_of s₂ b₂).entries (pairs c)) (sym whole_course)
      (merges_right (merged_merges (reading_of s₁ b₁).entries (reading_of s₂ b₂).entries) (book_rises s₁ b₁ o₁) (book_rises s₂ b₂ o₂))

  pub books_compared : BooksCompared s₁ b₁ s₂ b₂ (compare_start b₁ b₂)
  books_compared =
      let r = course_right in
      let p : length (firsts (course_pairs s₁ b₁ s₂ b₂)) ≡ length (chain_entries (directory_of s₁ b₁) (shape_of b₁)) = ap length r.first_all ∙ book_length s₁ b₁ o₁ in
      let q : length (seconds (course_pairs s₁ b₁ s₂ b₂)) ≡ length (chain_entries (directory_of s₂ b₂) (shape_of b₂)) = ap length r.second_all ∙ book_length s₂ b₂ o₂ in
      record {
        exact = comparison_exact s₁ b₁ s₂ b₂;
        ends = course_ends;
        never_refused = none_refused s₁ b₁ s₂ b₂ course_ends;
        first_read = book_read s₁ b₁ o₁;
        second_read = book_read s₂ b₂ o₂;
        pairs_right = r;
        first_count = first_total no_totals (course_pairs s₁ b₁ s₂ b₂) refl refl refl refl (let f = book_few s₁ b₁ o₁ in omega arith) ∙ p;
        second_count = second_total no_totals (course_pairs s₁ b₁ s₂ b₂) refl refl refl refl (let f = book_few s₂ b₂ o₂ in omega arith) ∙ q;
      }
