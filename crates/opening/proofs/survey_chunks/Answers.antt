use Rattle.fields.proofs.Base.{◌≡◌, rules, List, ℕ, refl, sym, ap, Ok, Err, ◌∙◌, arith, ◌-◌, ◌<◌, Result}
use native.Mathlib.Nat.{sub-zero, sub-add-eq}
use Rattle.chunk.specs.Answer.{chunk_of}
use Rattle.chunk.specs.declared.Chunk.{Chunk}
use Rattle.chunk.specs.declared.Chunk.TheVariants.{Listing, Index}
use Rattle.header.specs.declared.Record.{Record}
use Rattle.book.specs.Book.{directory_of, checked_chunk}
use Rattle.book.proofs.Checked.{checked_inside}
use Rattle.opening.proofs.Surveys.{survey_fault, survey_end, survey_listing, survey_index}
use Rattle.opening.proofs.survey_chunks.Goals as goal
use Rattle.opening.proofs.survey_chunks.Goals.{in-Ok-Listing, in-Ok-Index}
use Rattle.refusals.specs.declared.Rule.{Rule}

-- the answer x on a chunk below the count, which is y, is what the chunk means
met : (s : List ℕ) (r : Record) (c : ℕ) (x y : Result Chunk Rule) → c < r.count → x ≡ checked_chunk s r c → x ≡ y → chunk_of (directory_of s r c) ≡ y
met s r c x y l e q = sym (checked_inside s r c l) ∙ sym e ∙ q

pub loop-c-init : goal.loop-c-init
loop-c-init c = (omega arith, rw sub-zero refl)

pub returns-in-Err : goal.returns-in-Err
returns-in-Err c =
    let a = c.args in
    let l = c.loop-c in
    ap Err c.refuse_at.ensures
    ∙ sym (survey_fault (directory_of a.file.now a.book) (a.book.count - l.c) l.c l.listings c.in-Err.n (omega arith)
    (met a.file.now a.book l.c _ _ (omega arith) c.checked_chunk.ensures c.in-Err.is))
    ∙ l.invariant.1

pub loop-c-preserved : goal.loop-c-preserved
loop-c-preserved c =
    let a = c.args in
    let l = c.loop-c in
    elim c.match-this.branch [
      | in-Ok-Listing w ↦
          let q : (p : ℕ) × (n : ℕ) × (c.checked_chunk.result ≡ Ok (Listing p n)) = search rules in
          let m = met a.file.now a.book l.c _ _ (omega arith) c.checked_chunk.ensures q.2 in (
            omega arith,
            rw (sub-add-eq a.book.count l.c 1, w.listings-is)
                (sym (survey_listing (directory_of a.file.now a.book) (a.book.count - l.c) l.c l.listings _ _ (omega arith) m) ∙ l.invariant.1),
          )
      | in-Ok-Index w ↦
          let q : c.checked_chunk.result ≡ Ok Index = search rules in
          let m = met a.file.now a.book l.c _ _ (omega arith) c.checked_chunk.ensures q in (
            omega arith,
            rw (sub-add-eq a.book.count l.c 1, w.listings-is)
                (sym (survey_index (directory_of a.file.now a.book) (a.book.count - l.c) l.c l.listings (omega arith) m) ∙ l.invariant.1),
          )
    ]

pub returns : goal.returns
returns c =
    let a = c.args in
    let l = c.loop-c in
    sym (survey_end (directory_of a.file.now a.book) (a.book.count - l.c) l.c l.listings (omega arith)) ∙ l.invariant.1
