-- What opening has established of a book that it accepts: `opened_book`.
use Rattle.fields.proofs.Base.{◌≡◌, refl, subst, ap, Bool, true, false, cond, List, ℕ, zero, suc, ◌+◌, ◌≤◌, ◌<◌, arith, ℕ_discrete, Result, Ok, Err}
use Rattle.refusals.specs.Refusals.{refusal_of}
use Rattle.chunk.specs.Chunk.{Parsed, bad, listing, index, is_good}
use Rattle.header.specs.Header.{header_of}
use Rattle.header.specs.declared.Record.{Record}
use Rattle.header.proofs.Accepted.{header_accepted}
use Rattle.tree.specs.Chain.{chain_ok}
use Rattle.tree.specs.Tree.{tree_ok}
use Rattle.tree.specs.Exact.{GoodDirectory}
use Rattle.book.specs.Book.{directory_of, shape_of, record_fits}
use Rattle.book.proofs.Laws.{fits_made}
use Rattle.opening.specs.Opened.{chunks_then, linked_book, with_header, opened, chunk_then}
use Rattle.opening.proofs.Links.{chunks_good}
use Rattle.refusals.specs.declared.Rule.TheVariants.{BrokenChain, BrokenTree}
use Rattle.refusals.specs.declared.Rule.{Rule}
use Rattle.refusals.specs.declared.Refusal.{Refusal}

-- ---- what a book that comes out of the checks has passed

chunks_passed : (D : ℕ → Parsed) (r : Record) (x : Result Record Refusal) (n c : ℕ) → chunks_then D n c x ≡ Ok r
    → ((k : ℕ) → c ≤ k → k < c + n → is_good (D k) ≡ true) × (x ≡ Ok r)
unfolding chunks_then
chunks_passed D r x zero c e = ((λ k l h. absurd (omega arith)), e)
chunks_passed D r x (suc n) c e = go (D c) refl (λ q. chunks_passed D r x n (c + 1) q) e
  where
    Behind : Type 0
    Behind = ((k : ℕ) → c + 1 ≤ k → k < c + 1 + n → is_good (D k) ≡ true) × (x ≡ Ok r)

    more : is_good (D c) ≡ true → Behind → ((k : ℕ) → c ≤ k → k < c + suc n → is_good (D k) ≡ true) × (x ≡ Ok r)
    more g f = (
      (λ k l h. elim (ℕ_discrete c k) [
        | yes p ↦ subst (λ j. is_good (D j) ≡ true) p g
        | no p ↦ f.0 k (omega arith) (omega arith)
      ]),
      f.1,
    )

    go : (p : Parsed) → D c ≡ p → (chunks_then D n (c + 1) x ≡ Ok r → Behind) → chunk_then p c (chunks_then D n (c + 1) x) ≡ Ok r
        → ((k : ℕ) → c ≤ k → k < c + suc n → is_good (D k) ≡ true) × (x ≡ Ok r)
    go (bad m) q f e = let z : ◌≡◌ {A = ℕ} 0 1 = cc in absurd (omega arith)
    go (listing a b es) q f e = more (ap is_good q) (f e)
    go (index es) q f e = more (ap is_good q) (f e)

linked_passed : (s : List ℕ) (b r : Record) → linked_book s b ≡ Ok r
    → (chain_ok (directory_of s b) (shape_of b) ≡ true) × (tree_ok (directory_of s b) (shape_of b) ≡ true) × (b ≡ r)
unfolding linked_book
linked_passed s b r e = go (chain_ok (directory_of s b) (shape_of b)) (tree_ok (directory_of s b) (shape_of b)) e
  where
    go : (x y : Bool) → cond x (cond y (Ok b) (Err (refusal_of BrokenTree))) (Err (refusal_of BrokenChain)) ≡ Ok r → (x ≡ true) × (y ≡ true) × (b ≡ r)
    go true true e = (refl, refl, cc)
    go true false e = let z : ◌≡◌ {A = ℕ} 0 1 = cc in absurd (omega arith)
    go false y e = let z : ◌≡◌ {A = ℕ} 0 1 = cc in absurd (omega arith)

pub record OpenedBook (s : List ℕ) (r : Record) : Type 0 where
  pub head : header_of s ≡ Ok r
  pub directory : GoodDirectory (directory_of s r) (shape_of r)
  pub fits : record_fits s r ≡ true

pub head_fits : (s : List ℕ) (r : Record) → header_of s ≡ Ok r → record_fits s r ≡ true
head_fits s r e =
    let a = header_accepted s r e in
    fits_made s r
    (record {
      dense = a.density;
      some_levels = a.depth_low;
      few_levels = a.depth_high;
      some_chunks = a.count_low;
      few_chunks = a.count_high;
      content_inside = a.content;
    })

pub opened_book : (s : List ℕ) (r : Record) → opened s ≡ Ok r → OpenedBook s r
unfolding opened
opened_book s r e = go (header_of s) refl e
  where
    go : (h : Result Record Rule) → header_of s ≡ h → with_header h (λ b. chunks_then (directory_of s b) b.count 0 (linked_book s b)) ≡ Ok r → OpenedBook s r
    go (Ok b) q e =
        let c = chunks_passed (directory_of s b) r (linked_book s b) b.count 0 e in
        let l = linked_passed s b r c.1 in
        subst (OpenedBook s) l.2
        (record {
          head = q;
          directory = record {
            chunks = chunks_good s b (record { few = (header_accepted s b q).count_high; good = λ k h. c.0 k (omega arith) (omega arith) });
            chain_passes = l.0;
            tree_passes = l.1;
          };
          fits = head_fits s b q;
        })
    go (Err n) q e = let z : ◌≡◌ {A = ℕ} 0 1 = cc in absurd (omega arith)
