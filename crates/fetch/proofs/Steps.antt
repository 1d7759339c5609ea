-- What one turn of the descent makes of it.
use Rattle.fields.proofs.Base.{◌≡◌, refl, ap, ◌∙◌, List, ℕ, suc, ◌-◌, ◌<◌, arith, Option, Some, None, Result, Ok}
use Rattle.names.specs.Names.{compared}
use Rattle.entries.specs.declared.Place.{Place}
use Rattle.entries.specs.declared.Kind.TheVariants.{Listing}
use Rattle.quickref.specs.Quickref.{sought_of}
use Rattle.seek.specs.Seek.{find_in, choose_in}
use Rattle.seek.specs.Count.{cost_in}
use Rattle.header.specs.declared.Record.{Record}
use Rattle.tree.specs.Descent.{absent, answer}
use Rattle.tree.specs.Fetch.{fetch_from}
use Rattle.tree.proofs.Steps.{leads_down, leads_nowhere}
use Rattle.book.specs.Book.{limits_of, chunk_bytes}
use Rattle.search.specs.Search.{finding_of, finding_in, child_in}
use Rattle.report.specs.declared.Report.{Report}
use Rattle.search.proofs.Searching.{found_report}
use Rattle.lookup.specs.Reply.{reply_to}
use Rattle.fetch.specs.Fetch.{fetch_at}
use Rattle.refusals.specs.declared.Refusal.{Refusal}

module _ (s : List ℕ) (book : Record) (name : List ℕ) where
  -- ---- the listing chunk

  pub leaf_is : (c : ℕ) → ◌≡◌ {A = Result (Option Report) Refusal} (Ok (finding_in s book name c).answer) (reply_to book (fetch_at s book name 1 c))
  unfolding fetch_from finding_in
  leaf_is c = go (find_in (limits_of s book) (chunk_bytes s book c) (compared name)) refl
    where
      go : (x : Option Place) → find_in (limits_of s book) (chunk_bytes s book c) (compared name) ≡ x
          → ◌≡◌ {A = Result (Option Report) Refusal} (Ok (finding_of s book c (cost_in (limits_of s book) Listing (chunk_bytes s book c) (compared name)) x).answer)
          (reply_to book (answer c (sought_of (chunk_bytes s book c) x)))
      go None q = refl
      go (Some e) q = ap (λ (y : Report). Ok (Some y)) (found_report s book name c e q)

  -- ---- an index chunk

  levels : (left : ℕ) → 1 < left → (f : ℕ → Result (Option Report) Refusal) → f left ≡ f (suc (suc (left - 2)))
  levels left h f = ap f (omega arith)

  module _ (left c : ℕ) (h : 1 < left) where
    pub go_down : (k : ℕ) → (child_in s book name c).answer ≡ Some k
        → reply_to book (fetch_at s book name left c) ≡ reply_to book (fetch_at s book name (left - 1) k)
    unfolding fetch_from child_in
    go_down k q =
        let z : suc (left - 2) ≡ left - 1 = omega arith in
        levels left h (λ n. reply_to book (fetch_at s book name n c))
        ∙ ap (reply_to book) (leads_down (chunk_bytes s book c) (choose_in (limits_of s book) (chunk_bytes s book c) (compared name)) absent (λ n. fetch_at s book name (suc (left - 2)) n) k q)
        ∙ ap (λ (n : ℕ). reply_to book (fetch_at s book name n k)) z

    pub go_nowhere : (child_in s book name c).answer ≡ None → reply_to book (fetch_at s book name left c) ≡ (Ok None)
    unfolding fetch_from child_in
    go_nowhere q =
        levels left h (λ n. reply_to book (fetch_at s book name n c))
        ∙ ap (reply_to book) (leads_nowhere (chunk_bytes s book c) (choose_in (limits_of s book) (chunk_bytes s book c) (compared name)) absent (λ n. fetch_at s book name (suc (left - 2)) n) q)
