-- On a book that opening accepts, the descent that checks no chunk replies what lookup answers: `fetched_same`.
use Rattle.fields.proofs.Base.{◌≡◌, sym, ap, ◌∙◌, List, ℕ, ◌≤◌, Option, Result, Ok}
use Rattle.header.specs.declared.Record.{Record}
use Rattle.tree.specs.Tree.{top}
use Rattle.tree.specs.Descent.{outcome_from, outcome}
use Rattle.tree.proofs.LookupExact.{grown}
use Rattle.tree.proofs.Fetch.{fetch_shaped}
use Rattle.book.specs.Book.{limits_of, chunk_bytes, directory_of, shape_of}
use Rattle.opening.specs.Opened.{opened}
use Rattle.opening.proofs.Accepted.{opened_book}
use Rattle.lookup.specs.Lookup.{outcome_in, looked_up}
use Rattle.lookup.specs.Reply.{replied_to, reply_of, SameAsLookup}
use Rattle.lookup.proofs.Replies.{looked_reply}
use Rattle.fetch.specs.Fetch.{fetch_at, fetched, FoundStands}
use Rattle.fetch.proofs.Standing.{fetched_stands}
use Rattle.refusals.specs.declared.Refusal.{Refusal}
use Rattle.report.specs.declared.Report.{Report}

module _ (s : List ℕ) (book : Record) (name : List ℕ) (accepts : opened s ≡ Ok book) where
  -- it comes to the descent's outcome
  outcome_same : fetch_at s book name book.depth (top (shape_of book)) ≡ outcome_in s book name
  unfolding outcome directory_of
  outcome_same =
      let b = opened_book s book accepts in
      let g = grown (directory_of s book) (shape_of book) b.directory.tree_passes in
      let c = top (shape_of book) in
      ap (λ (n : ℕ). fetch_at s book name n c) g.1.depth_is
      ∙ fetch_shaped (limits_of s book) (chunk_bytes s book) (shape_of book) name g.0 c g.1.shape
      ∙ ap (λ (n : ℕ). outcome_from (directory_of s book) (shape_of book) name n c) (sym g.1.depth_is)

  pub fetched_same : (places : ℕ) → 5 ≤ places → fetched s book name ≡ reply_of (looked_up s book name places)
  unfolding fetched
  fetched_same places h = ap (replied_to s book name) outcome_same ∙ sym (looked_reply s book name places h)

-- the clauses of `fetch`
abbrev pub Promised : List ℕ → Record → List ℕ → Result (Option Report) Refusal → Type 0
Promised s book name r = record { answer : r ≡ fetched s book name; agrees : SameAsLookup s book name r; stands : FoundStands s name r }

pub promised : (s : List ℕ) (book : Record) (name : List ℕ) (r : Result (Option Report) Refusal) → r ≡ fetched s book name → Promised s book name r
promised s book name r p = record { answer = p; agrees = λ o places h. p ∙ fetched_same s book name o places h; stands = λ x q. fetched_stands s book name x (sym p ∙ q) }
