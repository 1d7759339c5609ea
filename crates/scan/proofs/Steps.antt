-- What the search in one chunk makes of the reply: a law for each way that a turn of the loop goes.
use Rattle.fields.proofs.Base.{◌≡◌, sym, ap, ◌∙◌, List, ℕ, ◌-◌, ◌≤◌, ◌<◌, Some, None, Ok, Err}
use Rattle.refusals.specs.Refusals.{no_chunk, refusal_of}
use Rattle.quickref.proofs.Steps.{some_left, none_left}
use Rattle.header.specs.declared.Record.{Record}
use Rattle.tree.specs.Descent.{Outcome}
use Rattle.tree.specs.Walk.{plain_from}
use Rattle.tree.proofs.Plain.{from_here, from_end, from_on, from_barred, from_none}
use Rattle.book.specs.Book.{directory_of, shape_of}
use Rattle.search.specs.Search.{search_in}
use Rattle.report.specs.declared.Report.{Report}
use Rattle.search.specs.declared.Search.{Search}
use Rattle.search.specs.declared.Search.TheVariants.{Next}
use Rattle.search.proofs.Searching.{search_told}
use Rattle.lookup.specs.Reply.{reply_to}
use Rattle.refusals.specs.declared.Rule.TheVariants.{BadRecord}

module _ (s : List ℕ) (book : Record) (name : List ℕ) where
  -- the search from chunk c on, n chunks at most
  abbrev pub plain_at : ℕ → ℕ → Outcome
  plain_at n c = plain_from (directory_of s book) (shape_of book) name n c

  module _ (left c : ℕ) (h : 0 < left) where
    pub turn_here : (x : Report) (n : ℕ) → search_in s book name c ≡ Some (Search.Found n x) → reply_to book (plain_at left c) ≡ Ok (Some x)
    turn_here x n q =
        let t = search_told s book name c (Some (Search.Found n x)) q in
        ap (reply_to book) (some_left (λ i. plain_at i c) left h ∙ from_here (directory_of s book) (shape_of book) name (left - 1) c t.0 t.1 t.2) ∙ ap (λ r. Ok (Some r)) t.3

    pub turn_end : (next n : ℕ) → search_in s book name c ≡ Some (Next n next) → next ≡ no_chunk → reply_to book (plain_at left c) ≡ (Ok None)
    turn_end next n q e =
        let t = search_told s book name c (Some (Next n next)) q in
        ap (reply_to book) (some_left (λ i. plain_at i c) left h ∙ from_end (directory_of s book) (shape_of book) name (left - 1) c t.0 t.1 (t.2 ∙ e))

    pub turn_on : (next n : ℕ) → search_in s book name c ≡ Some (Next n next) → (next ≡ no_chunk → ⊥) → plain_at left c ≡ plain_at (left - 1) next
    turn_on next n q e =
        let t = search_told s book name c (Some (Next n next)) q in
        some_left (λ i. plain_at i c) left h
        ∙ from_on (directory_of s book) (shape_of book) name (left - 1) c t.0 t.1 (λ z. e (sym t.2 ∙ z))
        ∙ ap (plain_at (left - 1)) t.2

    pub turn_barred : search_in s book name c ≡ None → reply_to book (plain_at left c) ≡ Err (refusal_of BadRecord)
    turn_barred q =
        ap (reply_to book) (some_left (λ i. plain_at i c) left h ∙ from_barred (directory_of s book) (shape_of book) name (left - 1) c (search_told s book name c None q))

  -- no chunk may follow
  pub turn_none : (left c : ℕ) → left ≤ 0 → reply_to book (plain_at left c) ≡ Err (refusal_of BadRecord)
  turn_none left c h = ap (reply_to book) (none_left (λ i. plain_at i c) left h ∙ from_none (directory_of s book) (shape_of book) name c)
