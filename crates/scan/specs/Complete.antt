-- What a search along the chain is worth wherever the rules of the chain hold, whatever the index chunks are: it finds exactly what is there (FORMAT K21).
use Rattle.std.specs.Prelude.{◌≡◌, ◌↔◌, ◌≢◌, true, List, ℕ, Option, Some, None, Result, Ok, Err}
use Rattle.refusals.specs.declared.Refusal.{Refusal}
use Rattle.names.specs.Names.{askable}
use Rattle.entries.specs.Entry.{Entry}
use Rattle.header.specs.declared.Record.{Record}
use Rattle.tree.specs.Chain.{chain_ok}
use Rattle.book.specs.Book.{directory_of, shape_of, record_fits}
use Rattle.report.specs.Report.{report_of}
use Rattle.report.specs.declared.Report.{Report}
use Rattle.lookup.specs.Complete.{HoldsIn}

-- `r` is the reply
pub record ChainComplete (s : List ℕ) (book : Record) (name : List ℕ) (r : Result (Option Report) Refusal) : Type 0 where
  -- what is found is an entry that a listing chunk holds, and is the one reported;
  pub found_held : (x : Report) → r ≡ Ok (Some x) → (c : ℕ) × (e : Entry) × HoldsIn s book name c e × (x ≡ report_of book c e)
  -- absent is the answer exactly where no listing chunk holds the name; a refusal never is
  pub absent_iff : (r ≡ (Ok None)) ↔ ((c : ℕ) (e : Entry) → ¬ HoldsIn s book name c e)
  pub never_refused : (x : Refusal) → r ≢ Err x

-- for a name and a record that can be asked
abbrev pub CompleteOnChain : List ℕ → Record → List ℕ → Result (Option Report) Refusal → Type 0
CompleteOnChain s book name r =
    askable name ≡ true → record_fits s book ≡ true → chain_ok (directory_of s book) (shape_of book) ≡ true → ChainComplete s book name r
