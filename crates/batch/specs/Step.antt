-- How the code goes: names are counted, and a name is asked in the opened book without another check. Nobody has to believe these.
use Rattle.std.specs.Prelude.{cond, ℕ, ◌+◌, length, Option, Some, None, Result, Ok, Err, ⊤}
use mathlib.Core.List.{List, flat_map}
use Rattle.std.proofs.lemmas.List.Edits.{sets}
use Rattle.refusals.specs.Refusals.{refusal_of}
use Rattle.header.specs.declared.Record.{Record}
use Rattle.fetch.specs.Fetch.{fetched}
use Rattle.batch.specs.Batch.{Names, names_in, result_of, answerable}
use Rattle.refusals.specs.declared.Rule.TheVariants.{BadBatch}
use Rattle.refusals.specs.declared.Refusal.{Refusal}

-- n names, and some more
abbrev pub counted_as : ℕ → Names → Option ℕ
counted_as n ns = cond ns.whole (Some (n + length ns.list)) None

-- the answers by `fetch`
abbrev pub results_by : List ℕ → Record → List (List ℕ) → List ℕ
results_by s book ns = flat_map (λ name. result_of (fetched s book name)) ns

-- with the record of a book
unfoldable pub batch_in : List ℕ → ℕ → Result ⊤ Refusal
batch_in names room = cond (answerable names room) (Ok tt) (Err (refusal_of BadBatch))

unfoldable pub answers_by : List ℕ → Record → List ℕ → List ℕ → List ℕ
answers_by s book names was = cond (answerable names (length was)) (sets was 0 (results_by s book (names_in names).list)) was
