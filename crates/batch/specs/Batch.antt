-- Many names in one call (FORMAT, Batch): the names, the result of each, and what the call answers and writes.
use Rattle.std.specs.Prelude.{Bool, true, false, cond, ◌&&◌, ℕ, zero, suc, ◌+◌, ◌*◌, length, ltb, leb, Option, Some, None, Result, Ok, Err, ⊤}
use mathlib.Core.List.{List, [], ◌∷◌, flat_map}
use Rattle.std.proofs.lemmas.List.Edits.{sets}
use Rattle.fields.specs.Le.{bytes}
use Rattle.fields.specs.Part.{inside, part}
use Rattle.refusals.specs.Refusals.{refusal_of, number_of}
use Rattle.refusals.specs.declared.Refusal.{Refusal}
use Rattle.encint.specs.Encint.{encint_at}
use Rattle.entries.specs.Entry.{with_number}
use Rattle.header.specs.declared.Record.{Record}
use Rattle.opening.specs.Opened.{opened}
use Rattle.lookup.specs.Lookup.{looked_up}
use Rattle.lookup.specs.Reply.{reply_of}
use Rattle.refusals.specs.declared.Rule.TheVariants.{BadBatch}
use Rattle.report.specs.declared.Report.{Report}

-- ---- the names, one behind another (B2)

-- those up to the first that is cut off or has no good length; `whole` where there is none such
pub record Names : Type 0 where
  pub list : List (List ℕ)
  pub whole : Bool

abbrev pub no_more : Names
no_more = record { list = []; whole = true }

abbrev pub cut_off : Names
cut_off = record { list = []; whole = false }

abbrev pub name_then : List ℕ → Names → Names
name_then x ns = record { list = x ∷ ns.list; whole = ns.whole }

-- an ENCINT of a length, any value (B3), with as many bytes behind it: that length, and the place behind the ENCINT
unfoldable pub asked_at : List ℕ → ℕ → Option (ℕ × ℕ)
asked_at s at = with_number (encint_at s at) None (λ n start. cond (inside s start n) (Some (n, start)) None)

-- n names at most from a place on
unfoldable pub names_from : List ℕ → ℕ → ℕ → Names
names_from s zero at = cond (ltb at (length s)) cut_off no_more
names_from s (suc n) at =
    cond (ltb at (length s)) (with_number (asked_at s at) cut_off (λ len start. name_then (part s start len) (names_from s n (start + len)))) no_more

-- all of them, from the first byte to the last: each takes a byte at least
abbrev pub names_in : List ℕ → Names
names_in s = names_from s (length s) 0

-- ---- a result: four numbers of eight bytes (B4)

-- status, section, offset, length: the status is 0 for found, 255 for absent, else the refusal's number, which is 15 (`batch_status`)
abbrev pub four_of : Result (Option Report) Refusal → List ℕ
four_of (Ok (Some x)) = 0 ∷ x.section ∷ x.offset ∷ x.size ∷ []
four_of (Ok None) = 255 ∷ 0 ∷ 0 ∷ 0 ∷ []
four_of (Err x) = number_of x.rule ∷ 0 ∷ 0 ∷ 0 ∷ []

unfoldable pub result_of : Result (Option Report) Refusal → List ℕ
result_of r = flat_map (bytes 8) (four_of r)

-- that of one lookup of the name with a trail of 5 places (B6)
unfoldable pub result_for : List ℕ → Record → List ℕ → List ℕ
result_for s book name = result_of (reply_of (looked_up s book name 5))

-- ---- the call

-- all names are there, and so is room for their results, 32 bytes each (B5)
unfoldable pub answerable : List ℕ → ℕ → Bool
answerable names room = (names_in names).whole && leb (32 * length (names_in names).list) room

-- f of the record of a book that opens, or g of the refusal
abbrev pub on_opened : {A : Type 0} → Result Record Refusal → (Record → A) → (Refusal → A) → A
on_opened (Ok book) f g = f book
on_opened (Err x) f g = g x

-- opening's refusal first, then R22 (RO10)
unfoldable pub batch_of : List ℕ → List ℕ → ℕ → Result ⊤ Refusal
batch_of s names room = on_opened (opened s) (λ book. cond (answerable names room) (Ok tt) (Err (refusal_of BadBatch))) (λ x. Err x)

-- the results in the order of the names from place 0 on, the later bytes as they were (B5); after a refusal all are (RO8, B7)
unfoldable pub answers_in : List ℕ → List ℕ → List ℕ → List ℕ
answers_in s names was =
    on_opened (opened s) (λ book. cond (answerable names (length was)) (sets was 0 (flat_map (result_for s book) (names_in names).list)) was) (λ x. was)
