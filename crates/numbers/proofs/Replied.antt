-- What the C functions of the searches without a trail promise, from what was replied.
use Rattle.fields.proofs.Base.{◌≡◌, refl, ap, ◌∙◌, List, ℕ, ◌≤◌, Option, Result, Ok, Err}
use Rattle.header.specs.declared.Record.{Record}
use Rattle.opening.specs.Opened.{opened}
use Rattle.lookup.specs.Lookup.{looked_up}
use Rattle.lookup.specs.Reply.{reply_of, SameAsLookup}
use Rattle.lookup.specs.declared.Answer.{Answer}
use Rattle.numbers.specs.Numbers.{lookup_code, reply_code, reply_numbers}
use Rattle.refusals.specs.declared.Refusal.{Refusal}
use Rattle.report.specs.declared.Report.{Report}

reply_code_lem : (x : Result Answer Refusal) → reply_code (reply_of x) ≡ lookup_code x
reply_code_lem (Ok (Answer.Found n x)) = refl
reply_code_lem (Ok (Answer.Absent n)) = refl
reply_code_lem (Err x) = refl

-- the three clauses, x being the definition's reply
abbrev pub Promised : List ℕ → Record → List ℕ → Result (Option Report) Refusal → List ℕ → ℕ → List ℕ → Type 0
Promised s book name x was r is =
    (r ≡ reply_code x)
    × ((is ≡ reply_numbers x was) × (opened s ≡ Ok book → (places : ℕ) → 5 ≤ places → r ≡ lookup_code (looked_up s book name places)))

pub promised : (s : List ℕ) (book : Record) (name : List ℕ) (x y : Result (Option Report) Refusal) (was : List ℕ) (r : ℕ) (is : List ℕ)
    → y ≡ x → SameAsLookup s book name y → r ≡ reply_code y → is ≡ reply_numbers y was → Promised s book name x was r is
promised s book name x y was r is e agrees a b = (
  a ∙ ap reply_code e,
  (b ∙ ap (λ z. reply_numbers z was) e, λ o places h. a ∙ ap reply_code (agrees o places h) ∙ reply_code_lem (looked_up s book name places)),
)
