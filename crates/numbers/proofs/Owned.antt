-- Own bytes are told exactly where a step gives an entry.
use Rattle.fields.proofs.Base.{◌≡◌, refl, ap, ◌↔◌, List, ℕ, arith, Option, Some, None, Result, Ok, Err}
use Rattle.refusals.specs.Refusals.{number_of, refusal_of}
use Rattle.refusals.specs.declared.Refusal.{Refusal}
use Rattle.header.specs.declared.Record.{Record}
use Rattle.listing.specs.Listing.{stepped, OwnBeside}
use Rattle.listing.specs.declared.Cursor.{Cursor}
use Rattle.listing.specs.declared.Step.{Step}
use Rattle.listing.specs.declared.Step.TheVariants.{Entry, End}
use Rattle.listing.proofs.Refusals.{step_refusal}
use Rattle.numbers.specs.Numbers.{step_code, own_code}
use Rattle.refusals.specs.declared.Rule.TheVariants.{BadRecord}
use Rattle.report.specs.declared.Own.{Own}

-- a step that is refused by 17 alone
told : (s : List ℕ) (t : Result Step Refusal) (o : Option Own) → ((q : Refusal) → t ≡ Err q → q ≡ refusal_of BadRecord) → OwnBeside s t o → (own_code o ≡ 0) ↔ (step_code t ≡ 0)
told s (Ok (Entry r next)) (Some o) h b = ((λ e. refl), (λ e. refl))
told s (Ok (Entry r next)) None h b = absurd b
told s (Ok (End at)) (Some o) h b = absurd b
told s (Ok (End at)) None h b = ((λ e. absurd (omega arith)), (λ e. absurd (omega arith)))
told s (Err q) (Some o) h b = absurd b
told s (Err q) None h b =
    let n : number_of q.rule ≡ 17 = ap (λ (x : Refusal). number_of x.rule) (h q refl) in
    ((λ e. absurd (omega arith)), (λ e. absurd (omega arith)))

pub own_told : (s : List ℕ) (book : Record) (at : Cursor) (r : Option Own) (code : ℕ) → OwnBeside s (stepped s book at) r → code ≡ own_code r
    → (code ≡ 0) ↔ (step_code (stepped s book at) ≡ 0)
own_told s book at r code b e = rw e (told s (stepped s book at) r (step_refusal s book at) b)
