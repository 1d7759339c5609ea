-- Each refusal of a lookup is 15, 16 or 17, and belongs to no chunk.
use Rattle.fields.proofs.Base.{◌≡◌, refl, subst, Bool, true, false, cond, List, ℕ, ◌≤◌, arith, leb, Result, Err, None}
use Rattle.refusals.specs.Refusals.{refusal_of, number_of, in_table}
use Rattle.refusals.specs.declared.Refusal.{Refusal}
use Rattle.names.specs.Names.{askable}
use Rattle.header.specs.declared.Record.{Record}
use Rattle.tree.specs.Descent.{Outcome, found, absent, refused}
use Rattle.book.specs.Book.{record_fits}
use Rattle.lookup.specs.Lookup.{outcome_in, effort_in, answer_of, looked_up}
use Rattle.lookup.specs.declared.Effort.{Effort}
use Rattle.lookup.specs.declared.Answer.{Answer}
use Rattle.refusals.specs.declared.Rule.{Rule}
use Rattle.refusals.specs.declared.Rule.TheVariants.{BadName, ShortTrail, BadRecord}

-- one of the rules of refusals 15 to 17, of no chunk
abbrev OfLookup : Refusal → Type 0
OfLookup x = (15 ≤ number_of x.rule) × (number_of x.rule ≤ 17) × (x.chunk ≡ None) × (in_table x.rule ≡ true)

told : (n : Rule) (x : Refusal) → OfLookup (refusal_of n) → ◌≡◌ {A = Result Answer Refusal} (Err (refusal_of n)) (Err x) → OfLookup x
told n x t q =
    let y : refusal_of n ≡ x = cc in
    subst OfLookup y t

answer_told : (book : Record) (n : Effort) (o : Outcome) (x : Refusal) → answer_of book n o ≡ Err x → OfLookup x
answer_told book n (found c e) x q = absurd (let z : ◌≡◌ {A = ℕ} 0 1 = cc in omega arith)
answer_told book n absent x q = absurd (let z : ◌≡◌ {A = ℕ} 0 1 = cc in omega arith)
answer_told book n refused x q = told BadRecord x (omega arith, omega arith, refl, refl) q

pub lookup_refusal : (s : List ℕ) (book : Record) (name : List ℕ) (places : ℕ) (x : Refusal) → looked_up s book name places ≡ Err x
    → (15 ≤ number_of x.rule) × (number_of x.rule ≤ 17) × (x.chunk ≡ None) × (in_table x.rule ≡ true)
unfolding looked_up
lookup_refusal s book name places x = go (askable name) (leb 5 places) (record_fits s book)
  where
    go : (a b c : Bool) → cond a (cond b (cond c (answer_of book (effort_in s book name) (outcome_in s book name)) (Err (refusal_of BadRecord))) (Err (refusal_of ShortTrail))) (Err (refusal_of BadName)) ≡ Err x → OfLookup x
    go true true true q = answer_told book (effort_in s book name) (outcome_in s book name) x q
    go true true false q = told BadRecord x (omega arith, omega arith, refl, refl) q
    go true false c q = told ShortTrail x (omega arith, omega arith, refl, refl) q
    go false b c q = told BadName x (omega arith, omega arith, refl, refl) q
