-- What the number of comparisons is worth: `counted`.
use Rattle.fields.proofs.Base.{◌≡◌, refl, sym, ap, inl, inr, Bool, true, false, cond, List, [], ◌∷◌, ℕ, ◌+◌, ◌*◌, ◌^◌, ◌≤◌, arith, leb, length, Result, Ok, Err}
use Rattle.fields.proofs.Tests.{never}
use Rattle.refusals.specs.Refusals.{refusal_of}
use Rattle.names.specs.Names.{askable, compared}
use Rattle.chunk_fields.specs.ChunkFields.{spacing_of}
use Rattle.chunk.specs.Chunk.{entries_in}
use Rattle.seek.proofs.Counts.{cost_few}
use Rattle.header.specs.declared.Record.{Record}
use Rattle.tree.specs.Lists.{In}
use Rattle.tree.specs.Descent.{Outcome, found, absent, refused}
use Rattle.book.specs.Book.{directory_of, record_fits}
use Rattle.search.specs.Search.{cost_at}
use Rattle.report.specs.declared.Report.{Report}
use Rattle.lookup.specs.Lookup.{outcome_in, trail_in, costs, effort_in, answer_of, looked_up}
use Rattle.lookup.specs.Counted.{groups_at, Counted}
use Rattle.lookup.specs.declared.Effort.{Effort}
use Rattle.lookup.specs.declared.Answer.{Answer}
use Rattle.lookup.specs.declared.Answer.TheVariants.{Found, Absent}
use Rattle.refusals.specs.declared.Rule.{Rule}
use Rattle.refusals.specs.declared.Rule.TheVariants.{BadName, ShortTrail, BadRecord}
use Rattle.refusals.specs.declared.Refusal.{Refusal}

-- ---- an answer that is no refusal has no other effort than x

abbrev Only : Effort → Result Answer Refusal → Type 0
Only x r = ((y : Report) (n : Effort) → r ≡ Ok (Found n y) → n ≡ x) × ((n : Effort) → r ≡ Ok (Absent n) → n ≡ x)

only_of : (book : Record) (x : Effort) (o : Outcome) → Only x (answer_of book x o)
only_of book x (found c e) = ((λ y n q. let z : x ≡ n = cc in sym z), (λ n q. never (cc)))
only_of book x absent = ((λ y n q. never (cc)), (λ n q. let z : x ≡ n = cc in sym z))
only_of book x refused = ((λ y n q. never (cc)), (λ n q. never (cc)))

only_refusal : (x : Effort) (i : Rule) → Only x (Err (refusal_of i))
only_refusal x i = ((λ y n q. never (cc)), (λ n q. never (cc)))

module _ (s : List ℕ) (book : Record) (name : List ℕ) where
  only : (places : ℕ) → Only (effort_in s book name) (looked_up s book name places)
  unfolding looked_up
  only places = go (askable name) (leb 5 places) (record_fits s book)
    where
      go : (a b c : Bool)
          → Only (effort_in s book name) (cond a (cond b (cond c (answer_of book (effort_in s book name) (outcome_in s book name)) (Err (refusal_of BadRecord))) (Err (refusal_of ShortTrail))) (Err (refusal_of BadName)))
      go true true true = only_of book (effort_in s book name) (outcome_in s book name)
      go true true false = only_refusal (effort_in s book name) BadRecord
      go true false c = only_refusal (effort_in s book name) ShortTrail
      go false b c = only_refusal (effort_in s book name) BadName

  -- ---- the bounds

  one_few : (c h : ℕ) → groups_at s book c ≤ 2 ^ h → cost_at s book name c ≤ h + spacing_of book.density
  one_few c h l = cost_few (spacing_of book.density) (compared name) (entries_in (directory_of s book c)) h l

  some_few : (h : ℕ) (cs : List ℕ) → ((c : ℕ) → In c cs → groups_at s book c ≤ 2 ^ h) → costs s book name cs ≤ length cs * (h + spacing_of book.density)
  unfolding costs
  some_few h [] f = omega arith
  some_few h (c ∷ cs) f =
      let a = one_few c h (f c (inl refl)) in
      let b = some_few h cs (λ d m. f d (inr m)) in
      omega (arith, a, b)

  pub counted : (places : ℕ) → Counted s book name (looked_up s book name places)
  counted places =
      let o = only places in
      record {
        found_sum = λ x n q. ap (λ (y : Effort). y.comparisons) (o.0 x n q);
        absent_sum = λ n q. ap (λ (y : Effort). y.comparisons) (o.1 n q);
        each_few = λ c m h l. one_few c h l.enough;
        all_few = λ h f. some_few h (trail_in s book name) f;
      }
