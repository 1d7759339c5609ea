-- What `lookup` promises, from its checks and from the descent.
use Rattle.fields.proofs.Base.{◌≡◌, refl, sym, ap, ap₂, ◌∙◌, true, false, List, ℕ, ◌≤◌, ◌<◌, arith, length, le-leb, lt-leb, Result, Ok, Err}
use Rattle.refusals.specs.Refusals.{refusal_of}
use Rattle.names.specs.Names.{askable}
use Rattle.header.specs.declared.Record.{Record}
use Rattle.tree.specs.Tree.{top}
use Rattle.tree.specs.Descent.{outcome, trail}
use Rattle.book.specs.Book.{shape_of, record_fits}
use Rattle.opening.specs.Opened.{opened}
use Rattle.lookup.specs.Lookup.{trail_in, outcome_in, effort_in, answer_of, looked_up, trail_after}
use Rattle.lookup.specs.Step.{effort_after, Descended}
use Rattle.lookup.specs.Complete.{Complete}
use Rattle.lookup.specs.Counted.{Counted}
use Rattle.lookup.specs.Blocks.{OnlyBlocks}
use Rattle.lookup.specs.declared.Effort.{Effort}
use Rattle.lookup.specs.declared.Answer.{Answer}
use Rattle.lookup.proofs.Complete.{complete}
use Rattle.lookup.proofs.Counting.{counted}
use Rattle.lookup.proofs.Blocks.{only_blocks}
use Rattle.refusals.specs.declared.Rule.{Rule}
use Rattle.refusals.specs.declared.Rule.TheVariants.{BadName, ShortTrail, BadRecord}
use Rattle.refusals.specs.declared.Refusal.{Refusal}

module _ (s : List ℕ) (book : Record) (name was : List ℕ) where
  -- the five clauses
  abbrev pub Promised : Result Answer Refusal → List ℕ → Type 0
  Promised r is =
      record {
        answer : r ≡ looked_up s book name (length was);
        places : is ≡ trail_after s book name was;
        complete : opened s ≡ Ok book → 1 ≤ length name → length name ≤ 1024 → 5 ≤ length was → Complete s book name was r is;
        counted : Counted s book name r;
        blocks : OnlyBlocks s book name was r is;
      }

  -- the last three follow from the first two
  promised : (r : Result Answer Refusal) (is : List ℕ) → r ≡ looked_up s book name (length was) → is ≡ trail_after s book name was → Promised r is
  promised r is p q = record {
    answer = p;
    places = q;
    complete = λ o a b c. rw (p, q) (complete s book name was o a b c);
    counted = rw p (counted s book name (length was));
    blocks = rw (p, q) (only_blocks s book name was);
  }

  -- ---- a refusal

  refuses : (n : Rule) (r : Result Answer Refusal) → r ≡ Err (refusal_of n) → looked_up s book name (length was) ≡ Err (refusal_of n) → Promised r was
  unfolding trail_after
  refuses n r p q = promised r was (p ∙ sym q) (rw q refl)

  pub name_bad : (r : Result Answer Refusal) → askable name ≡ false → r ≡ Err (refusal_of BadName) → Promised r was
  unfolding looked_up
  name_bad r h p = refuses BadName r p (rw h refl)

  module _ (good : askable name ≡ true) where
    pub trail_short : (r : Result Answer Refusal) → length was < 5 → r ≡ Err (refusal_of ShortTrail) → Promised r was
    unfolding looked_up
    trail_short r h p = refuses ShortTrail r p (rw (good, lt-leb 5 (length was) h) refl)

    module _ (room : 5 ≤ length was) where
      pub record_bad : (r : Result Answer Refusal) → record_fits s book ≡ false → r ≡ Err (refusal_of BadRecord) → Promised r was
      unfolding looked_up
      record_bad r h p = refuses BadRecord r p (rw (good, le-leb 5 (length was) room, h) refl)

      -- ---- the descent

      pub descended : (r : Result Answer Refusal) (is : List ℕ) → record_fits s book ≡ true → Descended s book name book.depth (top (shape_of book)) 0 0 was r is → Promised r is
      unfolding looked_up trail_after outcome trail
      descended r is h d =
          let z : effort_after s book name 0 0 (trail_in s book name) ≡ effort_in s book name =
          ap₂ (λ (x y : ℕ). record { chunks = x; comparisons = y }) (omega arith) (omega arith) in
          let p : r ≡ looked_up s book name (length was) =
          rw (good, le-leb 5 (length was) room, h)
          (d.answer ∙ ap (λ (n : Effort). answer_of book n (outcome_in s book name)) z) in
          promised r is p (rw (← p) d.places)
