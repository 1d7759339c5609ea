-- What the call answers and writes, from its checks.
use Rattle.fields.proofs.Base.{◌≡◌, refl, ap, ◌∙◌, Bool, true, false, cond, List, [], ◌∷◌, ◌++◌, flat_map, ℕ, ◌+◌, ◌*◌, ◌/◌, ◌≤◌, ◌<◌, arith, length, sets, le-leb, lt-leb, Some, None, Ok, Err}
use Rattle.refusals.specs.Refusals.{refusal_of}
use Rattle.refusals.specs.declared.Refusal.{Refusal}
use Rattle.header.specs.declared.Record.{Record}
use Rattle.opening.specs.Opened.{opened}
use Rattle.fetch.specs.Fetch.{fetched}
use Rattle.fetch.proofs.Agreed.{fetched_same}
use Rattle.batch.specs.Batch.{Names, names_in, result_of, result_for, answerable, batch_of, answers_in}
use Rattle.batch.specs.Step.{counted_as, results_by, batch_in, answers_by}
use Rattle.refusals.specs.declared.Rule.TheVariants.{BadBatch}

-- ---- the count of the names tells whether they can be answered

counted_all : (ns : Names) (n : ℕ) → Some n ≡ counted_as 0 ns → (ns.whole ≡ true) × (length ns.list ≡ n)
counted_all ns n e = go ns.whole refl e
  where
    go : (t : Bool) → ns.whole ≡ t → Some n ≡ cond t (Some (0 + length ns.list)) None → (ns.whole ≡ true) × (length ns.list ≡ n)
    go true q d = let z : n ≡ 0 + length ns.list = cc in (q, omega arith)
    go false q d = absurd (let z : ◌≡◌ {A = ℕ} 0 1 = cc in omega arith)

counted_cut : (ns : Names) → None ≡ counted_as 0 ns → ns.whole ≡ false
counted_cut ns e = go ns.whole refl e
  where
    go : (t : Bool) → ns.whole ≡ t → None ≡ cond t (Some (0 + length ns.list)) None → ns.whole ≡ false
    go true q d = absurd (let z : ◌≡◌ {A = ℕ} 0 1 = cc in omega arith)
    go false q d = q

module _ (names : List ℕ) (room : ℕ) where
  cut_not : None ≡ counted_as 0 (names_in names) → answerable names room ≡ false
  unfolding answerable
  cut_not e = rw (counted_cut (names_in names) e) refl

  short_not : (n : ℕ) → Some n ≡ counted_as 0 (names_in names) → room / 32 < n → answerable names room ≡ false
  unfolding answerable
  short_not n e h =
      let a = counted_all (names_in names) n e in
      rw (a.0, lt-leb (32 * length (names_in names).list) room (omega (arith, a.1))) refl

  fits_room : (n : ℕ) → Some n ≡ counted_as 0 (names_in names) → n ≤ room / 32 → 32 * length (names_in names).list ≤ room
  fits_room n e h = let a = (counted_all (names_in names) n e).1 in omega arith

  fit_yes : (n : ℕ) → Some n ≡ counted_as 0 (names_in names) → n ≤ room / 32 → answerable names room ≡ true
  unfolding answerable
  fit_yes n e h = rw ((counted_all (names_in names) n e).0, le-leb (32 * length (names_in names).list) room (fits_room n e h)) refl

-- ---- with the record of a book

module _ (s : List ℕ) (book : Record) (names was : List ℕ) where
  not_answered : answerable names (length was) ≡ false
      → (Err (refusal_of BadBatch) ≡ batch_in names (length was)) × (was ≡ answers_by s book names was)
  unfolding batch_in answers_by
  not_answered h = (rw h refl, rw h refl)

  pub in_cut : None ≡ counted_as 0 (names_in names) → (Err (refusal_of BadBatch) ≡ batch_in names (length was)) × (was ≡ answers_by s book names was)
  in_cut e = not_answered (cut_not names (length was) e)

  module _ (n : ℕ) (e : Some n ≡ counted_as 0 (names_in names)) where
    pub in_short : length was / 32 < n → (Err (refusal_of BadBatch) ≡ batch_in names (length was)) × (was ≡ answers_by s book names was)
    in_short h = not_answered (short_not names (length was) n e h)

    pub in_done : (is : List ℕ) → n ≤ length was / 32 → is ≡ sets was 0 (results_by s book (names_in names).list)
        → ((Ok tt) ≡ batch_in names (length was)) × (is ≡ answers_by s book names was)
    unfolding batch_in answers_by
    in_done is h q = let y = fit_yes names (length was) n e h in (rw y refl, rw y q)

  -- ---- a book that opens, and one that is refused

  results_same : opened s ≡ Ok book → (ns : List (List ℕ)) → results_by s book ns ≡ flat_map (result_for s book) ns
  unfolding result_for flat_map
  results_same o [] = refl
  results_same o (x ∷ ns) =
      let e : result_of (fetched s book x) ≡ result_for s book x = ap result_of (fetched_same s book x o 5 (omega arith)) in
      ap (λ (l : List ℕ). l ++ results_by s book ns) e ∙ ap (λ (l : List ℕ). result_for s book x ++ l) (results_same o ns)

  pub opened_batch : opened s ≡ Ok book → (batch_in names (length was) ≡ batch_of s names (length was)) × (answers_by s book names was ≡ answers_in s names was)
  unfolding batch_in answers_by batch_of answers_in
  opened_batch o = (
    rw o refl,
    rw o (ap (λ (l : List ℕ). cond (answerable names (length was)) (sets was 0 l) was) (results_same o (names_in names).list)),
  )

pub refused_batch : (s names was : List ℕ) (x : Refusal) → opened s ≡ Err x
    → (Err x ≡ batch_of s names (length was)) × (was ≡ answers_in s names was)
unfolding batch_of answers_in
refused_batch s names was x o = (rw o refl, rw o refl)
