-- What a call is worth on an opened book.
--     batch_each      the 32 bytes of name i are what one lookup of that name gives
--     batch_rest      the bytes behind the answers are as they were
--     batch_status    a status is 0, 255 or 15
--     batch_refusal   a refusal is opening's, or 22 with no chunk
use Rattle.fields.proofs.Base.{◌≡◌, refl, sym, ap, ◌∙◌, ◌⊎◌, inl, inr, Bool, true, false, cond, List, [], ◌∷◌, ◌++◌, flat_map, append_assoc, ℕ, zero, suc, ◌+◌, ◌*◌, ◌≤◌, ◌<◌, arith, length, get_or, take, drop, length-append, sets, sets-eq, take_at, drop_at, drop-append-add, leb, leb-true, Option, Result, Ok, Err}
use Rattle.std.specs.Prelude.{⊤}
use Rattle.fields.specs.Part.{part}
use Rattle.fields.proofs.Tests.{and_both}
use Rattle.refusals.specs.Refusals.{refusal_of}
use Rattle.refusals.specs.declared.Refusal.{Refusal}
use Rattle.names.specs.Names.{askable}
use Rattle.header.specs.declared.Record.{Record}
use Rattle.tree.specs.Descent.{Outcome, found, absent, refused}
use Rattle.tree.proofs.LookupExact.{lookup_exact}
use Rattle.book.specs.Book.{directory_of, shape_of}
use Rattle.opening.specs.Opened.{opened}
use Rattle.opening.specs.Refusals.{Told}
use Rattle.opening.proofs.Accepted.{opened_book}
use Rattle.opening.proofs.Refusals.{refusal_told}
use Rattle.lookup.specs.Lookup.{outcome_in, looked_up}
use Rattle.lookup.specs.Reply.{reply_to, replied_to, reply_of}
use Rattle.lookup.proofs.Replies.{looked_reply}
use Rattle.batch.specs.Batch.{names_in, four_of, result_for, answerable, on_opened, batch_of, answers_in}
use Rattle.batch.proofs.Results.{length_result}
use Rattle.refusals.specs.declared.Rule.TheVariants.{BadName, BadBatch}
use Rattle.report.specs.declared.Report.{Report}

-- ---- runs of 32, one behind another

module _ (f : List ℕ → List ℕ) (size : (x : List ℕ) → length (f x) ≡ 32) where
  runs_length : (ns : List (List ℕ)) → length (flat_map f ns) ≡ 32 * length ns
  unfolding flat_map
  runs_length [] = omega arith
  runs_length (x ∷ ns) = length-append (f x) (flat_map f ns) ∙ omega (arith, size x, runs_length ns)

  runs_part : (ns : List (List ℕ)) (rest : List ℕ) (i : ℕ) → i < length ns → part (flat_map f ns ++ rest) (32 * i) 32 ≡ f (get_or ns i [])
  unfolding flat_map
  runs_part [] rest i h = absurd (omega arith)
  runs_part (x ∷ ns) rest zero h =
      let z : 32 * 0 ≡ 0 = omega arith in
      ap (λ (k : ℕ). take 32 (drop k ((f x ++ flat_map f ns) ++ rest))) z
      ∙ ap (take 32) (append_assoc (f x) (flat_map f ns) rest)
      ∙ take_at (f x) (flat_map f ns ++ rest) 32 (size x)
  runs_part (x ∷ ns) rest (suc i) h =
      let z : 32 * suc i ≡ length (f x) + 32 * i = omega (arith, size x) in
      ap (λ (k : ℕ). take 32 (drop k ((f x ++ flat_map f ns) ++ rest))) z
      ∙ ap (λ (l : List ℕ). take 32 (drop (length (f x) + 32 * i) l)) (append_assoc (f x) (flat_map f ns) rest)
      ∙ ap (take 32) (drop-append-add (f x) (flat_map f ns ++ rest) (32 * i))
      ∙ runs_part ns rest i (omega arith)

-- ---- the answers

result_size : (s : List ℕ) (book : Record) (name : List ℕ) → length (result_for s book name) ≡ 32
unfolding result_for
result_size s book name = length_result (reply_of (looked_up s book name 5))

module _ (s : List ℕ) (book : Record) (names was : List ℕ) (o : opened s ≡ Ok book) (done : batch_of s names (length was) ≡ Ok tt) where
  abbrev ns : List (List ℕ)
  ns = (names_in names).list

  abbrev results : List ℕ
  results = flat_map (result_for s book) ns

  can : answerable names (length was) ≡ true
  unfolding batch_of
  can = go (answerable names (length was)) refl (rw o at done)
    where
      go : (t : Bool) → answerable names (length was) ≡ t → cond {A = Result ⊤ Refusal} t (Ok (tt {0})) (Err (refusal_of BadBatch)) ≡ Ok (tt {0}) → answerable names (length was) ≡ true
      go true q d = q
      go false q d = absurd (let z : ◌≡◌ {A = ℕ} 0 1 = cc in omega arith)

  room : length results ≤ length was
  unfolding answerable
  room =
      let b = and_both (names_in names).whole (leb (32 * length ns) (length was)) can in
      let l = leb-true (32 * length ns) (length was) b.1 in
      omega (arith, l, runs_length (result_for s book) (result_size s book) ns)

  answers_are : answers_in s names was ≡ results ++ drop (length results) was
  unfolding answers_in
  answers_are =
      let z : 0 + length results ≡ length results = omega arith in
      let e : answers_in s names was ≡ sets was 0 results = rw (o, can) refl in
      e ∙ sets-eq results was 0 (omega (arith, room)) ∙ ap (λ (k : ℕ). results ++ drop k was) z

  pub batch_each : (i : ℕ) → i < length ns → part (answers_in s names was) (32 * i) 32 ≡ result_for s book (get_or ns i [])
  batch_each i h =
      ap (λ (l : List ℕ). part l (32 * i) 32) answers_are ∙ runs_part (result_for s book) (result_size s book) ns (drop (length results) was) i h

  pub batch_rest : drop (32 * length ns) (answers_in s names was) ≡ drop (32 * length ns) was
  batch_rest =
      let e = runs_length (result_for s book) (result_size s book) ns in
      ap (drop (32 * length ns)) answers_are
      ∙ drop_at results (drop (length results) was) (32 * length ns) e
      ∙ ap (λ (k : ℕ). drop k was) e

-- ---- a status

abbrev status_of : Result (Option Report) Refusal → ℕ
status_of r = get_or (four_of r) 0 0

abbrev OneOfThree : ℕ → Type 0
OneOfThree n = (n ≡ 0) ⊎ ((n ≡ 255) ⊎ (n ≡ 15))

pub batch_status : (s : List ℕ) (book : Record) (name : List ℕ) → opened s ≡ Ok book → OneOfThree (status_of (reply_of (looked_up s book name 5)))
unfolding replied_to
batch_status s book name o =
    let b = opened_book s book o in
    let d = lookup_exact (directory_of s book) (shape_of book) b.directory name in
    rw (looked_reply s book name 5 (omega arith), b.fits) (go (askable name) (outcome_in s book name) refl d.never_refused)
  where
    go : (t : Bool) (x : Outcome) → outcome_in s book name ≡ x → (outcome_in s book name ≡ refused → ⊥)
        → OneOfThree (status_of (cond t (reply_to book (outcome_in s book name)) (Err (refusal_of BadName))))
    go false x q n = inr (inr refl)
    go true (found c e) q n = rw q (inl refl)
    go true absent q n = rw q (inr (inl refl))
    go true refused q n = absurd (n q)

-- ---- a refusal

pub batch_refusal : (s names : List ℕ) (room : ℕ) (x : Refusal) → batch_of s names room ≡ Err x → Told s x ⊎ (x ≡ refusal_of BadBatch)
unfolding batch_of
batch_refusal s names room x e = go (opened s) refl e
  where
    in_book : (t : Bool) → cond {A = Result ⊤ Refusal} t (Ok (tt {0})) (Err (refusal_of BadBatch)) ≡ Err x → x ≡ refusal_of BadBatch
    in_book true d = absurd (let z : ◌≡◌ {A = ℕ} 0 1 = cc in omega arith)
    in_book false d = let z : refusal_of BadBatch ≡ x = cc in sym z

    go : (y : Result Record Refusal) → opened s ≡ y → on_opened y (λ book. cond {A = Result ⊤ Refusal} (answerable names room) (Ok (tt {0})) (Err (refusal_of BadBatch))) (λ r. Err r) ≡ Err x
        → Told s x ⊎ (x ≡ refusal_of BadBatch)
    go (Ok b) q d = inr (in_book (answerable names room) d)
    go (Err y) q d = let z : y ≡ x = cc in inl (refusal_told s x (q ∙ ap Err z))
