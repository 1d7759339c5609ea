-- A run of steps: each reports an entry. The steps from entry 0 of a listing chunk run through its entries, and come to its next chunk.
use Rattle.fields.proofs.Base.{◌≡◌, refl, sym, ap, ◌∙◌, true, List, [], ◌∷◌, ◌++◌, map, ℕ, zero, suc, ◌+◌, ◌-◌, ◌<◌, arith, length, take, drop, length-drop, drop-drop, Ok}
use Rattle.entries.specs.Entry.{Entry}
use Rattle.chunk.specs.Chunk.{entries_in}
use Rattle.quickref.specs.Quickref.{found, nth}
use Rattle.header.specs.declared.Record.{Record}
use Rattle.tree.specs.Shape.{next_of, listing_chunk}
use Rattle.book.specs.Book.{directory_of, shape_of, record_fits}
use Rattle.report.specs.Report.{report_of}
use Rattle.report.specs.declared.Report.{Report}
use Rattle.listing.specs.Listing.{cursor_at, stepped, reports_in}
use Rattle.listing.specs.Whole.{cursor_in, steps_from, cursor_after}
use Rattle.listing.specs.declared.Cursor.{Cursor}
use Rattle.listing.specs.declared.Step.TheVariants.{Entry as Reported, End}
use Rattle.book.proofs.Read.{entries_some}
use Rattle.tree.proofs.Chunks.{listing_chunk_lem}
use Rattle.listing.proofs.Stepping.{entry_inside, entry_last, step_entry, some_chunk}

-- ---- a run

module _ (s : List ℕ) (book : Record) where
  -- the steps from `at` report rs, one a step, and come to `to`
  abbrev pub Run : Cursor → List Report → Cursor → Type 0
  Run at [] to = at ≡ to
  Run at (r ∷ rs) to = (next : Cursor) × (stepped s book at ≡ Ok (Reported r next)) × Run next rs to

  after_step : (at next : Cursor) (r : Report) (n : ℕ) → stepped s book at ≡ Ok (Reported r next) → cursor_after s book (suc n) at ≡ cursor_after s book n next
  unfolding cursor_after
  after_step at next r n e = ap (λ x. cursor_after s book n (cursor_in at x)) e

  pub run_append : (at mid to : Cursor) (xs ys : List Report) → Run at xs mid → Run mid ys to → Run at (xs ++ ys) to
  run_append at mid to [] ys g h = rw g h
  run_append at mid to (x ∷ xs) ys g h = (g.0, g.1, run_append g.0 mid to xs ys g.2 h)

  pub run_steps : (at to : Cursor) (rs : List Report) → Run at rs to → (steps_from s book (length rs) at ≡ rs) × (cursor_after s book (length rs) at ≡ to)
  unfolding steps_from cursor_after
  run_steps at to [] g = (refl, g)
  run_steps at to (r ∷ rs) g =
      let m = run_steps g.0 to rs g.2 in
      (rw g.1 (ap (λ l. r ∷ l) m.0), after_step at g.0 r (length rs) g.1 ∙ m.1)

  -- ---- the end

  module _ (to : Cursor) (at_end : stepped s book to ≡ Ok (End to)) where
    pub end_steps : (n : ℕ) → (steps_from s book n to ≡ []) × (cursor_after s book n to ≡ to)
    unfolding steps_from cursor_after
    end_steps zero = (refl, refl)
    end_steps (suc n) = (rw at_end (end_steps n).0, rw at_end (end_steps n).1)

    -- a run that comes to the end: any number of steps
    pub run_take : (at : Cursor) (rs : List Report) → Run at rs to → (n : ℕ) → steps_from s book n at ≡ take n rs
    unfolding steps_from
    run_take at rs g zero = refl
    run_take at [] g (suc n) = rw g (end_steps (suc n)).0
    run_take at (r ∷ rs) g (suc n) = rw g.1 (ap (λ l. r ∷ l) (run_take g.0 rs g.2 n))

-- ---- the entries of one chunk

nth_first : (i : ℕ) (es : List Entry) (x : Entry) (xs : List Entry) → drop i es ≡ x ∷ xs → nth i es ≡ found x
unfolding nth
nth_first zero [] x xs e = absurd (let z : ◌≡◌ {A = ℕ} 0 1 = cc in omega arith)
nth_first zero (y ∷ ys) x xs e = ap found (let z : y ≡ x = cc in z)
nth_first (suc i) [] x xs e = absurd (let z : ◌≡◌ {A = ℕ} 0 1 = cc in omega arith)
nth_first (suc i) (y ∷ ys) x xs e = nth_first i ys x xs e

module _ (s : List ℕ) (book : Record) (c : ℕ) (fits : record_fits s book ≡ true) (here : listing_chunk (directory_of s book) (shape_of book) c ≡ true) where
  abbrev es : List Entry
  es = entries_in (directory_of s book c)

  abbrev next : Cursor
  next = cursor_at (next_of (directory_of s book c)) 0

  -- the step at an entry: the one behind it, or the next chunk
  step_inside : (i : ℕ) (x y : Entry) (ys : List Entry) → drop i es ≡ x ∷ y ∷ ys → stepped s book (cursor_at c i) ≡ Ok (Reported (report_of book c x) (cursor_at c (i + 1)))
  step_inside i x y ys e =
      let l : length es - i ≡ suc (suc (length ys)) = sym (length-drop i es) ∙ ap length e in
      step_entry s book (cursor_at c i) fits (some_chunk s book c fits here) here
      ∙ entry_inside book (directory_of s book c) (cursor_at c i) x (nth_first i es x (y ∷ ys) e) (omega arith)

  step_last : (i : ℕ) (x : Entry) → drop i es ≡ x ∷ [] → stepped s book (cursor_at c i) ≡ Ok (Reported (report_of book c x) next)
  step_last i x e =
      let l : length es - i ≡ 1 = sym (length-drop i es) ∙ ap length e in
      step_entry s book (cursor_at c i) fits (some_chunk s book c fits here) here
      ∙ entry_last book (directory_of s book c) (cursor_at c i) x (nth_first i es x [] e) (omega arith)

  -- the entries from entry i on
  run_from : (i : ℕ) (x : Entry) (xs : List Entry) → drop i es ≡ x ∷ xs → Run s book (cursor_at c i) (map (report_of book c) (x ∷ xs)) next
  run_from i x [] e = (next, step_last i x e, refl)
  run_from i x (y ∷ ys) e =
      (cursor_at c (i + 1), step_inside i x y ys e, run_from (i + 1) y ys (sym (drop-drop 1 i es) ∙ ap (drop 1) e))

  pub run_chunk : Run s book (cursor_at c 0) (reports_in s book c) next
  run_chunk = go es refl
    where
      go : (l : List Entry) → es ≡ l → Run s book (cursor_at c 0) (map (report_of book c) l) next
      go [] e = absurd (let z = entries_some s book c (listing_chunk_lem (directory_of s book) (shape_of book) c here).1 in let n : length es ≡ 0 = ap length e in omega arith)
      go (x ∷ xs) e = run_from 0 x xs e

  -- the cursor after some steps in the chunk
  step_on : (i : ℕ) → i + 1 < length es → (r : Report) × (stepped s book (cursor_at c i) ≡ Ok (Reported r (cursor_at c (i + 1))))
  step_on i l = go (drop i es) refl
    where
      go : (xs : List Entry) → drop i es ≡ xs → (r : Report) × (stepped s book (cursor_at c i) ≡ Ok (Reported r (cursor_at c (i + 1))))
      go [] e = absurd (let n : length es - i ≡ 0 = sym (length-drop i es) ∙ ap length e in omega arith)
      go (x ∷ []) e = absurd (let n : length es - i ≡ 1 = sym (length-drop i es) ∙ ap length e in omega arith)
      go (x ∷ (y ∷ ys)) e = (report_of book c x, step_inside i x y ys e)

  pub cursor_inside : (j i : ℕ) → i + j < length es → cursor_after s book j (cursor_at c i) ≡ cursor_at c (i + j)
  unfolding cursor_after
  cursor_inside zero i l = ap (cursor_at c) (omega arith)
  cursor_inside (suc j) i l =
      let m = step_on i (omega arith) in
      let z : i + 1 + j ≡ i + suc j = omega arith in
      after_step s book (cursor_at c i) (cursor_at c (i + 1)) m.0 j m.1 ∙ cursor_inside j (i + 1) (omega arith) ∙ ap (cursor_at c) z
