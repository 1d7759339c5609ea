-- What is known of an entry that a step hands out (`row_of`), and the entries from a cursor on, one by one (`run_more`, `run_end`).
use Rattle.fields.proofs.Base.{◌≡◌, refl, sym, subst, List, [], ◌∷◌, ℕ, zero, suc, ◌+◌, ◌-◌, ◌≤◌, ◌<◌, arith, length, get_or, take, drop, ltb, Option, Some, None, none-some, same_Some}
use Rattle.entries.specs.Entry.{name_at}
use Rattle.entries.specs.declared.Place.{Place}
use Rattle.entries.proofs.Laws.{on_item, number_passed, test_passed, name_next, listing_inside}
use Rattle.entries.specs.declared.Kind.{Kind}
use Rattle.entries.specs.declared.Kind.TheVariants.{Listing, Index}
use Rattle.source.specs.Source.{index_entry_for, item_from, taken_of, entries_from, end_of, rows_from}
use Rattle.fields.proofs.Lists.{All, none, more}

-- ---- what an entry is known to be

-- an entry of either kind: its name, read at its place in the input s
pub record Row (s : List ℕ) (e : Place) : Type 0 where
  pub named : name_at s e.at ≡ Some (e.len, e.start)
  pub some : 0 < e.len
  pub short : e.len ≤ 1024
  pub inside : e.start + e.len ≤ length s

named_row : (s : List ℕ) (e : Place) → name_at s e.at ≡ Some (e.len, e.start) → Row s e
named_row s e h =
    let n = name_next s e.at e.len e.start h in
    record { named = h; some = n.0; short = n.1; inside = n.2 }

child_row : (s starts : List ℕ) (c : ℕ) (e : Place) → index_entry_for s starts c ≡ Some e → Row s e
unfolding index_entry_for
child_row s starts c e q =
    let t = test_passed (ltb c (length starts)) _ None (Some e) (none-some e) q in
    let n = number_passed _ _ _ _ (none-some e) t.1 in
    let x : Place = record { at = get_or starts c 0; start = n.1; len = n.0; section = 0; offset = 0; size = 0; child = c; next = c + 1 } in
    subst (Row s) (same_Some x e n.3) (named_row s x n.2)

pub row_of : (content : ℕ) (s starts : List ℕ) (k : Kind) (at : ℕ) (e : Place) → item_from content s starts k at ≡ Some e → Row s e
unfolding item_from
row_of content s starts Listing at e q = let i = listing_inside content s at e q in named_row s e (rw (← i.same) at i.read)
row_of content s starts Index at e q = child_row s starts at e q

-- ---- a step, where `left` more may be taken

pub taken_spent : (left : ℕ) (i : Option Place) → left ≡ 0 → None ≡ taken_of left i
unfolding taken_of
taken_spent zero i h = refl
taken_spent (suc left) i h = absurd (omega arith)

pub taken_some : (left : ℕ) (i : Option Place) → (left ≡ 0 → ⊥) → i ≡ taken_of left i
unfolding taken_of
taken_some zero i h = absurd (h refl)
taken_some (suc left) i h = refl

pub record Stepped (left : ℕ) (i : Option Place) (e : Place) : Type 0 where
  pub some : 0 < left
  pub item : i ≡ Some e

pub taken_entry : (left : ℕ) (i : Option Place) (e : Place) → taken_of left i ≡ Some e → Stepped left i e
unfolding taken_of
taken_entry zero i e q = absurd (none-some e q)
taken_entry (suc left) i e q = record { some = omega arith; item = q }

-- ---- the entries from a cursor on

module _ (item : ℕ → Option Place) where
  pub run_none : (left at : ℕ) → item at ≡ None → entries_from item left at ≡ []
  unfolding entries_from
  run_none zero at q = refl
  run_none (suc left) at q = rw q

  pub run_spent : (left at : ℕ) → left ≤ 0 → entries_from item left at ≡ []
  unfolding entries_from
  run_spent zero at h = refl
  run_spent (suc left) at h = absurd (omega arith)

  pub run_more : (left at : ℕ) (e : Place) → 0 < left → item at ≡ Some e → entries_from item left at ≡ e ∷ entries_from item (left - 1) e.next
  unfolding entries_from
  run_more zero at e h q = absurd (omega arith)
  run_more (suc left) at e h q = let z : suc left - 1 ≡ left = omega arith in rw (q, z)

  -- the step that ends them
  pub run_end : (left at : ℕ) → taken_of left (item at) ≡ None → entries_from item left at ≡ []
  unfolding taken_of
  run_end zero at q = run_spent 0 at (omega arith)
  run_end (suc left) at q = run_none (suc left) at q

  -- behind m of them stand the others
  pub run_drop : (m left at : ℕ) → entries_from item (left - m) (end_of at (take m (entries_from item left at))) ≡ drop m (entries_from item left at)
  unfolding end_of entries_from
  run_drop zero left at = let z : left - 0 ≡ left = omega arith in rw z
  run_drop (suc m) zero at = run_spent (0 - suc m) at (omega arith)
  run_drop (suc m) (suc left) at =
      on_item (item at)
      (λ q. rw q (run_none (suc left - suc m) at q))
      (λ e q. let z : suc left - suc m ≡ left - m = omega arith in rw (q, z) (run_drop m left e.next))

  -- what holds of each
  pub run_all : (P : Place → Type 0) → ((at : ℕ) (e : Place) → item at ≡ Some e → P e) → (left at : ℕ) → All P (entries_from item left at)
  unfolding entries_from
  run_all P f zero at = none
  run_all P f (suc left) at =
      on_item (item at)
      (λ q. subst (All P) (sym (run_none (suc left) at q)) none)
      (λ e q. let z : e ∷ entries_from item left e.next ≡ entries_from item (suc left) at = rw q in subst (All P) z (more (f at e q) (run_all P f left e.next)))

pub rows_all : (content : ℕ) (s starts : List ℕ) (k : Kind) (left at : ℕ) → All (Row s) (rows_from content s starts k left at)
rows_all content s starts k left at = run_all (item_from content s starts k) (Row s) (row_of content s starts k) left at
