-- A pass over the input, as a loop has it: the entries that are left, with the place of the next one and the name before it.
use Rattle.fields.proofs.Base.{◌≡◌, refl, List, [], ◌∷◌, map, Bool, true, false, ◌&&◌, ℕ, ◌-◌, ◌<◌, arith, length, ltb, eqb, lt-ltb, le-ltb, ne_eqb, Some}
use native.Mathlib.Nat.{le_refl}
use Rattle.fields.proofs.Tests.{and_yes}
use Rattle.names.specs.Names.{below}
use Rattle.entries.specs.Entry.{listing_at, name_of}
use Rattle.entries.specs.declared.Place.{Place}
use Rattle.entries.specs.Rising.{rising}
use Rattle.entries.specs.Stored.{stored_of, unpadded, stored_name}
use Rattle.source.specs.Source.{entries_from, end_of}
use Rattle.source.specs.Input.{given, input_right, all_unpadded}
use Rattle.source.proofs.Rows.{run_more}

-- the entries that are left end where the input does, none is padded, and their names rise
abbrev pub passes : List ℕ → ℕ → List ℕ → List Place → Bool
passes s at last es = eqb (end_of at es) (length s) && (all_unpadded s es && rising stored_name last (map (stored_of s) es))

-- the tests of an entry in front of those of the entries behind it
entry_first : (end u us r rs : Bool) → (end && ((u && us) && (r && rs))) ≡ (u && (r && (end && (us && rs))))
entry_first true true true true rs = refl
entry_first true true true false rs = refl
entry_first true true false true rs = refl
entry_first true true false false rs = refl
entry_first true false us r rs = refl
entry_first false true us true rs = refl
entry_first false true us false rs = refl
entry_first false false us r rs = refl

module _ (content : ℕ) (s : List ℕ) where
  -- the entries from a place on, where so many may be taken
  abbrev pub ahead : ℕ → ℕ → List Place
  ahead left at = entries_from (listing_at content s) left at

  some_read : (at : ℕ) (es : List Place) → (at ≡ length s → ⊥) → passes s at [] es ≡ (ltb 0 (length es) && passes s at [] es)
  unfolding end_of
  some_read at [] h = rw (ne_eqb at (length s) h)
  some_read at (e ∷ es) h = rw (lt-ltb 0 (length (e ∷ es)) (omega arith))

  pub passes_start : (0 ≡ length s → ⊥) → passes s 0 [] (ahead (length s) 0) ≡ input_right content s
  unfolding input_right given
  passes_start h = some_read 0 (ahead (length s) 0) h

  pub passes_empty : length s ≡ 0 → input_right content s ≡ false
  unfolding input_right entries_from
  passes_empty h = rw h (rw (le-ltb 0 0 (le_refl 0)))

  -- no entry is left
  pub passes_end : (left at : ℕ) (last : List ℕ) → ahead left at ≡ [] → passes s at last (ahead left at) ≡ eqb at (length s)
  unfolding end_of all_unpadded rising
  passes_end left at last q = rw q (and_yes (eqb at (length s)))

  pub passes_more : (left at : ℕ) (last : List ℕ) (e : Place) → 0 < left → listing_at content s at ≡ Some e
      → passes s at last (ahead left at) ≡ (unpadded s e && (below last (name_of s e) && passes s e.next (name_of s e) (ahead (left - 1) e.next)))
  unfolding end_of all_unpadded rising
  passes_more left at last e h q =
      rw (run_more (listing_at content s) left at e h q)
      (entry_first (eqb (end_of e.next (ahead (left - 1) e.next)) (length s)) (unpadded s e) (all_unpadded s (ahead (left - 1) e.next)) (below last (name_of s e))
      (rising stored_name (name_of s e) (map (stored_of s) (ahead (left - 1) e.next))))
