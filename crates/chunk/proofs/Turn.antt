-- The pass over the entries of a chunk, as its loop has it: the entries that are left, with what is known of those that were passed.
--     outcome     the answer on the chunk, from the flags, the index and the name so far, and the entries that are left
--     at_start    before the first entry it is the chunk's own answer
--     turn        an entry that was read moves it on
--     turn_bad    what is no entry settles it
--     at_end      behind the last entry it is read off the flags
use Rattle.fields.proofs.Base.{◌≡◌, refl, sym, ap, ◌∙◌, List, [], Bool, true, false, cond, ◌&&◌, ℕ, suc, ◌+◌, ◌-◌, ◌≤◌, ◌<◌, arith, eqb, Some, None, Result, Err}
use mathlib.Core.Bool.{and_assoc}
use Rattle.names.specs.Names.{below}
use Rattle.entries.specs.Entry.{item_at, name_of, Entry, entry_of, entry_name}
use Rattle.entries.specs.declared.Limits.{Limits}
use Rattle.entries.specs.declared.Place.{Place}
use Rattle.entries.specs.declared.Kind.{Kind}
use Rattle.entries.specs.declared.Kind.TheVariants.{Listing, Index}
use Rattle.entries.specs.Rising.{rising}
use Rattle.chunk.specs.Chunk.{Entries, broken, all, bad, parsed_with, entry_then, entries_at, quick, quick_at, checked_entries}
use Rattle.chunk_fields.specs.ChunkFields.{first_place}
use Rattle.chunk.specs.Answer.{chunk_of}
use Rattle.chunk.specs.declared.Chunk.{Chunk}
use Rattle.refusals.specs.declared.Rule.TheVariants.{BadEntry, QuickWords, NameOrder}
use Rattle.refusals.specs.declared.Rule.{Rule}

module _ (n : ℕ) (k : Kind) (s : List ℕ) where
  unfoldable pub outcome : Bool → Bool → ℕ → List ℕ → Entries → Result Chunk Rule
  outcome o q i last broken = Err BadEntry
  outcome o q i last (all es) = cond (o && rising entry_name last es) (cond (q && quick s n (first_place k) i es) (chunk_of (parsed_with k s [])) (Err QuickWords)) (Err NameOrder)

  pub at_start : (r : Entries) → outcome true true 0 [] r ≡ chunk_of (checked_entries n k s r)
  unfolding outcome checked_entries
  at_start broken = refl
  at_start (all es) = go (rising entry_name [] es) (quick s n (first_place k) 0 es) k
    where
      go : (a b : Bool) (j : Kind) → cond a (cond b (chunk_of (parsed_with j s [])) (Err QuickWords)) (Err NameOrder) ≡ chunk_of (cond a (cond b (parsed_with j s es) (bad QuickWords)) (bad NameOrder))
      go true true Listing = refl
      go true true Index = refl
      go true false j = refl
      go false b j = refl

  pushed : (o q : Bool) (i : ℕ) (last : List ℕ) (e : Entry) (r : Entries)
      → outcome o q i last (entry_then e r) ≡ outcome (o && below last e.name) (q && quick_at s n (first_place k) i e.at) (i + 1) e.name r
  unfolding outcome rising quick
  pushed o q i last e broken = refl
  pushed o q i last e (all es) = simp and_assoc

  module _ (limits : Limits) (end : ℕ) (o q : Bool) (i left at : ℕ) (last : List ℕ) where
    -- one entry is left at least
    some_left : 0 < left → entries_at limits k s end left at ≡ entries_at limits k s end (suc (left - 1)) at
    some_left h = ap (λ (x : ℕ). entries_at limits k s end x at) (omega arith)

    pub turn : (e : Place) → 0 < left → item_at limits k s at ≡ Some e
        → outcome o q i last (entries_at limits k s end left at)
        ≡ outcome (o && below last (name_of s e)) (q && quick_at s n (first_place k) i e.at) (i + 1) (name_of s e) (entries_at limits k s end (left - 1) e.next)
    unfolding entries_at
    turn e h g = ap (outcome o q i last) (some_left h) ∙ rw g (pushed o q i last (entry_of s e) (entries_at limits k s end (left - 1) e.next))

    pub turn_bad : 0 < left → item_at limits k s at ≡ None → Err BadEntry ≡ outcome o q i last (entries_at limits k s end left at)
    unfolding entries_at outcome
    turn_bad h g = sym (ap (outcome o q i last) (some_left h) ∙ rw g refl)

    pub at_end : left ≤ 0 → outcome o q i last (entries_at limits k s end left at) ≡ cond (eqb at end) (cond o (cond q (chunk_of (parsed_with k s [])) (Err QuickWords)) (Err NameOrder)) (Err BadEntry)
    unfolding entries_at outcome rising quick
    at_end h = let z : left ≡ 0 = omega arith in rw z (go (eqb at end) o q)
      where
        go : (a b c : Bool) → outcome b c i last (cond a (all []) broken) ≡ cond a (cond b (cond c (chunk_of (parsed_with k s [])) (Err QuickWords)) (Err NameOrder)) (Err BadEntry)
        go true true true = refl
        go true true false = refl
        go true false c = refl
        go false b c = refl
