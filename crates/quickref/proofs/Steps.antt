-- What one turn of a walk over a chunk's bytes finds, with `left` entries left and the next at a place.
use Rattle.fields.proofs.Base.{◌≡◌, refl, ap, ◌∙◌, List, ℕ, zero, suc, ◌-◌, ◌/◌, ◌%◌, ◌≤◌, ◌<◌, arith, ltb, ltb-true, Some, None, none-some}
use Rattle.entries.specs.Entry.{item_at}
use Rattle.entries.specs.declared.Limits.{Limits}
use Rattle.entries.specs.declared.Place.{Place}
use Rattle.entries.proofs.Laws.{on_item, test_passed}
use Rattle.entries.specs.declared.Kind.{Kind}
use Rattle.chunk_fields.specs.ChunkFields.{entry_count, spacing_of}
use Rattle.quickref.specs.Quickref.{after_at, group_at, nth_in}

pub some_left : {A : Type 0} (f : ℕ → A) (left : ℕ) → 0 < left → f left ≡ f (suc (left - 1))
some_left f left h = ap f (omega arith)

pub none_left : {A : Type 0} (f : ℕ → A) (left : ℕ) → left ≤ 0 → f left ≡ f 0
none_left f left h = ap f (omega arith)

-- what is no entry ends the walk, however many entries are left
pub after_bad : (limits : Limits) (k : Kind) (s : List ℕ) (left at : ℕ) → item_at limits k s at ≡ None → after_at limits k s left at ≡ None
unfolding after_at
after_bad limits k s zero at g = rw g refl
after_bad limits k s (suc left) at g = rw g refl

module _ (limits : Limits) (k : Kind) (s : List ℕ) (left at : ℕ) where
  pub after_on : (e : Place) → 0 < left → item_at limits k s at ≡ Some e → after_at limits k s left at ≡ after_at limits k s (left - 1) e.next
  unfolding after_at
  after_on e h g = some_left (λ n. after_at limits k s n at) left h ∙ rw g refl

  pub after_here : left ≤ 0 → after_at limits k s left at ≡ item_at limits k s at
  unfolding after_at
  after_here h = none_left (λ n. after_at limits k s n at) left h

-- ---- what is found was read in the chunk

after_read : (limits : Limits) (k : Kind) (s : List ℕ) (j at : ℕ) (e : Place) → after_at limits k s j at ≡ Some e
    → (p : ℕ) × (item_at limits k s p ≡ Some e)
unfolding after_at
after_read limits k s zero at e h = (at, h)
after_read limits k s (suc j) at e h =
    on_item (item_at limits k s at)
    (λ g. absurd (none-some e (rw g at h)))
    (λ p g. after_read limits k s j p.next e (rw g at h))

pub nth_read : (limits : Limits) (k : Kind) (s : List ℕ) (i : ℕ) (e : Place) → nth_in limits k s i ≡ Some e
    → (i < entry_count s) × (p : ℕ) × (item_at limits k s p ≡ Some e)
unfolding nth_in
nth_read limits k s i e h =
    let n : ℕ = spacing_of limits.density in
    let t = test_passed (ltb i (entry_count s)) (after_at limits k s (i % n) (group_at k s (i / n))) None (Some e) (none-some e) h in
    let r = after_read limits k s (i % n) (group_at k s (i / n)) e t.1 in
    (ltb-true i (entry_count s) t.0, r.0, r.1)
