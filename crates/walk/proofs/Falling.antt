-- A walk ends: behind an entry that comes next it has fewer entries to come to than before.
use Rattle.fields.proofs.Base.{◌≡◌, refl, subst, ◌&&◌, List, ℕ, ◌-◌, ◌≤◌, ◌<◌, arith, ltb, ltb-true, Option, Some, None, Result, Ok, Err, some_pair_parts}
use Rattle.fields.proofs.Tests.{and_both}
use Rattle.refusals.specs.Refusals.{refusal_of}
use Rattle.entries.specs.Entry.{item_at, with_item}
use Rattle.entries.specs.declared.Place.{Place}
use Rattle.entries.specs.declared.Kind.TheVariants.{Listing}
use Rattle.header.specs.declared.Record.{Record}
use Rattle.tree.specs.Shape.{listing_chunk}
use Rattle.tree.proofs.Lists.{on_test}
use Rattle.tree.proofs.Chunks.{listing_chunk_lem}
use Rattle.book.specs.Book.{limits_of, chunk_bytes, directory_of, shape_of, record_fits}
use Rattle.book.proofs.Read.{entries_some, entries_few}
use Rattle.walk.specs.Walk.{in_chunk, after_of, weight, is_over, on_entered, entered, entry_here, coming_at}
use Rattle.walk.specs.declared.Walk.{Walk}
use Rattle.refusals.specs.declared.Rule.TheVariants.{BadRecord}
use Rattle.refusals.specs.declared.Refusal.{Refusal}

-- what comes next at a walk inside a chunk leaves it there
same_walk : (i : Option Place) (w v : Walk) (e : Place)
    → with_item {A = Result (Option (Place × Walk)) Refusal} i (Err (refusal_of BadRecord)) (λ p. Ok (Some (p, w))) ≡ Ok (Some (e, v)) → w ≡ v
same_walk None w v e h = cc
same_walk (Some p) w v e h = let q : ◌≡◌ {A = Option (Place × Walk)} (Some (p, w)) (Some (e, v)) = cc in (some_pair_parts _ _ _ _ q).1

module _ (s : List ℕ) (book : Record) where
  -- a walk inside a chunk has entries left, and is no heavier than it was before it was entered
  abbrev Fell : Walk → Walk → Type 0
  Fell w v = (0 < v.left) × (weight v ≤ weight w)

  entered_falls : (w v : Walk) → entered s book w ≡ Ok (Some v) → Fell w v
  unfolding entered weight
  entered_falls w v =
      on_test (ltb 0 w.left)
      (λ l. rw l (λ h. let q : w ≡ v = cc in subst (Fell w) q (ltb-true 0 w.left l, omega arith)))
      (λ l. rw l (on_test (is_over book w)
      (λ o. rw o (λ h. absurd cc))
      (λ o. rw o (on_test (ltb 0 w.more && listing_chunk (directory_of s book) (shape_of book) w.next)
      (λ b. rw b (λ h.
      let t = and_both (ltb 0 w.more) _ b in
      let m = ltb-true 0 w.more t.0 in
      let is = (listing_chunk_lem (directory_of s book) (shape_of book) w.next t.1).1 in
      let some = entries_some s book w.next is in
      let few = entries_few s book w.next is in
      let q : in_chunk w.next (directory_of s book w.next) (w.more - 1) ≡ v = cc in
      subst (Fell w) q (some, omega arith)))
      (λ b. rw b (λ h. absurd cc))))))

  after_falls : (v : Walk) (e : Place) → 0 < v.left → weight (after_of v e) < weight v
  unfolding after_of weight
  after_falls v e l = omega arith

  here_same : (u v : Walk) (e : Place) → entry_here s book u ≡ Ok (Some (e, v)) → u ≡ v
  unfolding entry_here
  here_same u v e h = same_walk (item_at (limits_of s book) Listing (chunk_bytes s book u.chunk) u.at) u v e h

  peek_fell : (w v : Walk) (e : Place) → coming_at s book w ≡ Ok (Some (e, v)) → Fell w v
  unfolding coming_at
  peek_fell w v e =
      on_test (record_fits s book)
      (λ f. rw f (go (entered s book w) refl))
      (λ f. rw f (λ h. absurd cc))
    where
      go : (x : Result (Option Walk) Refusal) → entered s book w ≡ x → on_entered (entry_here s book) x ≡ Ok (Some (e, v)) → Fell w v
      go (Ok (Some u)) q h = subst (Fell w) (here_same u v e h) (entered_falls w u q)
      go (Ok None) q h = absurd cc
      go (Err r) q h = absurd cc

  -- the walk that was entered has no more of them to come to
  pub peek_keeps : (w v : Walk) (e : Place) → coming_at s book w ≡ Ok (Some (e, v)) → weight v ≤ weight w
  peek_keeps w v e h = (peek_fell w v e h).1

  pub peek_falls : (w v : Walk) (e : Place) → coming_at s book w ≡ Ok (Some (e, v)) → weight (after_of v e) < weight w
  peek_falls w v e h =
      let f = peek_fell w v e h in
      let a = after_falls v e f.0 in
      let g = f.1 in
      omega arith
