-- What comes next at a walk, by its cases: one law for each.
use Rattle.fields.proofs.Base.{◌≡◌, ◌∙◌, true, false, List, ℕ, ◌-◌, ◌≤◌, ◌<◌, ltb, lt-ltb, le-ltb, Option, Some, None, Result, Ok, Err}
use Rattle.fields.proofs.Tests.{and_no}
use Rattle.refusals.specs.Refusals.{refusal_of}
use Rattle.entries.specs.Entry.{item_at}
use Rattle.entries.specs.declared.Place.{Place}
use Rattle.entries.specs.declared.Kind.TheVariants.{Listing}
use Rattle.header.specs.declared.Record.{Record}
use Rattle.tree.specs.Shape.{listing_chunk}
use Rattle.book.specs.Book.{limits_of, chunk_bytes, directory_of, shape_of, record_fits}
use Rattle.walk.specs.Walk.{in_chunk, is_over, on_entered, entered, entry_here, coming_at}
use Rattle.walk.specs.declared.Walk.{Walk}
use Rattle.refusals.specs.declared.Rule.TheVariants.{BadRecord}
use Rattle.refusals.specs.declared.Refusal.{Refusal}

module _ (s : List ℕ) (book : Record) (w : Walk) where
  pub enter_inside : 0 < w.left → entered s book w ≡ Ok (Some w)
  unfolding entered
  enter_inside l = rw (lt-ltb 0 w.left l)

  module _ (l : w.left ≤ 0) where
    pub enter_over : is_over book w ≡ true → entered s book w ≡ (Ok None)
    unfolding entered
    enter_over o = rw (le-ltb 0 w.left l, o)

    module _ (o : is_over book w ≡ false) where
      pub enter_none : w.more ≤ 0 → entered s book w ≡ (Err (refusal_of BadRecord))
      unfolding entered
      enter_none m = rw (le-ltb 0 w.left l, o, le-ltb 0 w.more m)

      pub enter_barred : listing_chunk (directory_of s book) (shape_of book) w.next ≡ false → entered s book w ≡ (Err (refusal_of BadRecord))
      unfolding entered
      enter_barred b = rw (le-ltb 0 w.left l, o, b, and_no (ltb 0 w.more))

      pub enter_chunk : 0 < w.more → listing_chunk (directory_of s book) (shape_of book) w.next ≡ true
          → entered s book w ≡ Ok (Some (in_chunk w.next (directory_of s book w.next) (w.more - 1)))
      unfolding entered
      enter_chunk m b = rw (le-ltb 0 w.left l, o, lt-ltb 0 w.more m, b)

  -- ---- the entry at a walk

  pub here_entry : (e : Place) → item_at (limits_of s book) Listing (chunk_bytes s book w.chunk) w.at ≡ Some e → entry_here s book w ≡ Ok (Some (e, w))
  unfolding entry_here
  here_entry e h = rw h

  pub here_none : item_at (limits_of s book) Listing (chunk_bytes s book w.chunk) w.at ≡ None → entry_here s book w ≡ Err (refusal_of BadRecord)
  unfolding entry_here
  here_none h = rw h

  -- ---- the peek

  pub peek_unfit : record_fits s book ≡ false → coming_at s book w ≡ Err (refusal_of BadRecord)
  unfolding coming_at
  peek_unfit f = rw f

  pub peek_entered : record_fits s book ≡ true → (x : Result (Option Walk) Refusal) → entered s book w ≡ x → coming_at s book w ≡ on_entered (entry_here s book) x
  unfolding coming_at
  peek_entered f x e = rw (f, e)

  -- inside a chunk: the entry at its place, and the walk as it is
  pub peek_here : record_fits s book ≡ true → (e : Place) → 0 < w.left → item_at (limits_of s book) Listing (chunk_bytes s book w.chunk) w.at ≡ Some e
      → coming_at s book w ≡ Ok (Some (e, w))
  peek_here f e l h = peek_entered f (Ok (Some w)) (enter_inside l) ∙ here_entry e h
