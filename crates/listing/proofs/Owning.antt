-- The own bytes of the entry at a cursor, by the cases of the answer.
use Rattle.fields.proofs.Base.{◌≡◌, refl, sym, ap, subst, ◌∙◌, Bool, true, false, List, ℕ, ◌<◌, get_or, eqb, eqb-true, eqb-false, Option, Some, None, Result, Ok}
use Rattle.fields.proofs.Tests.{and_no}
use Rattle.refusals.specs.Refusals.{no_chunk}
use Rattle.entries.specs.declared.Place.{Place}
use Rattle.entries.specs.declared.Kind.TheVariants.{Listing}
use Rattle.quickref.specs.Quickref.{nth_in}
use Rattle.chunk.specs.Chunk.{Parsed}
use Rattle.entries.specs.Entry.{entry_of}
use Rattle.header.specs.declared.Record.{Record}
use Rattle.tree.specs.Shape.{is_listing, listing_chunk}
use Rattle.tree.proofs.Chunks.{listing_chunk_lem}
use Rattle.book.specs.Book.{limits_of, chunk_bytes, directory_of, shape_of, record_fits}
use Rattle.report.specs.Report.{report_of, own_of, own_at}
use Rattle.report.proofs.Reported.{read_owned, own_padded, nth_hit, nth_nothing}
use Rattle.listing.specs.Listing.{moved_on, step_of, entry_step, stepped, can_list, owned_of, owned_at, OwnBeside}
use Rattle.listing.specs.declared.Cursor.{Cursor}
use Rattle.listing.specs.declared.Step.{Step}
use Rattle.listing.specs.declared.Step.TheVariants.{Entry as Reported}
use Rattle.quickref.proofs.Steps.{nth_read}
use Rattle.listing.proofs.Stepping.{entry_absent, step_unfit, step_end, step_other, step_entry, some_chunk}
use Rattle.refusals.specs.declared.Refusal.{Refusal}
use Rattle.report.specs.declared.Own.{Own}

module _ (s : List ℕ) (book : Record) (at : Cursor) where
  pub own_unfit : record_fits s book ≡ false → owned_at s book at ≡ None
  unfolding owned_at can_list
  own_unfit f = rw f

  pub own_other : listing_chunk (directory_of s book) (shape_of book) at.chunk ≡ false → owned_at s book at ≡ None
  unfolding owned_at can_list
  own_other l = rw (l, and_no)

  module _ (f : record_fits s book ≡ true) (l : listing_chunk (directory_of s book) (shape_of book) at.chunk ≡ true) (is : is_listing (directory_of s book at.chunk) ≡ true) where
    pub own_missing : nth_in (limits_of s book) Listing (chunk_bytes s book at.chunk) at.entry ≡ None → owned_at s book at ≡ None
    unfolding owned_at can_list
    own_missing h = rw (f, l) (ap (owned_of book at.chunk) (nth_nothing s book at.chunk is at.entry h))

    pub own_there : (e : Place) → nth_in (limits_of s book) Listing (chunk_bytes s book at.chunk) at.entry ≡ Some e → owned_at s book at ≡ Some (own_at s book at.chunk e)
    unfolding owned_at can_list
    own_there e h =
        let r = nth_read (limits_of s book) Listing (chunk_bytes s book at.chunk) at.entry e h in
        rw (f, l) (ap (owned_of book at.chunk) (nth_hit s book at.chunk is at.entry e h).1
        ∙ ap Some (sym (read_owned s book at.chunk is r.1 e r.2)))

-- ---- beside a step

module _ (s : List ℕ) (bytes : (i : ℕ) → get_or s i 0 < 256) (book : Record) (at : Cursor) where
  abbrev p : Parsed
  p = directory_of s book at.chunk

  abbrev Beside : Type 0
  Beside = OwnBeside s (stepped s book at) (owned_at s book at)

  -- a step that gives no entry
  none_beside : (t : Result Step Refusal) → stepped s book at ≡ t → OwnBeside s t None → owned_at s book at ≡ None → Beside
  none_beside t e n o = rw (e, o) n

  module _ (f : record_fits s book ≡ true) (l : listing_chunk (directory_of s book) (shape_of book) at.chunk ≡ true) where
    is : is_listing p ≡ true
    is = (listing_chunk_lem (directory_of s book) (shape_of book) at.chunk l).1

    step_is : stepped s book at ≡ entry_step book p at
    step_is = step_entry s book at f (some_chunk s book at.chunk f l) l

    entry_beside : (h : Option Place) → nth_in (limits_of s book) Listing (chunk_bytes s book at.chunk) at.entry ≡ h → Beside
    unfolding entry_step
    entry_beside None h =
        none_beside _ (step_is ∙ entry_absent book p at (nth_nothing s book at.chunk is at.entry h)) tt (own_missing s book at f l is h)
    entry_beside (Some e) h =
        let n = nth_hit s book at.chunk is at.entry e h in
        let r = nth_read (limits_of s book) Listing (chunk_bytes s book at.chunk) at.entry e h in
        let x = entry_of (chunk_bytes s book at.chunk) e in
        let t : stepped s book at ≡ Ok (Reported (report_of book at.chunk x) (moved_on p at.chunk at.entry)) = step_is ∙ ap (step_of book p at.chunk at.entry) n.1 in
        let o : owned_at s book at ≡ Some (own_of book at.chunk x) = own_there s book at f l is e h ∙ ap Some (read_owned s book at.chunk is r.1 e r.2) in
        rw (t, o) (own_padded s book at.chunk is bytes r.1 e r.2)

  pub own_beside : Beside
  own_beside = fits (record_fits s book) refl
    where
      other : record_fits s book ≡ true → listing_chunk (directory_of s book) (shape_of book) at.chunk ≡ false → (e : Bool) → eqb at.chunk no_chunk ≡ e → Beside
      other f l true e = none_beside _ (step_end s book at f (eqb-true at.chunk no_chunk e)) tt (own_other s book at l)
      other f l false e = none_beside _ (step_other s book at f (eqb-false at.chunk no_chunk e) l) tt (own_other s book at l)

      chunk : record_fits s book ≡ true → (l : Bool) → listing_chunk (directory_of s book) (shape_of book) at.chunk ≡ l → Beside
      chunk f true l = entry_beside f l _ refl
      chunk f false l = other f l _ refl

      fits : (f : Bool) → record_fits s book ≡ f → Beside
      fits true f = chunk f _ refl
      fits false f = none_beside _ (step_unfit s book at f) tt (own_unfit s book at f)

  -- an answer that is the own bytes
  pub owned_answer : (r : Option Own) → r ≡ owned_at s book at → record { bytes : r ≡ owned_at s book at; beside : OwnBeside s (stepped s book at) r }
  owned_answer r e = record { bytes = e; beside = subst (OwnBeside s (stepped s book at)) (sym e) own_beside }
