-- A look at what comes next has one refusal: 17, which belongs to no chunk.
use Rattle.fields.proofs.Base.{◌≡◌, sym, Bool, true, false, cond, ◌&&◌, List, ℕ, ◌-◌, arith, ltb, Option, Some, None, Result, Ok, Err}
use Rattle.refusals.specs.Refusals.{refusal_of}
use Rattle.refusals.specs.declared.Refusal.{Refusal}
use Rattle.refusals.specs.declared.Rule.TheVariants.{BadRecord}
use Rattle.entries.specs.Entry.{item_at, with_item}
use Rattle.entries.specs.declared.Place.{Place}
use Rattle.entries.specs.declared.Kind.TheVariants.{Listing}
use Rattle.header.specs.declared.Record.{Record}
use Rattle.tree.specs.Shape.{listing_chunk}
use Rattle.book.specs.Book.{limits_of, chunk_bytes, directory_of, shape_of, record_fits}
use Rattle.walk.specs.Walk.{in_chunk, is_over, on_entered, entered, entry_here, coming_at}
use Rattle.walk.specs.declared.Walk.{Walk}

module _ (s : List ℕ) (book : Record) (q : Refusal) where
  here_refusal : (w : Walk) → entry_here s book w ≡ Err q → q ≡ refusal_of BadRecord
  unfolding entry_here
  here_refusal w = go (item_at (limits_of s book) Listing (chunk_bytes s book w.chunk) w.at)
    where
      go : (i : Option Place) → with_item {A = Result (Option (Place × Walk)) Refusal} i (Err (refusal_of BadRecord)) (λ e. Ok (Some (e, w))) ≡ Err q → q ≡ refusal_of BadRecord
      go None d = sym (let z : refusal_of BadRecord ≡ q = cc in z)
      go (Some e) d = absurd (let z : ◌≡◌ {A = ℕ} 0 1 = cc in omega arith)

  pub peek_refusal : (w : Walk) → coming_at s book w ≡ Err q → q ≡ refusal_of BadRecord
  unfolding coming_at entered
  peek_refusal w = go (record_fits s book) (ltb 0 w.left) (is_over book w) (ltb 0 w.more && listing_chunk (directory_of s book) (shape_of book) w.next)
    where
      next : Walk
      next = in_chunk w.next (directory_of s book w.next) (w.more - 1)

      go : (a b c d : Bool)
          → cond a (on_entered (entry_here s book) (cond b (Ok (Some w)) (cond c (Ok None) (cond d (Ok (Some next)) (Err (refusal_of BadRecord)))))) (Err (refusal_of BadRecord)) ≡ Err q
          → q ≡ refusal_of BadRecord
      go true true c d e = here_refusal w e
      go true false true d e = absurd (let z : ◌≡◌ {A = ℕ} 0 1 = cc in omega arith)
      go true false false true e = here_refusal next e
      go true false false false e = sym (let z : refusal_of BadRecord ≡ q = cc in z)
      go false b c d e = sym (let z : refusal_of BadRecord ≡ q = cc in z)
