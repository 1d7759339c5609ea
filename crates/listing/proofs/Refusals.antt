-- A step has one refusal: 17, which belongs to no chunk.
use Rattle.fields.proofs.Base.{◌≡◌, sym, Bool, true, false, cond, List, ℕ, arith, eqb, Ok, Err}
use Rattle.refusals.specs.Refusals.{no_chunk, refusal_of}
use Rattle.refusals.specs.declared.Refusal.{Refusal}
use Rattle.chunk.specs.Chunk.{Parsed, entries_in}
use Rattle.quickref.specs.Quickref.{Sought, absent, found, nth}
use Rattle.header.specs.declared.Record.{Record}
use Rattle.tree.specs.Shape.{listing_chunk}
use Rattle.book.specs.Book.{directory_of, shape_of, record_fits}
use Rattle.listing.specs.Listing.{step_of, entry_step, stepped}
use Rattle.listing.specs.declared.Cursor.{Cursor}
use Rattle.listing.specs.declared.Step.TheVariants.{End}
use Rattle.refusals.specs.declared.Rule.TheVariants.{BadRecord}

pub step_refusal : (s : List ℕ) (book : Record) (at : Cursor) (q : Refusal) → stepped s book at ≡ Err q → q ≡ refusal_of BadRecord
unfolding stepped entry_step
step_refusal s book at q e =
    go (record_fits s book) (eqb at.chunk no_chunk) (listing_chunk (directory_of s book) (shape_of book) at.chunk) (nth at.entry (entries_in p)) e
  where
    p : Parsed
    p = directory_of s book at.chunk

    go : (a b c : Bool) (x : Sought)
        → cond a (cond b (Ok (End at)) (cond c (step_of book p at.chunk at.entry x) (Err (refusal_of BadRecord)))) (Err (refusal_of BadRecord)) ≡ Err q → q ≡ refusal_of BadRecord
    go true true c x d = absurd (let z : ◌≡◌ {A = ℕ} 0 1 = cc in omega arith)
    go true false true absent d = sym (let z : refusal_of BadRecord ≡ q = cc in z)
    go true false true (found y) d = absurd (let z : ◌≡◌ {A = ℕ} 0 1 = cc in omega arith)
    go true false false x d = sym (let z : refusal_of BadRecord ≡ q = cc in z)
    go false b c x d = sym (let z : refusal_of BadRecord ≡ q = cc in z)
