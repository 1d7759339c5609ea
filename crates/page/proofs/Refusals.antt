-- A page has one refusal: 17, which belongs to no chunk.
use Rattle.fields.proofs.Base.{◌≡◌, sym, Bool, true, false, cond, List, ℕ, arith, length, Ok, Err}
use Rattle.refusals.specs.Refusals.{refusal_of}
use Rattle.refusals.specs.declared.Refusal.{Refusal}
use Rattle.chunk.specs.Chunk.{entries_in}
use Rattle.header.specs.declared.Record.{Record}
use Rattle.tree.specs.Shape.{next_of}
use Rattle.book.specs.Book.{directory_of}
use Rattle.listing.specs.Listing.{can_list}
use Rattle.page.specs.Page.{has_room, page_of}
use Rattle.page.specs.declared.Page.TheVariants.{Entries, Short}
use Rattle.refusals.specs.declared.Rule.TheVariants.{BadRecord}

pub page_refusal : (s : List ℕ) (book : Record) (c n : ℕ) (q : Refusal) → page_of s book c n ≡ Err q → q ≡ refusal_of BadRecord
unfolding page_of
page_refusal s book c n q e = go (can_list s book c) (has_room s book c n) e
  where
    go : (a b : Bool)
        → cond a (cond b (Ok (Entries (length (entries_in (directory_of s book c))) (next_of (directory_of s book c)))) (Ok Short)) (Err (refusal_of BadRecord)) ≡ Err q
        → q ≡ refusal_of BadRecord
    go true true d = absurd (let z : ◌≡◌ {A = ℕ} 0 1 = cc in omega arith)
    go true false d = absurd (let z : ◌≡◌ {A = ℕ} 0 1 = cc in omega arith)
    go false b d = sym (let z : refusal_of BadRecord ≡ q = cc in z)
