-- Listing is exact: the steps through a book that opens report every entry of every chunk of its chain, in order, each once, and then the end.
use Rattle.fields.proofs.Base.{◌≡◌, refl, ap, true, List, flat_map, append-nil, ℕ, zero, suc, eqb-true, Ok}
use Rattle.fields.proofs.Tests.{never}
use Rattle.refusals.specs.Refusals.{no_chunk}
use Rattle.header.specs.declared.Record.{Record}
use Rattle.tree.specs.Shape.{next_of}
use Rattle.tree.specs.Chain.{chain_from, chain, linked}
use Rattle.tree.proofs.Linked.{on_link, linked_chunk, chain_linked, good_filled, listed}
use Rattle.book.specs.Book.{directory_of, shape_of, record_fits}
use Rattle.opening.specs.Opened.{opened}
use Rattle.listing.specs.Listing.{cursor_at, start_of, stepped, reports_in}
use Rattle.listing.specs.Whole.{whole_listing, last_cursor, ListingExact}
use Rattle.listing.specs.declared.Cursor.{Cursor}
use Rattle.listing.specs.declared.Step.TheVariants.{End}
use Rattle.opening.proofs.Accepted.{opened_book}
use Rattle.listing.proofs.Stepping.{step_end}
use Rattle.listing.proofs.Run.{Run, run_append, run_steps, end_steps, run_take, run_chunk}

module _ (s : List ℕ) (book : Record) (fits : record_fits s book ≡ true) where
  -- along a chain that is linked, to its end
  run_chain : (n p c : ℕ) → linked (directory_of s book) (shape_of book) n p c ≡ true
      → Run s book (cursor_at c 0) (flat_map (reports_in s book) (chain_from (directory_of s book) n c)) (cursor_at no_chunk 0)
  unfolding chain_from linked flat_map
  run_chain zero p c h = never h
  run_chain (suc n) p c h =
      let r = run_chunk s book c fits (linked_chunk (directory_of s book) (shape_of book) (suc n) p c h) in
      let x = next_of (directory_of s book c) in
      on_link (directory_of s book) (shape_of book) n p c h
      (λ e. rw (e, append-nil, ← eqb-true x no_chunk e) r)
      (λ e b l. rw e (run_append s book (cursor_at c 0) (cursor_at x 0) (cursor_at no_chunk 0) (reports_in s book c) _ r (run_chain n c x l)))

pub listing_exact : (s : List ℕ) (book : Record) → opened s ≡ Ok book → ListingExact s book
unfolding whole_listing chain last_cursor
listing_exact s book e =
    let k = opened_book s book e in
    let fits = k.fits in
    let rs = whole_listing s book in
    let to = cursor_at no_chunk 0 in
    let r : Run s book (start_of book) rs to = run_chain s book fits book.count no_chunk book.first (chain_linked (directory_of s book) (shape_of book) k.directory.chain_passes) in
    let at_end : stepped s book to ≡ Ok (End to) = step_end s book to fits refl in
    let m = run_steps s book (start_of book) to rs r in
    record {
      reports = m.0;
      each = run_take s book to at_end (start_of book) rs r;
      ends = ap (λ (x : Cursor). x.chunk) m.1;
      stays = λ n. rw (m.1, (end_steps s book to at_end n).1) at_end;
      complete = listed (directory_of s book) (shape_of book) (good_filled (directory_of s book) (shape_of book) k.directory.chunks) k.directory.chain_passes;
    }
