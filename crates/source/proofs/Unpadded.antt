-- An input that the writer takes is what is written for its entries, one directly behind another.
use Rattle.fields.proofs.Base.{◌≡◌, ap, ◌∙◌, true, ◌&&◌, List, [], ◌++◌, map, flat_map, ℕ, zero, suc, ◌≤◌, ◌<◌, arith, ltb, eqb, length, get_or, drop, drop_of_length-le, eqb-true}
use Rattle.fields.proofs.Tests.{and_both}
use Rattle.entries.specs.Entry.{listing_at}
use Rattle.entries.proofs.Laws.{on_item}
use Rattle.entries.proofs.Padded.{entry_ahead}
use Rattle.entries.specs.declared.Kind.TheVariants.{Listing}
use Rattle.entries.specs.Rising.{rising}
use Rattle.entries.specs.Stored.{stored_of, entry_bytes, unpadded, stored_name}
use Rattle.source.specs.Source.{entries_from, end_of}
use Rattle.source.specs.Input.{places_of, given, input_right, all_unpadded}

module _ (s : List ℕ) (bytes : (i : ℕ) → get_or s i 0 < 256) (content : ℕ) where
  none_behind : (at : ℕ) → at ≡ length s → drop at s ≡ []
  none_behind at h = let l : length s ≤ at = omega arith in drop_of_length-le s l

  -- the entries from a place on, where they end with the input
  run_bytes_lem : (left at : ℕ) → end_of at (entries_from (listing_at content s) left at) ≡ length s → all_unpadded s (entries_from (listing_at content s) left at) ≡ true
      → drop at s ≡ flat_map (entry_bytes Listing) (map (stored_of s) (entries_from (listing_at content s) left at))
  unfolding entries_from end_of all_unpadded flat_map
  run_bytes_lem zero at h u = none_behind at h
  run_bytes_lem (suc left) at h u =
      on_item (listing_at content s at)
      (λ q. let k : at ≡ length s = rw q at h in rw q (none_behind at k))
      (λ e q.
      let es = entries_from (listing_at content s) left e.next in
      let v : (unpadded s e && all_unpadded s es) ≡ true = rw q at u in
      let k : end_of e.next es ≡ length s = rw q at h in
      let w = and_both (unpadded s e) (all_unpadded s es) v in
      rw q (entry_ahead s bytes content at e q w.0 ∙ ap (λ (b : List ℕ). entry_bytes Listing (stored_of s e) ++ b) (run_bytes_lem left e.next k w.1)))

  -- an input that the writer takes
  pub input_bytes : input_right content s ≡ true → s ≡ flat_map (entry_bytes Listing) (given content s)
  unfolding input_right given
  input_bytes h =
      let es = places_of content s in
      let a = and_both (ltb 0 (length es)) (eqb (end_of 0 es) (length s) && (all_unpadded s es && rising stored_name [] (given content s))) h in
      let b = and_both (eqb (end_of 0 es) (length s)) (all_unpadded s es && rising stored_name [] (given content s)) a.1 in
      let c = and_both (all_unpadded s es) (rising stored_name [] (given content s)) b.1 in
      run_bytes_lem (length s) 0 (eqb-true (end_of 0 es) (length s) b.0) c.0
