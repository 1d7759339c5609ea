-- What a walk reads from its start is what stands along the chain of its book, whatever the bytes and the record are: `walk_exact`.
use Rattle.fields.proofs.Base.{◌≡◌, refl, sym, subst, ◌∙◌, Bool, true, false, cond, List, [], ◌∷◌, ◌++◌, map, ℕ, zero, suc, ◌-◌, ◌≤◌, ◌<◌, arith, length, eqb, lt-ltb, le-ltb, Some, None, Ok, Err}
use Rattle.fields.proofs.Tests.{and_yes, and_no}
use Rattle.fields.proofs.Parts.{part_inside}
use Rattle.refusals.specs.Refusals.{no_chunk, refusal_of}
use Rattle.entries.specs.Entry.{item_at, Entry, entry_of}
use Rattle.entries.specs.declared.Place.{Place}
use Rattle.entries.proofs.Laws.{item_inside}
use Rattle.entries.specs.declared.Kind.TheVariants.{Listing}
use Rattle.chunk.specs.Chunk.{all, entries_at, entries_in}
use Rattle.chunk_fields.specs.ChunkFields.{tail_length}
use Rattle.chunk.proofs.Accepted.{entries_more, entries_none}
use Rattle.header.specs.declared.Record.{Record}
use Rattle.tree.specs.Shape.{is_listing, next_of, listing_chunk}
use Rattle.tree.specs.Reading.{Held, held_at, Reading, ended, cut, read_then, held_in, read_from, reading}
use Rattle.tree.proofs.Lists.{on_test}
use Rattle.tree.proofs.Chunks.{listing_chunk_lem}
use Rattle.book.specs.Book.{limits_of, chunk_bytes, directory_of, shape_of, record_fits}
use Rattle.book.proofs.Read.{entries_some, entries_read}
use Rattle.report.proofs.Reported.{read_reported, read_owned}
use Rattle.walk.specs.Walk.{walk_start, in_chunk, after_of, is_over, coming_at, name_here}
use Rattle.walk.specs.Exact.{reading_of, Comes, Reads, WalkExact}
use Rattle.walk.specs.declared.Walk.{Walk}
use Rattle.walk.proofs.Entering.{enter_inside, enter_over, enter_none, enter_barred, enter_chunk, peek_unfit, peek_entered, peek_here}
use Rattle.refusals.specs.declared.Rule.TheVariants.{BadRecord}

module _ (s : List ℕ) (book : Record) where
  -- at which the same comes next reads the same
  moved : (w v : Walk) (hs : List Held) (whole : Bool) → coming_at s book w ≡ coming_at s book v → Reads s book v hs whole → Reads s book w hs whole
  unfolding Reads
  moved w v [] whole q r = q ∙ r
  moved w v (h ∷ hs) whole q (u, e, k, r) = (u, e, record { next = q ∙ k.next; still = k.still; held = k.held; name = k.name; report = k.report; own = k.own }, r)

  module _ (fits : record_fits s book ≡ true) where
    -- ---- inside a chunk

    comes : (w : Walk) (p : Place) → 0 < w.left → is_listing (directory_of s book w.chunk) ≡ true
        → item_at (limits_of s book) Listing (chunk_bytes s book w.chunk) w.at ≡ Some p
        → Comes s book w w p (held_at w.chunk (entry_of (chunk_bytes s book w.chunk) p))
    unfolding name_here
    comes w p l is h =
        let q = peek_here s book w fits p l h in
        let i = item_inside (limits_of s book) Listing (chunk_bytes s book w.chunk) w.at p h in
        record {
          next = q;
          still = q;
          held = refl;
          name = part_inside (chunk_bytes s book w.chunk) p.start p.len i.name;
          report = read_reported s book w.chunk is w.at p h;
          own = read_owned s book w.chunk is w.at p h;
        }

    -- the entries of its chunk, and then what is read behind it
    module _ (hs : List Held) (whole : Bool) (x n : ℕ) (behind-all : (v : Walk) → v.left ≡ 0 → v.next ≡ x → v.more ≡ n → Reads s book v hs whole) where
      inside : (l : ℕ) (w : Walk) (es : List Entry) → w.left ≡ l → w.next ≡ x → w.more ≡ n → is_listing (directory_of s book w.chunk) ≡ true
          → entries_at (limits_of s book) Listing (chunk_bytes s book w.chunk) (4096 - tail_length (chunk_bytes s book w.chunk)) l w.at ≡ all es
          → Reads s book w (map (held_at w.chunk) es ++ hs) whole
      unfolding Reads after_of
      inside zero w es l k m is e =
          let z = entries_none (limits_of s book) Listing (chunk_bytes s book w.chunk) (4096 - tail_length (chunk_bytes s book w.chunk)) w.at es e in
          subst (λ (xs : List Entry). Reads s book w (map (held_at w.chunk) xs ++ hs) whole) (sym z) (behind-all w l k m)
      inside (suc l) w es q k m is e =
          let r = entries_more (limits_of s book) Listing (chunk_bytes s book w.chunk) (4096 - tail_length (chunk_bytes s book w.chunk)) l w.at es e in
          let p = r.0 in
          let more : Reads s book (after_of w p) (map (held_at w.chunk) r.1 ++ hs) whole = inside l (after_of w p) r.1 (omega arith) k m is r.4 in
          subst (λ (xs : List Entry). Reads s book w (map (held_at w.chunk) xs ++ hs) whole) (sym r.3)
          (w, p, comes w p (omega arith) is r.2, more)

    -- ---- behind a chunk

    abbrev behind : Walk → Reading
    behind w = cond (is_over book w) ended (read_from (directory_of s book) (shape_of book) w.more w.next)

    behind_is : (w : Walk) (x n : ℕ) → w.next ≡ x → w.more ≡ n → n < book.count
        → behind w ≡ cond (eqb x no_chunk) ended (read_from (directory_of s book) (shape_of book) n x)
    unfolding is_over
    behind_is w x n q m l = rw (q, m, lt-ltb n book.count l, and_yes (eqb x no_chunk))

    -- what a walk reads that reads r
    abbrev ReadsAll : Walk → Reading → Type 0
    ReadsAll w r = Reads s book w r.entries r.whole

    -- at the chain's end, and at what cannot be entered
    read_over : (w : Walk) → w.left ≡ 0 → is_over book w ≡ true → ReadsAll w ended
    unfolding Reads
    read_over w l o = peek_entered s book w fits (Ok None) (enter_over s book w (omega arith) o)

    read_none : (w : Walk) → w.left ≡ 0 → is_over book w ≡ false → w.more ≡ 0 → ReadsAll w cut
    unfolding Reads
    read_none w l o m = peek_entered s book w fits (Err (refusal_of BadRecord)) (enter_none s book w (omega arith) o (omega arith))

    read_barred : (w : Walk) → w.left ≡ 0 → is_over book w ≡ false → listing_chunk (directory_of s book) (shape_of book) w.next ≡ false → ReadsAll w cut
    unfolding Reads
    read_barred w l o b = peek_entered s book w fits (Err (refusal_of BadRecord)) (enter_barred s book w (omega arith) o b)

    -- the chunk that follows, and what is read behind it
    read_chunk : (n : ℕ) (w : Walk) → w.left ≡ 0 → is_over book w ≡ false → w.more ≡ suc n → listing_chunk (directory_of s book) (shape_of book) w.next ≡ true
        → let r : Reading = cond (eqb (next_of (directory_of s book w.next)) no_chunk) ended (read_from (directory_of s book) (shape_of book) n (next_of (directory_of s book w.next))) in
        ((v : Walk) → v.left ≡ 0 → v.next ≡ next_of (directory_of s book w.next) → v.more ≡ n → ReadsAll v r)
        → ReadsAll w (read_then (held_in (directory_of s book) w.next) r)
    read_chunk n w l o m b more =
        let c = w.next in
        let is = (listing_chunk_lem (directory_of s book) (shape_of book) c b).1 in
        let es = entries_in (directory_of s book c) in
        let v : Walk = in_chunk c (directory_of s book c) (w.more - 1) in
        let here = peek_entered s book w fits (Ok (Some v)) (enter_chunk s book w (omega arith) o (omega arith) b) in
        let still = peek_entered s book v fits (Ok (Some v)) (enter_inside s book v (entries_some s book c is)) in
        let r : Reading = cond (eqb (next_of (directory_of s book c)) no_chunk) ended (read_from (directory_of s book) (shape_of book) n (next_of (directory_of s book c))) in
        moved w v _ _ (here ∙ sym still)
        (inside r.entries r.whole (next_of (directory_of s book c)) n more (length es) v es refl refl (omega arith) is (entries_read s book c is))

    read_on : (n : ℕ) (w : Walk) → w.left ≡ 0 → w.more ≡ n → n ≤ book.count → ReadsAll w (behind w)
    unfolding read_from
    read_on zero w l m f =
        on_test (is_over book w)
        (λ o. rw o (read_over w l o))
        (λ o. let q : behind w ≡ cut = rw (o, m) in subst (ReadsAll w) (sym q) (read_none w l o m))
    read_on (suc n) w l m f =
        on_test (is_over book w)
        (λ o. rw o (read_over w l o))
        (λ o. on_test (listing_chunk (directory_of s book) (shape_of book) w.next)
        (λ b.
        let x = next_of (directory_of s book w.next) in
        let r : Reading = cond (eqb x no_chunk) ended (read_from (directory_of s book) (shape_of book) n x) in
        let q : behind w ≡ read_then (held_in (directory_of s book) w.next) r = rw (o, m, b) in
        subst (ReadsAll w) (sym q)
        (read_chunk n w l o m b (λ v lv e k. subst (ReadsAll v) (behind_is v x n e k (omega arith)) (read_on n v lv k (omega arith)))))
        (λ b. let q : behind w ≡ cut = rw (o, m, b) in subst (ReadsAll w) (sym q) (read_barred w l o b)))

  unread : record_fits s book ≡ false → Reads s book (walk_start book) [] false
  unfolding Reads
  unread f = peek_unfit s book (walk_start book) f

  start_behind : (f : record_fits s book ≡ true) → behind f (walk_start book) ≡ reading (directory_of s book) (shape_of book)
  unfolding reading walk_start is_over
  start_behind f = rw (le-ltb book.count book.count (omega arith), and_no (eqb book.first no_chunk))

  start_reads : (f : record_fits s book ≡ true) → Reads s book (walk_start book) (behind f (walk_start book)).entries (behind f (walk_start book)).whole
  unfolding walk_start
  start_reads f = read_on f book.count (walk_start book) refl refl (omega arith)

  pub walk_exact : WalkExact s book (walk_start book)
  unfolding reading_of
  walk_exact =
      on_test (record_fits s book)
      (λ f. rw (f, ← start_behind f) (start_reads f))
      (λ f. rw f (unread f))
