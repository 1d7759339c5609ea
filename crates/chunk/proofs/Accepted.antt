-- What a good chunk is, over its bytes: `chunk_accepted`, and by its tag and its links `good_made`.
use Rattle.fields.proofs.Base.{◌≡◌, refl, sym, ap, subst, ◌∙◌, List, [], ◌∷◌, Bool, true, false, cond, ◌&&◌, ℕ, zero, suc, ◌+◌, ◌-◌, ◌*◌, ◌≤◌, ◌<◌, arith, length, ltb, leb, eqb, eqb-true, leb-true, ltb-true, Option, Some, None}
use Rattle.fields.specs.Same.{stands_at}
use Rattle.fields.proofs.Tests.{never, and_both}
use Rattle.entries.specs.Entry.{item_at, with_item, Entry, entry_of, entry_name}
use Rattle.entries.specs.declared.Limits.{Limits}
use Rattle.entries.specs.declared.Place.{Place}
use Rattle.entries.specs.declared.Kind.{Kind}
use Rattle.entries.specs.declared.Kind.TheVariants.{Listing, Index}
use Rattle.entries.specs.Rising.{rising}
use Rattle.chunk.specs.Chunk.{Entries, broken, all, Parsed, bad, parsed_with, entry_then, entries_at, quick, framed, checked_entries, parsed_as, parsed, entries_in, is_kind, is_good}
use Rattle.chunk_fields.specs.ChunkFields.{tag_of, quick_count, first_place, entry_count, tail_length, spacing_of, kind_of}
use Rattle.refusals.specs.declared.Rule.TheVariants.{ChunkTag, ChunkFrame, QuickWords, NameOrder}

-- ---- as many entries as were asked for

-- entries that begin with x, and the others
pushed : (x : Entry) (r : Entries) (es : List Entry) → entry_then x r ≡ all es → (xs : List Entry) × (r ≡ all xs) × (es ≡ x ∷ xs)
pushed x broken es d = absurd (let z : ◌≡◌ {A = ℕ} 0 1 = cc in omega arith)
pushed x (all xs) es d = (xs, refl, (let z : x ∷ xs ≡ es = cc in sym z))

-- the first of some entries was read at their place, and the others behind it
pub entries_more : (limits : Limits) (k : Kind) (s : List ℕ) (end n at : ℕ) (es : List Entry) → entries_at limits k s end (suc n) at ≡ all es
    → (p : Place) × (xs : List Entry) × (item_at limits k s at ≡ Some p) × (es ≡ entry_of s p ∷ xs) × (entries_at limits k s end n p.next ≡ all xs)
unfolding entries_at
entries_more limits k s end n at es e = read (item_at limits k s at) refl e
  where
    read : (i : Option Place) → item_at limits k s at ≡ i → with_item i broken (λ p. entry_then (entry_of s p) (entries_at limits k s end n p.next)) ≡ all es
        → (p : Place) × (xs : List Entry) × (item_at limits k s at ≡ Some p) × (es ≡ entry_of s p ∷ xs) × (entries_at limits k s end n p.next ≡ all xs)
    read None g d = absurd (let z : ◌≡◌ {A = ℕ} 0 1 = cc in omega arith)
    read (Some p) g d =
        let m = pushed (entry_of s p) (entries_at limits k s end n p.next) es d in
        (p, m.0, g, m.2, m.1)

pub entries_none : (limits : Limits) (k : Kind) (s : List ℕ) (end at : ℕ) (es : List Entry) → entries_at limits k s end 0 at ≡ all es → es ≡ []
unfolding entries_at
entries_none limits k s end at es e = ended (eqb at end) e
  where
    ended : (t : Bool) → cond t (all []) broken ≡ all es → es ≡ []
    ended true d = let z : [] ≡ es = cc in sym z
    ended false d = absurd (let z : ◌≡◌ {A = ℕ} 0 1 = cc in omega arith)

pub entries_count : (limits : Limits) (k : Kind) (s : List ℕ) (end n at : ℕ) (es : List Entry) → entries_at limits k s end n at ≡ all es → length es ≡ n
entries_count limits k s end zero at es e = ap length (entries_none limits k s end at es e)
entries_count limits k s end (suc n) at es e =
    let m = entries_more limits k s end n at es e in
    ap length m.3 ∙ ap suc (entries_count limits k s end n m.0.next m.1 m.4)

-- ---- a good chunk

pub record Accepted (limits : Limits) (k : Kind) (s : List ℕ) (es : List Entry) : Type 0 where
  pub size : length s ≡ 4096
  pub some : 0 < entry_count s
  pub tail : tail_length s ≤ 4096
  pub entries : entries_at limits k s (4096 - tail_length s) (entry_count s) (first_place k) ≡ all es
  pub rises : rising entry_name [] es ≡ true
  pub words : quick s (spacing_of limits.density) (first_place k) 0 es ≡ true

-- what is known of p, the meaning of the entries r, where it is of the kind j
abbrev Judged : ℕ → Kind → Kind → List ℕ → Entries → Parsed → Type 0
Judged n k j s r p = is_kind j p ≡ true → (k ≡ j) × (r ≡ all (entries_in p)) × (rising entry_name [] (entries_in p) ≡ true) × (quick s n (first_place k) 0 (entries_in p) ≡ true)

judged_good : (n : ℕ) (k j : Kind) (s : List ℕ) (r : Entries) → Judged n k j s r (checked_entries n k s r)
unfolding checked_entries
judged_good n k j s broken h = never h
judged_good n k j s (all es) h = go (rising entry_name [] es) (quick s n (first_place k) 0 es) refl refl h
  where
    kind : (k j : Kind) → is_kind j (parsed_with k s es) ≡ true → (k ≡ j) × (entries_in (parsed_with k s es) ≡ es)
    kind Listing Listing h = (refl, refl)
    kind Listing Index h = never h
    kind Index Listing h = never h
    kind Index Index h = (refl, refl)

    go : (a b : Bool) → rising entry_name [] es ≡ a → quick s n (first_place k) 0 es ≡ b → Judged n k j s (all es) (cond a (cond b (parsed_with k s es) (bad QuickWords)) (bad NameOrder))
    go true true u v h = let g = kind k j h in (g.0, rw g.1, rw g.1 u, rw g.1 v)
    go true false u v h = never h
    go false b u v h = never h

framed_good : (n : ℕ) (k : Kind) (s : List ℕ) → framed n k s ≡ true → (0 < entry_count s) × (tail_length s ≤ 4096)
unfolding framed
framed_good n k s h =
    let a = and_both (ltb 0 (entry_count s)) (leb (2 + 2 * quick_count n (entry_count s)) (tail_length s) && leb (tail_length s) (4096 - first_place k)) h in
    let b = and_both (leb (2 + 2 * quick_count n (entry_count s)) (tail_length s)) (leb (tail_length s) (4096 - first_place k)) a.1 in
    (ltb-true _ _ a.0, (let l = leb-true (tail_length s) (4096 - first_place k) b.1 in omega arith))

as_good : (limits : Limits) (k j : Kind) (s : List ℕ) → length s ≡ 4096 → is_kind j (parsed_as (spacing_of limits.density) limits k s) ≡ true
    → (k ≡ j) × Accepted limits k s (entries_in (parsed_as (spacing_of limits.density) limits k s))
unfolding parsed_as
as_good limits k j s z = go (framed n k s) refl
  where
    n : ℕ
    n = spacing_of limits.density

    r : Entries
    r = entries_at limits k s (4096 - tail_length s) (entry_count s) (first_place k)

    go : (t : Bool) → framed n k s ≡ t → is_kind j (cond t (checked_entries n k s r) (bad ChunkFrame)) ≡ true
        → (k ≡ j) × Accepted limits k s (entries_in (cond t (checked_entries n k s r) (bad ChunkFrame)))
    go true e h =
        let g = judged_good n k j s r h in
        let f = framed_good n k s e in
        (g.0, record { size = z; some = f.0; tail = f.1; entries = g.1; rises = g.2; words = g.3 })
    go false e h = never h

pub chunk_accepted : (limits : Limits) (j : Kind) (s : List ℕ) → is_kind j (parsed limits s) ≡ true → Accepted limits j s (entries_in (parsed limits s))
unfolding parsed
chunk_accepted limits j s = go (eqb (length s) 4096) (stands_at s 0 (tag_of Listing)) (stands_at s 0 (tag_of Index)) refl
  where
    whole : Kind → Parsed
    whole k = parsed_as (spacing_of limits.density) limits k s

    moved : (k : Kind) → length s ≡ 4096 → is_kind j (whole k) ≡ true → Accepted limits j s (entries_in (whole k))
    moved k z h = let g = as_good limits k j s z h in subst (λ (x : Kind). Accepted limits x s (entries_in (whole k))) g.0 g.1

    go : (a b c : Bool) → eqb (length s) 4096 ≡ a → is_kind j (cond a (cond b (whole Listing) (cond c (whole Index) (bad ChunkTag))) (bad ChunkTag)) ≡ true
        → Accepted limits j s (entries_in (cond a (cond b (whole Listing) (cond c (whole Index) (bad ChunkTag))) (bad ChunkTag)))
    go true true c e h = moved Listing (eqb-true (length s) 4096 e) h
    go true false true e h = moved Index (eqb-true (length s) 4096 e) h
    go true false false e h = never h
    go false b c e h = never h

-- ---- a good chunk's kind is what its tag says, and a good listing chunk's links are those that stand in it

judged_made : (n : ℕ) (k : Kind) (s : List ℕ) (r : Entries) → is_good (checked_entries n k s r) ≡ true → checked_entries n k s r ≡ parsed_with k s (entries_in (checked_entries n k s r))
unfolding checked_entries
judged_made n k s broken h = never h
judged_made n k s (all es) h = go (rising entry_name [] es) (quick s n (first_place k) 0 es) k h
  where
    go : (a b : Bool) (j : Kind) → is_good (cond a (cond b (parsed_with j s es) (bad QuickWords)) (bad NameOrder)) ≡ true
        → cond a (cond b (parsed_with j s es) (bad QuickWords)) (bad NameOrder) ≡ parsed_with j s (entries_in (cond a (cond b (parsed_with j s es) (bad QuickWords)) (bad NameOrder)))
    go true true Listing h = refl
    go true true Index h = refl
    go true false j h = never h
    go false b j h = never h

as_made : (n : ℕ) (limits : Limits) (k : Kind) (s : List ℕ) → is_good (parsed_as n limits k s) ≡ true → parsed_as n limits k s ≡ parsed_with k s (entries_in (parsed_as n limits k s))
unfolding parsed_as
as_made n limits k s = go (framed n k s)
  where
    j : Parsed
    j = checked_entries n k s (entries_at limits k s (4096 - tail_length s) (entry_count s) (first_place k))

    go : (t : Bool) → is_good (cond t j (bad ChunkFrame)) ≡ true → cond t j (bad ChunkFrame) ≡ parsed_with k s (entries_in (cond t j (bad ChunkFrame)))
    go true h = judged_made n k s _ h
    go false h = never h

pub good_made : (limits : Limits) (s : List ℕ) → is_good (parsed limits s) ≡ true → parsed limits s ≡ parsed_with (kind_of s) s (entries_in (parsed limits s))
unfolding parsed
good_made limits s = go (eqb (length s) 4096) (stands_at s 0 (tag_of Listing)) (stands_at s 0 (tag_of Index))
  where
    whole : Kind → Parsed
    whole k = parsed_as (spacing_of limits.density) limits k s

    go : (a b c : Bool) → is_good (cond a (cond b (whole Listing) (cond c (whole Index) (bad ChunkTag))) (bad ChunkTag)) ≡ true
        → cond a (cond b (whole Listing) (cond c (whole Index) (bad ChunkTag))) (bad ChunkTag) ≡ parsed_with (cond b Listing Index) s (entries_in (cond a (cond b (whole Listing) (cond c (whole Index) (bad ChunkTag))) (bad ChunkTag)))
    go true true c h = as_made _ limits Listing s h
    go true false true h = as_made _ limits Index s h
    go true false false h = never h
    go false b c h = never h
