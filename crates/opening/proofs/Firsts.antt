-- The first and the last entry of a good chunk: they are there, lie inside its bytes, and have its first and its last name.
use Rattle.fields.proofs.Base.{◌≡◌, sym, ap, subst, true, List, [], ◌∷◌, ℕ, ◌+◌, ◌-◌, ◌≤◌, ◌<◌, arith, length, Option, Some, None}
use Rattle.entries.specs.Entry.{name_of, Entry}
use Rattle.entries.specs.declared.Limits.{Limits}
use Rattle.entries.specs.declared.Place.{Place}
use Rattle.entries.proofs.Laws.{item_inside}
use Rattle.chunk.specs.Chunk.{parsed, entries_in, is_kind}
use Rattle.chunk_fields.specs.ChunkFields.{first_place, entry_count, tail_length, kind_of}
use Rattle.chunk.proofs.Accepted.{chunk_accepted, entries_count}
use Rattle.quickref.specs.Quickref.{Sought, absent, found, nth, name_in, final, sought_of, nth_in, first_in, last_in}
use Rattle.quickref.proofs.Steps.{nth_read}
use Rattle.quickref.proofs.Good.{nth_good, last_good}
use Rattle.header.specs.declared.Record.{Record}
use Rattle.book.specs.Book.{limits_of, chunk_bytes, directory_of}
use Rattle.opening.specs.Passes.{GoodBook, FirstHit}
use Rattle.opening.proofs.Tags.{kind_true}
use Rattle.entries.specs.declared.Kind.{Kind}

-- an entry that was found lies inside
nth_inside : (limits : Limits) (k : Kind) (s : List ℕ) (i : ℕ) (e : Place) → nth_in limits k s i ≡ Some e → e.start + e.len ≤ length s
nth_inside limits k s i e q = let r = nth_read limits k s i e q in (item_inside limits k s r.1 e r.2).name

-- ---- a chunk with entries has a first and a last one

abbrev There : Sought → Type 0
There absent = ⊥
There (found e) = Unit {0}

first_there : (es : List Entry) → 0 < length es → There (nth 0 es)
unfolding nth
first_there [] h = absurd (omega arith)
first_there (e ∷ es) h = tt

final_there : (e : Entry) (es : List Entry) → There (final (found e) es)
unfolding final
final_there e [] = tt
final_there e (d ∷ es) = final_there d es

last_there : (es : List Entry) → 0 < length es → There (final absent es)
unfolding final
last_there [] h = absurd (omega arith)
last_there (e ∷ es) h = final_there e es

-- an answer of a search that finds an entry: it lies inside, and has the entry's name
pub record Hits (s : List ℕ) (e : Place) (name : List ℕ) : Type 0 where
  pub inside : e.start + e.len ≤ length s
  pub named : name_of s e ≡ name

module _ (limits : Limits) (k : Kind) (s : List ℕ) (h : is_kind k (parsed limits s) ≡ true) where
  es : List Entry
  es = entries_in (parsed limits s)

  some : 0 < length es
  unfolding es
  some =
      let g = chunk_accepted limits k s h in
      let n = entries_count limits k s (4096 - tail_length s) (entry_count s) (first_place k) (entries_in (parsed limits s)) g.entries in
      let c = g.some in
      omega arith

  pub first_is : (x : Option Place) → x ≡ first_in limits k s → sought_of s x ≡ nth 0 (entries_in (parsed limits s))
  first_is x q = rw q (nth_good limits s k 0 h)

  pub last_is : (x : Option Place) → x ≡ last_in limits k s → sought_of s x ≡ final absent (entries_in (parsed limits s))
  last_is x q = rw q (last_good limits s k h)

  pub first_found : None ≡ first_in limits k s → ⊥
  unfolding es
  first_found q = subst There (sym (first_is None q)) (first_there (entries_in (parsed limits s)) some)

  pub last_found : None ≡ last_in limits k s → ⊥
  unfolding es
  last_found q = subst There (sym (last_is None q)) (last_there (entries_in (parsed limits s)) some)

  pub first_hit : (e : Place) → Some e ≡ first_in limits k s → Hits s e (name_in (nth 0 (entries_in (parsed limits s))))
  first_hit e q = record { inside = nth_inside limits k s 0 e (sym q); named = ap name_in (first_is (Some e) q) }

  pub last_hit : (e : Place) → Some e ≡ last_in limits k s → Hits s e (name_in (final absent (entries_in (parsed limits s))))
  last_hit e q = record { inside = nth_inside limits k s (entry_count s - 1) e (sym q); named = ap name_in (last_is (Some e) q) }

-- ---- the first entry of a chunk of a good book

pub first_of_good : (s : List ℕ) (r : Record) → GoodBook s r → (c : ℕ) → c < r.count → (x : Option Place)
    → x ≡ first_in (limits_of s r) (kind_of (chunk_bytes s r c)) (chunk_bytes s r c) → FirstHit s r c x
unfolding directory_of
first_of_good s r good c l None q = absurd (first_found (limits_of s r) (kind_of (chunk_bytes s r c)) (chunk_bytes s r c) (kind_true s r good c l) q)
first_of_good s r good c l (Some p) q =
    let h = first_hit (limits_of s r) (kind_of (chunk_bytes s r c)) (chunk_bytes s r c) (kind_true s r good c l) p q in
    (h.inside, h.named)
