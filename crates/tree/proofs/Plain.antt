-- The plain search chunk by chunk, on any directory: what one listing chunk makes of the search from there on.
use Rattle.fields.proofs.Base.{◌≡◌, refl, ap, Bool, true, false, List, [], ◌∷◌, ◌++◌, map, ℕ, suc, eq-eqb, ne_eqb}
use Rattle.fields.proofs.Tests.{never}
use Rattle.refusals.specs.Refusals.{no_chunk}
use Rattle.names.specs.Names.{matches}
use Rattle.entries.specs.Entry.{Entry}
use Rattle.chunk.specs.Chunk.{Parsed, entries_in}
use Rattle.quickref.specs.Quickref.{Sought}
use Rattle.seek.specs.Seek.{entry_named}
use Rattle.tree.specs.Shape.{Shape, next_of, listing_chunk}
use Rattle.tree.specs.Descent.{found, absent, refused}
use Rattle.tree.specs.Reading.{Held, held_at, read_from, reading, first_equal, plain}
use Rattle.tree.specs.Walk.{plain_from}
use Rattle.tree.proofs.Lists.{on_test}

-- ---- the entries of a chunk, and others behind them

module _ (name : List ℕ) (c : ℕ) (hs : List Held) (w : Bool) where
  equal_here : (es : List Entry) (e : Entry) → entry_named name es ≡ Sought.found e → first_equal name (map (held_at c) es ++ hs) w ≡ found c e
  unfolding first_equal entry_named
  equal_here [] e q = never (cc)
  equal_here (d ∷ es) e q =
      on_test (matches name d.name)
      (λ t. rw t (let z : Sought.found d ≡ Sought.found e = rw t at q in let y : d ≡ e = cc in ap (found c) y))
      (λ t. rw t (equal_here es e (rw t at q)))

  equal_behind : (es : List Entry) → entry_named name es ≡ Sought.absent → first_equal name (map (held_at c) es ++ hs) w ≡ first_equal name hs w
  unfolding first_equal entry_named
  equal_behind [] q = refl
  equal_behind (d ∷ es) q =
      on_test (matches name d.name)
      (λ t. (let z : Sought.found d ≡ Sought.absent = rw t at q in never (cc)))
      (λ t. rw t (equal_behind es (rw t at q)))

module _ (D : ℕ → Parsed) (H : Shape) (name : List ℕ) where
  -- ---- from chunk c on, which is there

  module _ (n c : ℕ) (h : listing_chunk D H c ≡ true) where
    pub from_here : (e : Entry) → entry_named name (entries_in (D c)) ≡ Sought.found e → plain_from D H name (suc n) c ≡ found c e
    unfolding plain_from read_from
    from_here e q = rw h (equal_here name c _ _ (entries_in (D c)) e q)

    module _ (q : entry_named name (entries_in (D c)) ≡ Sought.absent) where
      pub from_end : next_of (D c) ≡ no_chunk → plain_from D H name (suc n) c ≡ absent
      unfolding plain_from read_from first_equal
      from_end k = rw (h, eq-eqb (next_of (D c)) no_chunk k) (equal_behind name c _ _ (entries_in (D c)) q)

      pub from_on : (next_of (D c) ≡ no_chunk → ⊥) → plain_from D H name (suc n) c ≡ plain_from D H name n (next_of (D c))
      unfolding plain_from read_from
      from_on k = rw (h, ne_eqb (next_of (D c)) no_chunk k) (equal_behind name c _ _ (entries_in (D c)) q)

  -- ---- from one that cannot be read, or is one too many

  pub from_barred : (n c : ℕ) → listing_chunk D H c ≡ false → plain_from D H name (suc n) c ≡ refused
  unfolding plain_from read_from first_equal
  from_barred n c h = rw h refl

  pub from_none : (c : ℕ) → plain_from D H name 0 c ≡ refused
  unfolding plain_from read_from first_equal
  from_none c = refl

  -- ---- the whole

  pub plain_whole : plain_from D H name H.count H.first ≡ plain D H name
  unfolding plain_from plain reading
  plain_whole = refl
