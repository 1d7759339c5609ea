-- What is read along a chain that passes: all entries of the directory's listing chunks, to the end (`reading_good`). So the plain search finds what they hold,
-- whatever the index chunks are (`plain_exact`), and on a directory that opening accepts what the descent finds (`plain_same`).
use Rattle.fields.proofs.Base.{◌≡◌, refl, sym, ap, ◌∙◌, ◌⊎◌, inl, inr, ⊎_elim, Bool, true, cond, false≢true, List, [], ◌∷◌, ◌++◌, map, flat_map, ℕ, zero, suc, ◌+◌, ◌*◌, ◌≤◌, arith, eqb, length, length-append}
use native.Mathlib.Nat.{mul-suc}
use Rattle.fields.proofs.Tests.{never}
use Rattle.refusals.specs.Refusals.{no_chunk}
use Rattle.names.specs.Names.{matches}
use Rattle.entries.specs.Entry.{Entry}
use Rattle.chunk.specs.Chunk.{Parsed, entries_in}
use Rattle.tree.specs.Lists.{In}
use Rattle.tree.specs.Shape.{Shape, next_of}
use Rattle.tree.specs.Chain.{chain_from, chain, linked, chain_ok, entries_of}
use Rattle.tree.specs.Descent.{found, absent, refused, outcome}
use Rattle.tree.specs.Exact.{GoodDirectory, Holds, PlainExact}
use Rattle.tree.specs.Reading.{Held, held_at, held_in, held_of, read_from, reading, first_equal, plain}
use Rattle.tree.proofs.Lists.{on_test, in_map, in_flat, flat_in}
use Rattle.tree.proofs.Linked.{on_link, linked_chunk, chain_linked, chain_chunks}
use Rattle.tree.proofs.LookupExact.{lookup_exact}

-- ---- what is read along a chain that is linked

module _ (D : ℕ → Parsed) (H : Shape) where
  pub read_linked : (n p c : ℕ) → linked D H n p c ≡ true → read_from D H n c ≡ record { entries = held_of D (chain_from D n c); whole = true }
  unfolding read_from chain_from linked flat_map
  read_linked zero p c h = never h
  read_linked (suc n) p c h =
      let l = linked_chunk D H (suc n) p c h in
      on_link D H n p c h
      (λ e. rw (l, e) refl)
      (λ e b k. rw (l, e, read_linked n c (next_of (D c)) k) refl)

  pub reading_good : chain_ok D H ≡ true → reading D H ≡ record { entries = held_of D (chain D H); whole = true }
  unfolding reading chain
  reading_good passes = read_linked H.count no_chunk H.first (chain_linked D H passes)

-- ---- entries with their chunks

held_in_lem : (c : ℕ) (es : List Entry) (h : Held) → In h (map (held_at c) es) → (h.chunk ≡ c) × In h.entry es
held_in_lem c [] h m = elim m [ ]
held_in_lem c (d ∷ es) h (inl q) = (ap (λ (x : Held). x.chunk) q, inl (ap (λ (x : Held). x.entry) q))
held_in_lem c (d ∷ es) h (inr m) = let r = held_in_lem c es h m in (r.0, inr r.1)

module _ (D : ℕ → Parsed) where
  pub held_chain : (cs : List ℕ) (h : Held) → In h (held_of D cs) → In h.chunk cs × In h.entry (entries_in (D h.chunk))
  held_chain cs h m =
      let f = flat_in (held_in D) cs h m in
      let r = held_in_lem f.0 (entries_in (D f.0)) h f.2 in
      (rw r.0 f.1, rw r.0 r.1)

  pub chain_held : (cs : List ℕ) (c : ℕ) (e : Entry) → In c cs → In e (entries_in (D c)) → In (held_at c e) (held_of D cs)
  chain_held cs c e m k = in_flat (held_in D) cs c (held_at c e) m (in_map (held_at c) (entries_in (D c)) e k)

-- entries without their chunks
abbrev pub entry_in : Held → Entry
entry_in h = h.entry

map_held : (c : ℕ) (es : List Entry) (hs : List Held) → map entry_in (map (held_at c) es ++ hs) ≡ es ++ map entry_in hs
map_held c [] hs = refl
map_held c (e ∷ es) hs = ap (λ (l : List Entry). e ∷ l) (map_held c es hs)

pub held_entries : (D : ℕ → Parsed) (cs : List ℕ) → map entry_in (held_of D cs) ≡ entries_of D cs
unfolding flat_map
held_entries D [] = refl
held_entries D (c ∷ cs) = map_held c (entries_in (D c)) (held_of D cs) ∙ ap (λ (l : List Entry). entries_in (D c) ++ l) (held_entries D cs)

-- ---- how many they are

pub chain_short : (D : ℕ → Parsed) (n c : ℕ) → length (chain_from D n c) ≤ n
unfolding chain_from
chain_short D zero c = omega arith
chain_short D (suc n) c =
    on_test (eqb (next_of (D c)) no_chunk)
    (λ e. rw e (omega arith))
    (λ e. rw e (let i = chain_short D n (next_of (D c)) in omega arith))

-- m in each chunk at most
pub entries_short : (D : ℕ → Parsed) (m : ℕ) (cs : List ℕ) → ((c : ℕ) → In c cs → length (entries_in (D c)) ≤ m) → length (entries_of D cs) ≤ m * length cs
unfolding flat_map
entries_short D m [] f = omega arith
entries_short D m (c ∷ cs) f =
    let i = entries_short D m cs (λ x k. f x (inr k)) in
    let a = f c (inl refl) in
    let l = length-append (entries_in (D c)) (entries_of D cs) in
    let t : m * suc (length cs) ≡ m * length cs + m = mul-suc m (length cs) in
    omega arith

-- ---- the search

-- what it finds is there
pub equal_found : (name : List ℕ) (hs : List Held) (w : Bool) → (first_equal name hs w ≡ cond w absent refused)
    ⊎ ((h : Held) × In h hs × (matches name h.entry.name ≡ true) × (first_equal name hs w ≡ found h.chunk h.entry))
unfolding first_equal
equal_found name [] w = inl refl
equal_found name (h ∷ hs) w =
    on_test (matches name h.entry.name)
    (λ t. inr (h, inl refl, t, rw t refl))
    (λ t. ⊎_elim (λ q. inl (rw t q)) (λ r. inr (r.0, inr r.1, r.2, rw t r.3)) (equal_found name hs w))

-- where some name compares equal it finds one
pub equal_some : (name : List ℕ) (hs : List Held) (w : Bool) (h : Held) → In h hs → matches name h.entry.name ≡ true
    → (k : Held) × (first_equal name hs w ≡ found k.chunk k.entry)
unfolding first_equal
equal_some name [] w h m e = elim m [ ]
equal_some name (d ∷ hs) w h (inl q) e = (d, rw (← q, e) refl)
equal_some name (d ∷ hs) w h (inr m) e =
    on_test (matches name d.entry.name)
    (λ t. (d, rw t refl))
    (λ t. let r = equal_some name hs w h m e in (r.0, rw t r.1))

module _ (D : ℕ → Parsed) (H : Shape) (passes : chain_ok D H ≡ true) (name : List ℕ) where
  abbrev all_held : List Held
  all_held = held_of D (chain D H)

  plain_is : plain D H name ≡ first_equal name all_held true
  unfolding plain
  plain_is = rw (reading_good D H passes) refl

  -- what is read is what listing chunks hold
  read_held : (h : Held) → In h all_held → matches name h.entry.name ≡ true → Holds D H name h.chunk h.entry
  read_held h m e =
      let r = held_chain D (chain D H) h m in
      let u = (chain_chunks D H passes h.chunk).0 r.0 in
      record { inside = u.0; kind = u.1; entry = r.1; equals = e }

  held_found : (c : ℕ) (e : Entry) → Holds D H name c e → (k : Held) × (plain D H name ≡ found k.chunk k.entry)
  held_found c e h =
      let m = chain_held D (chain D H) c e ((chain_chunks D H passes c).1 (h.inside, h.kind)) h.entry in
      let r = equal_some name all_held true (held_at c e) m h.equals in
      (r.0, plain_is ∙ r.1)

  settled : (plain D H name ≡ absent) ⊎ ((c : ℕ) × (e : Entry) × (plain D H name ≡ found c e) × Holds D H name c e)
  settled = ⊎_elim
      (λ q. inl (plain_is ∙ q))
      (λ k. inr (k.0.chunk, k.0.entry, plain_is ∙ k.3, read_held k.0 k.1 k.2))
      (equal_found name all_held true)

  pub plain_exact : PlainExact D H name
  plain_exact = record {
    found_held = λ c e q. elim settled [
      | inl p ↦ (let z : absent ≡ found c e = sym p ∙ q in never (cc))
      | inr k ↦ (let z : found k.0 k.1 ≡ found c e = sym k.2 ∙ q in
          let zc : k.0 ≡ c = cc in
          let ze : k.1 ≡ e = cc in
          rw (← zc, ← ze) k.3)
    ];
    absent_iff = (
      (λ q c e h. let k = held_found c e h in let z : absent ≡ found k.0.chunk k.0.entry = sym q ∙ k.1 in false≢true (cc)),
      (λ h. elim settled [ inl p ↦ p | inr k ↦ absurd (h k.0 k.1 k.3) ]),
    );
    never_refused = λ q. elim settled [
      | inl p ↦ (let z : refused ≡ absent = sym q ∙ p in false≢true (cc))
      | inr k ↦ (let z : refused ≡ found k.0 k.1 = sym q ∙ k.2 in false≢true (cc))
    ];
  }

-- where the tree passes too, this is what the descent comes to
pub plain_same : (D : ℕ → Parsed) (H : Shape) → GoodDirectory D H → (name : List ℕ) → plain D H name ≡ outcome D H name
plain_same D H a name =
    let d = lookup_exact D H a name in
    elim (settled D H a.chain_passes name) [
      | inl p ↦ p ∙ sym (d.absent_iff.1 ((plain_exact D H a.chain_passes name).absent_iff.0 p))
      | inr k ↦ k.2 ∙ sym ((d.found_iff k.0 k.1).1 k.3)
    ]
