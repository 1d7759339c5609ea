-- What an entry that was read is known to be: an entry of each kind taken apart, where each of its numbers stands and what rules they keep
-- (`listing_apart`, `index_apart`); that it and its name lie inside the chunk (`item_inside`).
use Rattle.fields.proofs.Base.{◌≡◌, refl, sym, ap₂, subst, ◌∙◌, List, Bool, true, false, cond, ◌&&◌, ◌||◌, ℕ, ◌+◌, ◌≤◌, ◌<◌, arith, ltb-true, leb-true, lt-ltb, le-ltb, length, ltb, leb, Option, Some, None, none-some, some_pair_parts, cond_some}
use Rattle.fields.specs.Part.{inside, part}
use Rattle.fields.proofs.Tests.{and_both}
use Rattle.encint.specs.Encint.{encint_at}
use Rattle.encint.proofs.Reading.{encint_next}
use Rattle.entries.specs.Entry.{name_at, with_number, listing_at, index_at, item_at, name_of}
use Rattle.entries.specs.declared.Limits.{Limits}
use Rattle.entries.specs.declared.Place.{Place}
use Rattle.entries.specs.declared.Kind.{Kind}
use Rattle.entries.specs.declared.Kind.TheVariants.{Listing, Index}

-- ---- what was there is taken apart

-- go by what stands at a place, and keep the equation
pub on_item : {P : Type 0} (i : Option Place) → (i ≡ None → P) → ((e : Place) → i ≡ Some e → P) → P
on_item None f g = f refl
on_item (Some e) f g = g e refl

-- a number was there where what follows on it is not the answer for none
pub number_passed : {A : Type 0} (r : Option (ℕ × ℕ)) (d : A) (f : ℕ → ℕ → A) (a : A) → (d ≡ a → ⊥) → with_number r d f ≡ a → (v : ℕ) × (p : ℕ) × (r ≡ Some (v, p)) × (f v p ≡ a)
number_passed None d f a no-d e = absurd (no-d e)
number_passed (Some (v, p)) d f a no-d e = (v, p, refl, e)

-- and a test was passed
pub test_passed : {A : Type 0} (t : Bool) (x d a : A) → (d ≡ a → ⊥) → cond t x d ≡ a → (t ≡ true) × (x ≡ a)
test_passed true x d a no-d e = (refl, e)
test_passed false x d a no-d e = absurd (no-d e)

-- ---- a name

-- a name's length is an ENCINT
pub name_number : (s : List ℕ) (at n p : ℕ) → name_at s at ≡ Some (n, p) → encint_at s at ≡ Some (n, p)
unfolding name_at
name_number s at n p e =
    let r = number_passed _ _ _ _ (none-some _) e in
    let t = ltb 0 r.0 && (leb r.0 1024 && inside s r.1 r.0) in
    r.2 ∙ (test_passed t (Some (r.0, r.1)) None (Some (n, p)) (none-some _) r.3).1

pub name_next : (s : List ℕ) (at n p : ℕ) → name_at s at ≡ Some (n, p) → (0 < n) × (n ≤ 1024) × (p + n ≤ length s) × (at < p)
unfolding name_at
name_next s at n p e =
    let r = number_passed _ _ _ _ (none-some _) e in
    let m : ℕ = r.0 in
    let q : ℕ = r.1 in
    let t = test_passed (ltb 0 m && (leb m 1024 && inside s q m)) (Some (m, q)) None (Some (n, p)) (none-some _) r.3 in
    let a = and_both (ltb 0 m) (leb m 1024 && inside s q m) t.0 in
    let b = and_both (leb m 1024) (inside s q m) a.1 in
    let l = (encint_next s at r.2).0 in
    let v = some_pair_parts _ _ _ _ t.1 in
    let x : m ≡ n = v.0 in
    let y : q ≡ p = v.1 in
    omega (arith, ltb-true 0 m a.0, leb-true m 1024 b.0, leb-true (q + m) (length s) b.1)

-- ---- an entry of either kind

-- a listing entry: each of its numbers where it was read, and the rules that they keep (FORMAT E3 to E6)
pub record ListingApart (content : ℕ) (s : List ℕ) (at : ℕ) (e : Place) : Type 0 where
  pub p₁ : ℕ
  pub p₂ : ℕ
  pub same : e.at ≡ at
  pub name : name_at s at ≡ Some (e.len, e.start)
  pub section : encint_at s (e.start + e.len) ≡ Some (e.section, p₁)
  pub offset : encint_at s p₁ ≡ Some (e.offset, p₂)
  pub size : encint_at s p₂ ≡ Some (e.size, e.next)
  pub numbered : e.section ≤ 65535
  pub within : (ltb 0 e.section || leb (e.offset + e.size) content) ≡ true
  pub childless : e.child ≡ 0

pub listing_apart : (content : ℕ) (s : List ℕ) (at : ℕ) (e : Place) → listing_at content s at ≡ Some e → ListingApart content s at e
unfolding listing_at
listing_apart content s at e q =
    let n = number_passed _ _ _ _ (none-some _) q in
    let a = number_passed _ _ _ _ (none-some _) n.3 in
    let b = number_passed _ _ _ _ (none-some _) a.3 in
    let d = number_passed _ _ _ _ (none-some _) b.3 in
    let within = ltb 0 a.0 || leb (b.0 + d.0) content in
    let t = cond_some (leb a.0 65535 && within)
    (record { at = at; start = n.1; len = n.0; section = a.0; offset = b.0; size = d.0; child = 0; next = d.1 }) e d.3 in
    let both = and_both (leb a.0 65535) within t.0 in
    subst (ListingApart content s at) t.1
    (record {
      p₁ = a.1;
      p₂ = b.1;
      same = refl;
      name = n.2;
      section = a.2;
      offset = b.2;
      size = d.2;
      numbered = leb-true a.0 65535 both.0;
      within = both.1;
      childless = refl;
    })

-- an index entry
pub record IndexApart (count : ℕ) (s : List ℕ) (at : ℕ) (e : Place) : Type 0 where
  pub same : e.at ≡ at
  pub name : name_at s at ≡ Some (e.len, e.start)
  pub child : encint_at s (e.start + e.len) ≡ Some (e.child, e.next)
  pub below : e.child < count

pub index_apart : (count : ℕ) (s : List ℕ) (at : ℕ) (e : Place) → index_at count s at ≡ Some e → IndexApart count s at e
unfolding index_at
index_apart count s at e q =
    let n = number_passed _ _ _ _ (none-some _) q in
    let a = number_passed _ _ _ _ (none-some _) n.3 in
    let t = cond_some (ltb a.0 count)
    (record { at = at; start = n.1; len = n.0; section = 0; offset = 0; size = 0; child = a.0; next = a.1 }) e a.3 in
    subst (IndexApart count s at) t.1 (record { same = refl; name = n.2; child = a.2; below = ltb-true a.0 count t.0 })

-- where it stands, and its name
pub record Inside (s : List ℕ) (at : ℕ) (e : Place) : Type 0 where
  pub same : e.at ≡ at
  pub read : name_at s at ≡ Some (e.len, e.start)
  pub name : e.start + e.len ≤ length s
  pub some : 0 < e.len
  pub short : e.len ≤ 1024
  pub moves : at < e.next
  pub ends : e.next ≤ length s

-- by its name, and by the place of a number behind it
named_inside : (s : List ℕ) (at : ℕ) (e : Place) → e.at ≡ at → name_at s at ≡ Some (e.len, e.start)
    → e.start + e.len < e.next → e.next ≤ length s → Inside s at e
named_inside s at e same read l z =
    let n = name_next s at e.len e.start read in
    record { same = same; read = read; name = n.2; some = n.0; short = n.1; moves = omega arith; ends = z }

pub listing_inside : (content : ℕ) (s : List ℕ) (at : ℕ) (e : Place) → listing_at content s at ≡ Some e → Inside s at e
listing_inside content s at e q =
    let a = listing_apart content s at e q in
    let x = encint_next s (e.start + e.len) a.section in
    let y = encint_next s a.p₁ a.offset in
    let z = encint_next s a.p₂ a.size in
    named_inside s at e a.same a.name (omega arith) z.1

index_inside : (count : ℕ) (s : List ℕ) (at : ℕ) (e : Place) → index_at count s at ≡ Some e → Inside s at e
index_inside count s at e q =
    let a = index_apart count s at e q in
    let x = encint_next s (e.start + e.len) a.child in
    named_inside s at e a.same a.name x.0 x.1

pub item_inside : (limits : Limits) (k : Kind) (s : List ℕ) (at : ℕ) (e : Place) → item_at limits k s at ≡ Some e → Inside s at e
unfolding item_at
item_inside limits Listing s at e q = listing_inside limits.content s at e q
item_inside limits Index s at e q = index_inside limits.count s at e q

-- ---- an entry, its name read first

module _ (limits : Limits) (k : Kind) (s : List ℕ) (at : ℕ) where
  pub item_unnamed : name_at s at ≡ None → item_at limits k s at ≡ None
  unfolding item_at listing_at index_at
  item_unnamed q = go k
    where
      go : (k : Kind) → item_at limits k s at ≡ None
      go Listing = rw q refl
      go Index = rw q refl

  pub item_named : (n p : ℕ) (e : Place) → name_at s at ≡ Some (n, p) → item_at limits k s at ≡ Some e → name_of s e ≡ part s p n
  item_named n p e q g =
      let z = some_pair_parts _ _ _ _ (sym (item_inside limits k s at e g).read ∙ q) in
      ap₂ (λ (i j : ℕ). part s i j) z.1 z.0

-- an index entry, its child behind its name
module _ (limits : Limits) (s : List ℕ) (at n p : ℕ) (q : name_at s at ≡ Some (n, p)) where
  pub index_broken : encint_at s (p + n) ≡ None → item_at limits Index s at ≡ None
  unfolding item_at index_at
  index_broken h = rw (q, h) refl

  module _ (child next : ℕ) (h : encint_at s (p + n) ≡ Some (child, next)) where
    pub index_wide : limits.count ≤ child → item_at limits Index s at ≡ None
    unfolding item_at index_at
    index_wide l = rw (q, h, le-ltb child limits.count l) refl

    pub index_whole : child < limits.count
        → item_at limits Index s at ≡ Some (record { at = at; start = p; len = n; section = 0; offset = 0; size = 0; child = child; next = next })
    unfolding item_at index_at
    index_whole l = rw (q, h, lt-ltb child limits.count l) refl
