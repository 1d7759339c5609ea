-- The names, one behind another: what stands at a place, and how many there are.
use Rattle.fields.proofs.Base.{◌≡◌, refl, ap, ◌∙◌, cond, List, ℕ, zero, suc, ◌+◌, ◌-◌, ◌≤◌, ◌<◌, arith, length, leb-true, lt-ltb, le-ltb, Some, None, none-some, some_pair_parts}
use Rattle.fields.specs.Part.{inside, part}
use Rattle.encint.specs.Encint.{encint_at}
use Rattle.encint.proofs.Reading.{encint_next}
use Rattle.entries.proofs.Laws.{number_passed, test_passed}
use Rattle.batch.specs.Batch.{Names, no_more, cut_off, name_then, asked_at, names_from, names_in}
use Rattle.batch.specs.Step.{counted_as}

-- a name that is there lies inside, behind its place
pub asked_inside : (s : List ℕ) (at n p : ℕ) → asked_at s at ≡ Some (n, p) → (at < p) × (p + n ≤ length s)
unfolding asked_at
asked_inside s at n p e =
    let r = number_passed (encint_at s at) None (λ m q. cond (inside s q m) (Some (m, q)) None) (Some (n, p)) (none-some _) e in
    let m : ℕ = r.0 in
    let q : ℕ = r.1 in
    let t = test_passed (inside s q m) (Some (m, q)) None (Some (n, p)) (none-some _) r.3 in
    let v = some_pair_parts _ _ _ _ t.1 in
    let x : m ≡ n = v.0 in
    let y : q ≡ p = v.1 in
    omega (arith, (encint_next s at r.2).0, leb-true (q + m) (length s) t.0)

-- ---- the names from a place on, f of them at most

module _ (s : List ℕ) where
  pub names_end : (f at : ℕ) → length s ≤ at → names_from s f at ≡ no_more
  unfolding names_from
  names_end zero at h = rw (le-ltb at (length s) h) refl
  names_end (suc f) at h = rw (le-ltb at (length s) h) refl

  pub names_cut : (f at : ℕ) → at < length s → asked_at s at ≡ None → names_from s f at ≡ cut_off
  unfolding names_from
  names_cut zero at h g = rw (lt-ltb at (length s) h) refl
  names_cut (suc f) at h g = rw (lt-ltb at (length s) h, g) refl

  pub names_more : (f at n p : ℕ) → at < length s → length s ≤ at + f → asked_at s at ≡ Some (n, p)
      → names_from s f at ≡ name_then (part s p n) (names_from s (f - 1) (p + n))
  unfolding names_from
  names_more f at n p h l g =
      let z : f ≡ suc (f - 1) = omega arith in
      ap (λ (k : ℕ). names_from s k at) z ∙ rw (lt-ltb at (length s) h, g) refl

-- ---- their count

counted_push : (n : ℕ) (x : List ℕ) (ns : Names) → counted_as n (name_then x ns) ≡ counted_as (n + 1) ns
counted_push n x ns = ap (λ (k : ℕ). cond ns.whole (Some k) None) (let z : n + suc (length ns.list) ≡ n + 1 + length ns.list = omega arith in z)

-- n names were counted, and the rest stands from a place on
pub record Counting (s : List ℕ) (n at : ℕ) : Type 0 where
  pub most : ℕ
  pub low : at ≤ length s
  pub enough : length s ≤ at + most
  pub few : n ≤ at
  pub whole : counted_as n (names_from s most at) ≡ counted_as 0 (names_in s)

pub counting_start : (s : List ℕ) → Counting s 0 0
counting_start s = record { most = length s; low = omega arith; enough = omega arith; few = omega arith; whole = refl }

module _ (s : List ℕ) (n at : ℕ) (c : Counting s n at) where
  pub counting_end : length s ≤ at → Some n ≡ counted_as 0 (names_in s)
  counting_end h =
      let z : n ≡ n + 0 = omega arith in
      let e : counted_as n (names_from s c.most at) ≡ counted_as n no_more = ap (counted_as n) (names_end s c.most at h) in
      ap Some z ∙ (rw e at c.whole)

  pub counting_cut : at < length s → asked_at s at ≡ None → None ≡ counted_as 0 (names_in s)
  counting_cut h g =
      let e : counted_as n (names_from s c.most at) ≡ counted_as n cut_off = ap (counted_as n) (names_cut s c.most at h g) in
      rw e at c.whole

  pub counting_more : (k p : ℕ) → at < length s → asked_at s at ≡ Some (k, p) → Counting s (n + 1) (p + k)
  counting_more k p h g =
      let i = asked_inside s at k p g in
      let m = c.enough in
      let f = c.few in
      let e = ap (counted_as n) (names_more s c.most at k p h c.enough g) ∙ counted_push n (part s p k) (names_from s (c.most - 1) (p + k)) in
      record {
        most = c.most - 1;
        low = i.1;
        enough = omega arith;
        few = omega arith;
        whole = rw e at c.whole;
      }
