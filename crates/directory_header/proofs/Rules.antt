-- What each rule on the directory's header tells where it holds.
use Rattle.fields.proofs.Base.{◌≡◌, refl, Bool, true, false, cond, not, ◌&&◌, ◌||◌, ℕ, ◌+◌, ◌*◌, ◌≤◌, ◌<◌, ltb, leb, eqb, leb-true, ltb-true, eqb-true, eqb-false, not-true}
use Rattle.fields.proofs.Tests.{and_both}
use Rattle.refusals.specs.Refusals.{no_chunk}
use Rattle.directory_header.specs.DirectoryHeader.{within, bounds_right, filled, ends_right, root_right, directory_right}
use Rattle.directory_header.specs.declared.DirectoryFields.{DirectoryFields}

-- ---- refusal 7

within_told : (low high x : ℕ) → within low high x ≡ true → (low ≤ x) × (x ≤ high)
within_told low high x e =
    let t = and_both (leb low x) (leb x high) e in
    (leb-true low x t.0, leb-true x high t.1)

pub record Bounds (f : DirectoryFields) : Type 0 where
  pub density : f.density ≤ 7
  pub depth_low : 1 ≤ f.depth
  pub depth_high : f.depth ≤ 5
  pub count_low : 1 ≤ f.count
  pub count_high : f.count ≤ 4096

pub bounds_told : (f : DirectoryFields) → bounds_right f ≡ true → Bounds f
unfolding bounds_right
bounds_told f e =
    let a : Bool = eqb f.size 4096 in
    let b : Bool = leb f.density 7 in
    let p : Bool = within 1 5 f.depth in
    let t = and_both (a && b && p) (within 1 4096 f.count) e in
    let u = and_both (a && b) p t.0 in
    let depth = within_told 1 5 f.depth u.1 in
    let count = within_told 1 4096 f.count t.1 in
    record {
      density = leb-true f.density 7 (and_both a b u.0).1;
      depth_low = depth.0;
      depth_high = depth.1;
      count_low = count.0;
      count_high = count.1;
    }

pub ends_told : (f : DirectoryFields) → ends_right f ≡ true → (f.first < f.count) × (f.last < f.count)
unfolding ends_right
ends_told f e =
    let t = and_both (ltb f.first f.count) (ltb f.last f.count) e in
    (ltb-true f.first f.count t.0, ltb-true f.last f.count t.1)

-- the depth and the count are 1 together; else the root is a chunk
pub record Root (depth count root : ℕ) : Type 0 where
  pub flat : depth ≡ 1 → count ≡ 1
  pub single : count ≡ 1 → depth ≡ 1
  pub chunk : (depth ≡ 1 → ⊥) → root < count

pub root_told : (f : DirectoryFields) → root_right f ≡ true → Root f.depth f.count f.root
unfolding root_right
root_told f = go (eqb f.depth 1) refl
  where
    one : Bool
    one = eqb f.count 1

    other : Bool
    other = eqb f.root no_chunk || eqb f.root 0

    below : Bool
    below = ltb f.root f.count

    go : (t : Bool) → eqb f.depth 1 ≡ t → cond t (one && other) (not one && below) ≡ true → Root f.depth f.count f.root
    go true p e =
        let c = eqb-true f.count 1 (and_both one other e).0 in
        let y = eqb-true f.depth 1 p in
        record { flat = λ _. c; single = λ _. y; chunk = λ n. absurd (n y) }
    go false p e =
        let u = and_both (not one) below e in
        let n = eqb-false f.count 1 (not-true one u.0) in
        let m = eqb-false f.depth 1 p in
        record { flat = λ q. absurd (m q); single = λ q. absurd (n q); chunk = λ _. ltb-true f.root f.count u.1 }

pub record Numbers (f : DirectoryFields) (n : ℕ) : Type 0 where
  pub bounds : Bounds f
  pub all : n ≡ 84 + 4096 * f.count
  pub first : f.first < f.count
  pub last : f.last < f.count
  pub root : Root f.depth f.count f.root

pub directory_told : (f : DirectoryFields) (n : ℕ) → directory_right f n ≡ true → Numbers f n
unfolding directory_right
directory_told f n e =
    let t = and_both (bounds_right f && filled f n && ends_right f) (root_right f) e in
    let u = and_both (bounds_right f && filled f n) (ends_right f) t.0 in
    let v = and_both (bounds_right f) (filled f n) u.0 in
    let ends = ends_told f u.1 in
    record {
      bounds = bounds_told f v.0;
      all = eqb-true n (84 + 4096 * f.count) v.1;
      first = ends.0;
      last = ends.1;
      root = root_told f t.1;
    }
