-- Things whose names rise: the first and the others; any of them; some of them, without those in front or behind.
use Rattle.fields.proofs.Base.{◌≡◌, refl, List, [], ◌∷◌, ◌++◌, true, ℕ, zero, suc, ◌<◌, arith, length, get_or, take, drop}
use Rattle.fields.proofs.Tests.{and_both}
use Rattle.names.specs.Names.{below}
use Rattle.names.proofs.Laws.{below_trans}
use Rattle.entries.specs.Rising.{rising}

module _ {A : Type 0} (name : A → List ℕ) where
  pub rising_more : (last : List ℕ) (e : A) (es : List A) → rising name last (e ∷ es) ≡ true → (below last (name e) ≡ true) × (rising name (name e) es ≡ true)
  unfolding rising
  rising_more last e es h = and_both (below last (name e)) (rising name (name e) es) h

  pub more_rising : (last : List ℕ) (e : A) (es : List A) → below last (name e) ≡ true → rising name (name e) es ≡ true → rising name last (e ∷ es) ≡ true
  unfolding rising
  more_rising last e es b r = rw (b, r)

  -- what rises behind e name rises behind every name before it
  pub rising_before : (x y : List ℕ) (es : List A) → below x y ≡ true → rising name y es ≡ true → rising name x es ≡ true
  unfolding rising
  rising_before x y [] h r = refl
  rising_before x y (e ∷ es) h r = let m = rising_more y e es r in more_rising x e es (below_trans x y (name e) h m.0) m.1

  -- `last` comes before the name of each
  pub rising_at : (j : ℕ) (last : List ℕ) (es : List A) (d : A) → rising name last es ≡ true → j < length es → below last (name (get_or es j d)) ≡ true
  rising_at j last [] d r h = absurd (omega arith)
  rising_at zero last (e ∷ es) d r h = (rising_more last e es r).0
  rising_at (suc j) last (e ∷ es) d r h = let m = rising_more last e es r in rising_at j last es d (rising_before last (name e) es m.0 m.1) (omega arith)

  -- those behind some of them, and those in front
  pub rising_right : (last : List ℕ) (es ds : List A) → rising name last (es ++ ds) ≡ true → rising name last ds ≡ true
  rising_right last [] ds r = r
  rising_right last (e ∷ es) ds r = let m = rising_more last e (es ++ ds) r in rising_before last (name e) ds m.0 (rising_right (name e) es ds m.1)

  pub rising_left : (last : List ℕ) (es ds : List A) → rising name last (es ++ ds) ≡ true → rising name last es ≡ true
  unfolding rising
  rising_left last [] ds r = refl
  rising_left last (e ∷ es) ds r = let m = rising_more last e (es ++ ds) r in more_rising last e es m.0 (rising_left (name e) es ds m.1)

  pub rising_drop : (j : ℕ) (last : List ℕ) (es : List A) → rising name last es ≡ true → rising name last (drop j es) ≡ true
  unfolding rising
  rising_drop zero last es r = r
  rising_drop (suc j) last [] r = refl
  rising_drop (suc j) last (e ∷ es) r = let m = rising_more last e es r in rising_drop j last es (rising_before last (name e) es m.0 m.1)

  pub rising_take : (j : ℕ) (last : List ℕ) (es : List A) → rising name last es ≡ true → rising name last (take j es) ≡ true
  unfolding rising
  rising_take zero last es r = refl
  rising_take (suc j) last [] r = refl
  rising_take (suc j) last (e ∷ es) r = let m = rising_more last e es r in more_rising last e (take j es) m.0 (rising_take j (name e) es m.1)
