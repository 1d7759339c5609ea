-- Halving a run of groups, whatever `above` says of a group.
--     halved_right   the group that is left is the first or not above, and the last or has one behind it that is above
--     halved_enough, halvings_enough  the bound on the turns is no bound on what is found
--     halvings_few   with 2 ^ h at least the number of groups, h comparisons are enough
use Rattle.fields.proofs.Base.{◌≡◌, refl, sym, ap, ap₂, ◌∙◌, ◌⊎◌, inr, Bool, true, false, cond, ℕ, zero, suc, ◌+◌, ◌-◌, ◌*◌, ◌^◌, ◌≤◌, ◌<◌, arith, dec_lt, pow-suc, lt-ltb, le-ltb}
use Rattle.quickref.proofs.Steps.{some_left}
use Rattle.halving.specs.Halving.{middle, halved}
use Rattle.halving.specs.Halvings.{halvings}

module _ (above : ℕ → Bool) where
  -- ---- one turn

  pub halved_one : (i lo hi : ℕ) → hi ≤ lo → halved above i lo hi ≡ lo
  unfolding halved
  halved_one zero lo hi h = refl
  halved_one (suc i) lo hi h = rw (le-ltb lo hi h) refl

  pub halvings_one : (i lo hi : ℕ) → hi ≤ lo → halvings above i lo hi ≡ 0
  unfolding halvings
  halvings_one zero lo hi h = refl
  halvings_one (suc i) lo hi h = rw (le-ltb lo hi h) refl

  module _ (i lo hi : ℕ) (h : lo < hi) (f : hi - lo ≤ i) where
    pub halved_lower : above (middle lo hi) ≡ true → halved above i lo hi ≡ halved above (i - 1) lo (middle lo hi - 1)
    unfolding halved
    halved_lower m = some_left (λ j. halved above j lo hi) i (omega arith) ∙ rw (lt-ltb lo hi h, m) refl

    pub halved_upper : above (middle lo hi) ≡ false → halved above i lo hi ≡ halved above (i - 1) (middle lo hi) hi
    unfolding halved
    halved_upper m = some_left (λ j. halved above j lo hi) i (omega arith) ∙ rw (lt-ltb lo hi h, m) refl

    pub halvings_lower : above (middle lo hi) ≡ true → halvings above i lo hi ≡ suc (halvings above (i - 1) lo (middle lo hi - 1))
    unfolding halvings
    halvings_lower m = some_left (λ j. halvings above j lo hi) i (omega arith) ∙ rw (lt-ltb lo hi h, m) refl

    pub halvings_upper : above (middle lo hi) ≡ false → halvings above i lo hi ≡ suc (halvings above (i - 1) (middle lo hi) hi)
    unfolding halvings
    halvings_upper m = some_left (λ j. halvings above j lo hi) i (omega arith) ∙ rw (lt-ltb lo hi h, m) refl

  -- ---- how many turns

  one_more : (t : Bool) {a b n : ℕ} → a ≤ n → b ≤ n → suc (cond t a b) ≤ suc n
  one_more true p q = omega arith
  one_more false p q = omega arith

  pub halvings_fuel : (i lo hi : ℕ) → halvings above i lo hi ≤ i
  unfolding halvings
  halvings_fuel zero lo hi = omega arith
  halvings_fuel (suc i) lo hi =
      elim (dec_lt lo hi) [
        | yes l ↦ rw (lt-ltb lo hi l) (one_more (above (middle lo hi)) (halvings_fuel i lo (middle lo hi - 1)) (halvings_fuel i (middle lo hi) hi))
        | no l ↦ rw (le-ltb lo hi (omega arith)) (omega arith)
      ]

  -- each turn leaves at most the upper half
  pub halvings_few : (i lo hi h : ℕ) → hi - lo + 1 ≤ 2 ^ h → halvings above i lo hi ≤ h
  unfolding halvings
  halvings_few zero lo hi h p = omega arith
  halvings_few (suc i) lo hi zero p = let z : hi ≤ lo = omega arith in rw (le-ltb lo hi z) (omega arith)
  halvings_few (suc i) lo hi (suc h) p =
      let q : hi - lo + 1 ≤ 2 ^ h * 2 = rw pow-suc at p in
      elim (dec_lt lo hi) [
        | yes l ↦ rw (lt-ltb lo hi l)
            (one_more (above (middle lo hi)) (halvings_few i lo (middle lo hi - 1) h (omega arith)) (halvings_few i (middle lo hi) hi h (omega arith)))
        | no l ↦ rw (le-ltb lo hi (omega arith)) (omega arith)
      ]

  -- ---- as many turns as there are groups but one are enough: more would change nothing

  pub halved_enough : (i j lo hi : ℕ) → hi - lo ≤ i → hi - lo ≤ j → halved above i lo hi ≡ halved above j lo hi
  unfolding halved
  halved_enough zero j lo hi p q = sym (halved_one j lo hi (omega arith))
  halved_enough (suc i) zero lo hi p q = halved_one (suc i) lo hi (omega arith)
  halved_enough (suc i) (suc j) lo hi p q =
      elim (dec_lt lo hi) [
        | yes l ↦ rw (lt-ltb lo hi l) (ap₂ (λ (x y : ℕ). cond (above (middle lo hi)) x y)
            (halved_enough i j lo (middle lo hi - 1) (omega arith) (omega arith)) (halved_enough i j (middle lo hi) hi (omega arith) (omega arith)))
        | no l ↦ rw (le-ltb lo hi (omega arith)) refl
      ]

  pub halvings_enough : (i j lo hi : ℕ) → hi - lo ≤ i → hi - lo ≤ j → halvings above i lo hi ≡ halvings above j lo hi
  unfolding halvings
  halvings_enough zero j lo hi p q = sym (halvings_one j lo hi (omega arith))
  halvings_enough (suc i) zero lo hi p q = halvings_one (suc i) lo hi (omega arith)
  halvings_enough (suc i) (suc j) lo hi p q =
      elim (dec_lt lo hi) [
        | yes l ↦ rw (lt-ltb lo hi l) (ap₂ (λ (x y : ℕ). suc (cond (above (middle lo hi)) x y))
            (halvings_enough i j lo (middle lo hi - 1) (omega arith) (omega arith)) (halvings_enough i j (middle lo hi) hi (omega arith) (omega arith)))
        | no l ↦ rw (le-ltb lo hi (omega arith)) refl
      ]

  -- ---- the group that is left

  abbrev pub Lower : ℕ → Type 0
  Lower g = (g ≡ 0) ⊎ (above g ≡ false)

  abbrev pub Upper : ℕ → ℕ → Type 0
  Upper last g = (g ≡ last) ⊎ (above (g + 1) ≡ true)

  abbrev Right : ℕ → ℕ → Type 0
  Right last g = (g ≤ last) × Lower g × Upper last g

  pub halved_right : (last i lo hi : ℕ) → lo ≤ hi → hi ≤ last → hi - lo ≤ i → Lower lo → Upper last hi → Right last (halved above i lo hi)
  unfolding halved
  halved_right last zero lo hi o b f l u = let z : hi ≡ lo = omega arith in (omega arith, l, rw z at u)
  halved_right last (suc i) lo hi o b f l u =
      elim (dec_lt lo hi) [
        | yes h ↦ rw (lt-ltb lo hi h) (turn (above (middle lo hi)) refl
            (λ a. halved_right last i lo (middle lo hi - 1) (omega arith) (omega arith) (omega arith) l
            (inr (let z : middle lo hi - 1 + 1 ≡ middle lo hi = omega arith in ap above z ∙ a)))
            (λ a. halved_right last i (middle lo hi) hi (omega arith) b (omega arith) (inr a) u))
        | no h ↦ rw (le-ltb lo hi (omega arith)) (let z : hi ≡ lo = omega arith in (omega arith, l, rw z at u))
      ]
    where
      turn : (t : Bool) → above (middle lo hi) ≡ t → {a b : ℕ} → (above (middle lo hi) ≡ true → Right last a) → (above (middle lo hi) ≡ false → Right last b)
          → Right last (cond t a b)
      turn true e x y = x e
      turn false e x y = y e

-- ---- two that say the same of each group up to the last

module _ (a b : ℕ → Bool) (last : ℕ) (same : (g : ℕ) → g ≤ last → a g ≡ b g) where
  pub halved_same : (i lo hi : ℕ) → hi ≤ last → halved a i lo hi ≡ halved b i lo hi
  unfolding halved
  halved_same zero lo hi h = refl
  halved_same (suc i) lo hi h =
      elim (dec_lt lo hi) [
        | yes l ↦ rw (lt-ltb lo hi l, same (middle lo hi) (omega arith), halved_same i lo (middle lo hi - 1) (omega arith), halved_same i (middle lo hi) hi h) refl
        | no l ↦ rw (le-ltb lo hi (omega arith)) refl
      ]

  pub halvings_same : (i lo hi : ℕ) → hi ≤ last → halvings a i lo hi ≡ halvings b i lo hi
  unfolding halvings
  halvings_same zero lo hi h = refl
  halvings_same (suc i) lo hi h =
      elim (dec_lt lo hi) [
        | yes l ↦ rw (lt-ltb lo hi l, same (middle lo hi) (omega arith), halvings_same i lo (middle lo hi - 1) (omega arith), halvings_same i (middle lo hi) hi h) refl
        | no l ↦ rw (le-ltb lo hi (omega arith)) refl
      ]
