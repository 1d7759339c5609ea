-- Laws of tests: when two are one, and what a test that holds tells of its parts.
use Rattle.fields.proofs.Base.{◌≡◌, refl, sym, Bool, true, false, cond, ◌&&◌, false≢true, ℕ, ℕ_discrete, eqb, eq-eqb, ne_eqb}

-- a test that fails does not hold
pub never {ℓ} : {A : Type ℓ} → false ≡ true → A
never e = absurd (false≢true e)

-- both hold
pub and_both : (a b : Bool) → (a && b) ≡ true → (a ≡ true) × (b ≡ true)
and_both true b e = (refl, e)
and_both false b e = never e

pub and_yes : (a : Bool) → (a && true) ≡ a
and_yes true = refl
and_yes false = refl

pub and_no : (a : Bool) → (a && false) ≡ false
and_no true = refl
and_no false = refl

-- the same by either choice
pub cond_same {ℓ} : {A : Type ℓ} (t : Bool) (x : A) → cond t x x ≡ x
cond_same true x = refl
cond_same false x = refl

pub eqb_flip : (a b : ℕ) → eqb a b ≡ eqb b a
eqb_flip a b =
    elim (ℕ_discrete a b) [
      | yes h ↦ rw (eq-eqb a b h, eq-eqb b a (sym h))
      | no h ↦ rw (ne_eqb a b h, ne_eqb b a (λ e. h (sym e)))
    ]
