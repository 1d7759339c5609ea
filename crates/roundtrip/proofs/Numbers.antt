-- Numbers in a row, and members of lists of numbers.
use Rattle.fields.proofs.Base.{◌≡◌, inl, inr, Bool, true, not, ◌||◌, List, [], ◌∷◌, ℕ, zero, suc, ◌+◌, ◌≤◌, ◌<◌, arith, eqb, eqb-true, eqb-false, eq-eqb}
use Rattle.tree.specs.Lists.{In, member, every_below}
use Rattle.tree.proofs.Lists.{on_test, implied_by, below_every}

-- the numbers from c on, n of them
unfoldable pub numbers : ℕ → ℕ → List ℕ
numbers c zero = []
numbers c (suc n) = c ∷ numbers (c + 1) n

pub in_numbers : (c n x : ℕ) → c ≤ x → x < c + n → In x (numbers c n)
unfolding numbers
in_numbers c zero x a b = absurd (omega arith)
in_numbers c (suc n) x a b =
    on_test (eqb x c)
    (λ e. inl (eqb-true x c e))
    (λ e. let d : ¬ (x ≡ c) = eqb-false x c e in inr (in_numbers (c + 1) n x (omega arith) (omega arith)))

-- ---- tests of members

in_member : (x : ℕ) (l : List ℕ) → In x l → member x l ≡ true
in_member x [] m = elim m [ ]
in_member x (y ∷ ys) (inl e) = rw (eq-eqb x y e)
in_member x (y ∷ ys) (inr m) = on_test (eqb x y) (λ e. rw e) (λ e. rw e (in_member x ys m))

-- every number below n that passes a test is in the list
pub all_members : (n : ℕ) (p : ℕ → Bool) (l : List ℕ) → ((c : ℕ) → c < n → p c ≡ true → In c l) → every_below n (λ c. not (p c) || member c l) ≡ true
all_members n p l h =
    below_every n (λ c. not (p c) || member c l) (λ c k. implied_by (p c) (member c l) (λ t. in_member c l (h c k t)))
