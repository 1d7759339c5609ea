-- Counting the numbers below n that pass a test: a list without repetition of such numbers has all of them exactly if it is as long as they are many.
use Rattle.fields.proofs.Base.{◌≡◌, refl, sym, ap, ◌∙◌, ◌≢◌, inl, inr, Bool, true, false, not, ◌||◌, List, [], ◌∷◌, ℕ, zero, suc, ◌+◌, ◌<◌, ◌≤◌, arith, eqb, length, eqb-true, eq-eqb, ne_eqb, eqb-false}
use Rattle.fields.proofs.Tests.{never}
use Rattle.tree.specs.Lists.{In, Distinct, member, every_below}
use Rattle.tree.specs.Walk.{count_below}
use Rattle.tree.proofs.Lists.{on_test, same_test, implied, implied_by, member_in, every_below_lem, below_every}

pub count_bound : (n : ℕ) (p : ℕ → Bool) → count_below n p ≤ n
count_bound zero p = omega arith
count_bound (suc n) p =
    let ih = count_bound n p in
    on_test (p n) (λ e. rw e (omega arith)) (λ e. rw e (omega arith))

count_same : (n : ℕ) (q p : ℕ → Bool) → ((c : ℕ) → c < n → q c ≡ p c) → count_below n q ≡ count_below n p
count_same zero q p f = refl
count_same (suc n) q p f = rw (f n (omega arith), count_same n q p (λ c l. f c (omega arith)))

-- a test of which one of two others holds, never both
pub count_both : (n : ℕ) (p q : ℕ → Bool) → ((c : ℕ) → c < n → q c ≡ not (p c)) → count_below n p + count_below n q ≡ n
count_both zero p q f = refl
count_both (suc n) p q f =
    let ih = count_both n p q (λ c l. f c (omega arith)) in
    on_test (p n) (λ e. rw (f n (omega arith), e) (omega arith)) (λ e. rw (f n (omega arith), e) (omega arith))

-- tests of which one implies the other: no fewer pass the other, and if as many do, the same do
module _ (q p : ℕ → Bool) (f : (c : ℕ) → q c ≡ true → p c ≡ true) where
  count_le : (n : ℕ) → count_below n q ≤ count_below n p
  count_le zero = omega arith
  count_le (suc n) =
      let ih = count_le n in
      on_test (q n)
      (λ e. rw (e, f n e) (omega arith))
      (λ e. on_test (p n) (λ t. rw (e, t) (omega arith)) (λ t. rw (e, t) ih))

  count_all : (n : ℕ) → count_below n q ≡ count_below n p → (c : ℕ) → c < n → p c ≡ true → q c ≡ true
  count_all zero e c l t = absurd (omega arith)
  count_all (suc n) e c l t =
      on_test (q n)
      (λ u.
      let e' : suc (count_below n q) ≡ suc (count_below n p) = rw (u, f n u) at e in
      on_test (eqb c n)
      (λ w. rw (eqb-true c n w) u)
      (λ w. let d : ¬ (c ≡ n) = eqb-false c n w in count_all n (omega arith) c (omega arith) t))
      (λ u. on_test (p n)
      (λ v.
      let e' : count_below n q ≡ suc (count_below n p) = rw (u, v) at e in
      let le = count_le n in
      absurd (omega arith))
      (λ v.
      let e' : count_below n q ≡ count_below n p = rw (u, v) at e in
      on_test (eqb c n)
      (λ w. let i : c ≡ n = eqb-true c n w in never (sym v ∙ (ap p (sym i) ∙ t)))
      (λ w. let d : ¬ (c ≡ n) = eqb-false c n w in count_all n e' c (omega arith) t)))

-- one number more
count_more : (n : ℕ) (q : ℕ → Bool) (x : ℕ) → x < n → q x ≡ false → count_below n (λ c. eqb c x || q c) ≡ suc (count_below n q)
count_more zero q x l e = absurd (omega arith)
count_more (suc n) q x l e =
    on_test (eqb n x)
    (λ u.
    let i : n ≡ x = eqb-true n x u in
    let qn : q n ≡ false = rw i e in
    let rest : count_below n (λ c. eqb c x || q c) ≡ count_below n q
    = count_same n (λ c. eqb c x || q c) q (λ c k. let z : eqb c x ≡ false = ne_eqb c x (omega arith) in rw z) in
    rw (u, qn, rest))
    (λ u.
    let d : ¬ (n ≡ x) = eqb-false n x u in
    let ih : count_below n (λ c. eqb c x || q c) ≡ suc (count_below n q) = count_more n q x (omega arith) e in
    on_test (q n) (λ t. rw (u, t, ih)) (λ t. rw (u, t, ih)))

count_none : (n : ℕ) → count_below n (λ c. false) ≡ 0
count_none zero = refl
count_none (suc n) = count_none n

not_member : (x : ℕ) (l : List ℕ) → ((y : ℕ) → In y l → x ≢ y) → member x l ≡ false
not_member x l h = on_test (member x l) (λ e. absurd (h x (member_in x l e) refl)) (λ e. e)

count_members : (n : ℕ) (l : List ℕ) → Distinct l → ((x : ℕ) → In x l → x < n) → count_below n (λ c. member c l) ≡ length l
count_members n [] d b = count_none n
count_members n (x ∷ xs) d b =
    count_more n (λ c. member c xs) x (b x (inl refl)) (not_member x xs d.0)
    ∙ ap suc (count_members n xs d.1 (λ y m. b y (inr m)))

module _ (n : ℕ) (l : List ℕ) (d : Distinct l) where
  -- to have all is to be as long
  pub counted : (p : ℕ → Bool) → ((x : ℕ) → In x l → (x < n) × (p x ≡ true)) → every_below n (λ c. not (p c) || member c l) ≡ eqb (length l) (count_below n p)
  counted p b =
      let q : ℕ → Bool = λ c. member c l in
      let size : count_below n q ≡ length l = count_members n l d (λ x m. (b x m).0) in
      let qp : (c : ℕ) → q c ≡ true → p c ≡ true = λ c t. (b c (member_in c l t)).1 in
      same_test (every_below n (λ c. not (p c) || member c l)) (eqb (length l) (count_below n p))
      (λ h. eq-eqb (length l) (count_below n p) (sym size ∙ count_same n q p (λ c k.
      same_test (q c) (p c) (qp c) (implied (p c) (q c) (every_below_lem n (λ c. not (p c) || member c l) h c k)))))
      (λ h. below_every n (λ c. not (p c) || member c l) (λ c k.
      implied_by (p c) (member c l) (λ t. count_all q p qp n (size ∙ eqb-true (length l) (count_below n p) h) c k t)))
