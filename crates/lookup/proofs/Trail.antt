-- The trail is written on the way back: a chunk's number goes in front of those that stand behind it already.
use Rattle.fields.proofs.Base.{◌≡◌, refl, ap, ◌∙◌, Bool, true, false, cond, List, [], ◌∷◌, ◌++◌, ℕ, suc, ◌+◌, ◌≤◌, ◌<◌, add-one, arith, length, set, drop, sets, sets-eq, Result}
use lib.Seq.{set_comm}
use Rattle.lookup.specs.Lookup.{is_refusal, unless}
use Rattle.lookup.specs.declared.Answer.{Answer}
use Rattle.refusals.specs.declared.Refusal.{Refusal}

sets_behind : (t : List ℕ) (i j c : ℕ) (cs : List ℕ) → i < j → set (sets t j cs) i c ≡ sets (set t i c) j cs
sets_behind t i j c [] h = refl
sets_behind t i j c (x ∷ cs) h =
    sets_behind (set t j x) i (suc j) c cs (omega arith)
    ∙ ap (λ (u : List ℕ). sets u (suc j) cs) (set_comm t j i x c (λ e. omega arith))

pub in_front : (t : List ℕ) (i c : ℕ) (cs : List ℕ) → set (sets t (i + 1) cs) i c ≡ sets t i (c ∷ cs)
in_front t i c cs = rw add-one (sets_behind t i (suc i) c cs (omega arith))

-- `t` is the trail as it was, `u` as the rest of the descent left it, `v` with chunk c at its place
pub unwound : (r : Result Answer Refusal) (t u v : List ℕ) (i c : ℕ) (cs : List ℕ) → u ≡ unless r t (sets t (i + 1) cs) → v ≡ unless r u (set u i c)
    → v ≡ unless r t (sets t i (c ∷ cs))
unwound r t u v i c cs = go (is_refusal r)
  where
    go : (b : Bool) → u ≡ cond b t (sets t (i + 1) cs) → v ≡ cond b u (set u i c) → v ≡ cond b t (sets t i (c ∷ cs))
    go true p q = q ∙ p
    go false p q = q ∙ (ap (λ (w : List ℕ). set w i c) p ∙ in_front t i c cs)

-- the whole descent stands at the front
pub sets_front : (cs t : List ℕ) → length cs ≤ length t → sets t 0 cs ≡ cs ++ drop (length cs) t
sets_front cs t h =
    let z : 0 + length cs ≡ length cs = omega arith in
    sets-eq cs t 0 (omega arith) ∙ ap (λ (k : ℕ). cs ++ drop k t) z
