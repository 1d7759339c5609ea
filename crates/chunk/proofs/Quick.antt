-- Quick words: an entry's index by words and entries past a word; the spacing that the code uses for a high density; each word on its own.
use Rattle.fields.proofs.Base.{◌≡◌, refl, sym, ap, ◌∙◌, List, [], ◌∷◌, true, ℕ, zero, suc, ◌+◌, ◌*◌, ◌/◌, ◌%◌, ◌≤◌, ◌<◌, min, arith, dec_lt, ℕ_discrete, add-zero, div-eq_of_lt, mod-eq_of_lt, le-div_iff_mul-le, pow-le-pow_right, eqb, lit<, length, get_or, eqb-true, eq-eqb, ne_eqb, lt-ltb, le-ltb}
use mathlib.Core.Bool.{or-true}
use native.Mathlib.Nat.{mul-add-div_right, mul-add-mod_self_right, le_trans, div-mul-le_self, mul-pos, mul-div_cancel, mul-mod_left}
use Rattle.fields.proofs.Tests.{and_both}
use Rattle.entries.specs.Entry.{Entry}
use Rattle.chunk.specs.Chunk.{quick, quick_at}
use Rattle.chunk_fields.specs.ChunkFields.{quick_word, spacing_of}
use Rattle.chunk.specs.Marks.{mark_right}

-- ---- an index as word * n + past

module _ (n w p : ℕ) (h : p < n) where
  pub mark_word : (w * n + p) / n ≡ w
  mark_word = mul-add-div_right (omega arith) w p ∙ ap (λ (x : ℕ). w + x) (div-eq_of_lt h) ∙ add-zero w

  mark_past : (w * n + p) % n ≡ p
  mark_past = mul-add-mod_self_right w n p ∙ mod-eq_of_lt h

  -- the first entry has none
  mark_first : p ≤ 0 → eqb (w * n + p) 0 ≡ eqb w 0
  mark_first l =
      elim (ℕ_discrete w 0) [
        | yes e ↦ rw (eq-eqb w 0 e, eq-eqb (w * n + p) 0 (omega (arith, ap (λ (x : ℕ). x * n) e)))
        | no e ↦ rw (ne_eqb w 0 e, ne_eqb (w * n + p) 0 (omega (arith, mul-pos {m = w} {n = n} (omega arith) (omega arith))))
      ]

  pub mark_right_lem : (s : List ℕ) (first at : ℕ) → quick_at s n first (w * n + p) at ≡ mark_right s first w p at
  unfolding quick_at
  mark_right_lem s first at =
      elim (dec_lt 0 p) [
        | yes l ↦ rw (mark_word, mark_past, lt-ltb 0 p l) (or-true (eqb (w * n + p) 0))
        | no l ↦ rw (mark_word, mark_past, le-ltb 0 p (omega arith)) (rw (mark_first (omega arith)))
      ]

-- ---- two spacings that divide each index of 16 bits alike

pub record Alike (n m : ℕ) : Type 0 where
  pub words : (i : ℕ) → i < 65536 → i / n ≡ i / m
  pub rests : (i : ℕ) → i < 65536 → i % n ≡ i % m

module _ (n m : ℕ) (same : Alike n m) (s : List ℕ) (first : ℕ) where
  pub quick_alike : (i : ℕ) (es : List Entry) → i + length es ≤ 65536 → quick s n first i es ≡ quick s m first i es
  unfolding quick quick_at
  quick_alike i [] h = refl
  quick_alike i (e ∷ es) h =
      rw (same.words i (omega arith), same.rests i (omega arith), quick_alike (i + 1) es (omega arith))

-- above every index, a spacing leaves no entry but the first with a whole word
far : (n i : ℕ) → 65536 ≤ n → i < 65536 → (i / n ≡ 0) × (i % n ≡ i)
far n i h l = (div-eq_of_lt (omega arith), mod-eq_of_lt (omega arith))

pub capped : (density : ℕ) → Alike (spacing_of (min density 16)) (spacing_of density)
capped density =
    elim (dec_lt density 16) [
      | yes h ↦ (let e : min density 16 ≡ density = omega arith in rw e (record { words = λ i l. refl; rests = λ i l. refl }))
      | no h ↦
          (let e : min density 16 ≡ 16 = omega arith in
          let u : 65536 ≤ spacing_of density = omega (arith, pow-le-pow_right {n = 2} (lit< tt) {i = 16} {j = density} (omega arith)) in
          rw e (record {
            words = λ i l. (far 65537 i (omega arith) l).0 ∙ sym (far (spacing_of density) i u l).0;
            rests = λ i l. (far 65537 i (omega arith) l).1 ∙ sym (far (spacing_of density) i u l).1;
          }))
    ]

-- ---- a quotient grows with its number

pub div_below : (a b n : ℕ) → 0 < n → a ≤ b → a / n ≤ b / n
div_below a b n h l = (le-div_iff_mul-le h).1 (le_trans (div-mul-le_self a n) l)

-- ---- the quick words one by one: word k is the distance of entry k * n from the first

module _ (s : List ℕ) (n first : ℕ) (d : Entry) where
  each : (es : List Entry) (i j : ℕ) → quick s n first i es ≡ true → j < length es → quick_at s n first (i + j) (get_or es j d).at ≡ true
  unfolding quick
  each [] i j h l = absurd (omega arith)
  each (e ∷ es) i zero h l = rw add-zero (and_both (quick_at s n first i e.at) (quick s n first (i + 1) es) h).0
  each (e ∷ es) i (suc j) h l =
      let q = each es (i + 1) j (and_both (quick_at s n first i e.at) (quick s n first (i + 1) es) h).1 (omega arith) in
      let z : i + suc j ≡ i + 1 + j = omega arith in
      rw z q

  pub word : (es : List Entry) (k : ℕ) → quick s n first 0 es ≡ true → 0 < n → 0 < k → k * n < length es → first + quick_word s k ≡ (get_or es (k * n) d).at
  unfolding quick_at
  word es k h p q l =
      let z : 0 + k * n ≡ k * n = omega arith in
      let pos = mul-pos q p in
      let ne : k * n ≡ 0 → ⊥ = omega arith in
      let m : k * n % n ≡ 0 = mul-mod_left k n in
      let e = each es 0 (k * n) h l in
      eqb-true (first + quick_word s k) (get_or es (k * n) d).at
      (simp (z, ne_eqb (k * n) 0 ne, m, mul-div_cancel k p) at e)
