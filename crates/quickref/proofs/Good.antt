-- On a chunk that passes its check, entry i by its quick words is entry i of its entries.
--     nth_good       entry i
--     last_good      the last entry
use Rattle.fields.proofs.Base.{◌≡◌, refl, sym, ap, ◌∙◌, List, [], ◌∷◌, true, ℕ, zero, suc, ◌+◌, ◌-◌, ◌*◌, ◌/◌, ◌%◌, ◌≤◌, ◌<◌, arith, dec_lt, div-add-mod', length, drop, lt-ltb, le-ltb}
use Rattle.entries.specs.declared.Limits.{Limits}
use Rattle.entries.specs.declared.Kind.{Kind}
use Rattle.entries.specs.Entry.{Entry, entry_of}
use Rattle.chunk.specs.Chunk.{all, entries_at, parsed, entries_in, is_kind}
use Rattle.chunk_fields.specs.ChunkFields.{entry_count, tail_length, spacing_of}
use Rattle.chunk.proofs.Accepted.{Accepted, chunk_accepted, entries_more}
use Rattle.quickref.specs.Quickref.{absent, found, nth, final, sought_of, after_at, group_at, nth_in, last_in}
use Rattle.quickref.proofs.Groups.{group_entries, entries_counted}

-- ---- entry i

pub nth_past : (i : ℕ) (es : List Entry) → length es ≤ i → nth i es ≡ absent
unfolding nth
nth_past i [] h = refl
nth_past zero (e ∷ es) h = absurd (omega arith)
nth_past (suc i) (e ∷ es) h = nth_past i es (omega arith)

nth_drop : (m j : ℕ) (es : List Entry) → nth j (drop m es) ≡ nth (m + j) es
unfolding nth
nth_drop zero j es = ap (λ (x : ℕ). nth x es) (omega arith)
nth_drop (suc m) j [] = refl
nth_drop (suc m) j (e ∷ es) = let z : suc (m + j) ≡ suc m + j = omega arith in nth_drop m j es ∙ ap (λ (x : ℕ). nth x (e ∷ es)) z

after_all : (limits : Limits) (k : Kind) (s : List ℕ) (end n j at : ℕ) (es : List Entry) → j < n → entries_at limits k s end n at ≡ all es
    → sought_of s (after_at limits k s j at) ≡ nth j es
unfolding after_at nth
after_all limits k s end zero j at es h e = absurd (omega arith)
after_all limits k s end (suc n) zero at es h e =
    let m = entries_more limits k s end n at es e in
    let here : sought_of s (after_at limits k s 0 at) ≡ nth 0 (entry_of s m.0 ∷ m.1) = rw m.2 refl in
    here ∙ ap (nth 0) (sym m.3)
after_all limits k s end (suc n) (suc j) at es h e =
    let m = entries_more limits k s end n at es e in
    let here : sought_of s (after_at limits k s (suc j) at) ≡ nth (suc j) (entry_of s m.0 ∷ m.1) =
    rw m.2 (after_all limits k s end n j m.0.next m.1 (omega arith) m.4) in
    here ∙ ap (nth (suc j)) (sym m.3)

module _ (limits : Limits) (k : Kind) (s : List ℕ) (es : List Entry) (good : Accepted limits k s es) where
  abbrev n : ℕ
  n = spacing_of limits.density

  nth_inside : (i : ℕ) → i < entry_count s → sought_of s (nth_in limits k s i) ≡ nth i es
  unfolding nth_in
  nth_inside i l =
      let g = i / n in
      let j = i % n in
      let i-is : g * n + j ≡ i = div-add-mod' i n in
      let low : g * n < entry_count s = omega arith in
      let f = group_entries limits k s es good g low in
      rw (lt-ltb _ _ l)
      (after_all limits k s (4096 - tail_length s) (entry_count s - g * n) j (group_at k s g) (drop (g * n) es) (omega arith) f
      ∙ nth_drop (g * n) j es ∙ ap (λ (x : ℕ). nth x es) i-is)

  nth_outside : (i : ℕ) → entry_count s ≤ i → sought_of s (nth_in limits k s i) ≡ nth i es
  unfolding nth_in
  nth_outside i l =
      let c = entries_counted limits k s es good in
      rw (le-ltb _ _ l) (sym (nth_past i es (omega arith)))

  nth_accepted : (i : ℕ) → sought_of s (nth_in limits k s i) ≡ nth i es
  nth_accepted i = elim (dec_lt i (entry_count s)) [ yes l ↦ nth_inside i l | no l ↦ nth_outside i (omega arith) ]

-- ---- the last entry

nth_final : (e : Entry) (es : List Entry) → nth (length es) (e ∷ es) ≡ final (found e) es
unfolding nth final
nth_final e [] = refl
nth_final e (d ∷ es) = nth_final d es

pub nth_last : (es : List Entry) → nth (length es - 1) es ≡ final absent es
unfolding nth final
nth_last [] = refl
nth_last (e ∷ es) = let z : suc (length es) - 1 ≡ length es = omega arith in ap (λ (x : ℕ). nth x (e ∷ es)) z ∙ nth_final e es

-- ---- a chunk that passes its check

module _ (limits : Limits) (s : List ℕ) where
  pub nth_good : (k : Kind) (i : ℕ) → is_kind k (parsed limits s) ≡ true → sought_of s (nth_in limits k s i) ≡ nth i (entries_in (parsed limits s))
  nth_good k i h = nth_accepted limits k s (entries_in (parsed limits s)) (chunk_accepted limits k s h) i

  pub last_good : (k : Kind) → is_kind k (parsed limits s) ≡ true → sought_of s (last_in limits k s) ≡ final absent (entries_in (parsed limits s))
  last_good k h =
      let es = entries_in (parsed limits s) in
      let g = chunk_accepted limits k s h in
      let c = entries_counted limits k s es g in
      nth_good k (entry_count s - 1) h ∙ ap (λ (x : ℕ). nth (x - 1) es) (sym c) ∙ nth_last es
