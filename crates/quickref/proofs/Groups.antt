-- Groups of entries in a chunk that passes its check: where each begins, and the entries from there on.
--     group_entries  the entries from a group on
use Rattle.fields.proofs.Base.{◌≡◌, refl, sym, ap, ap₂, ◌∙◌, List, [], ◌∷◌, ℕ, zero, suc, ◌-◌, ◌*◌, ◌<◌, arith, ℕ_discrete, length, get_or, drop, eq-eqb, ne_eqb}
use Rattle.entries.specs.declared.Limits.{Limits}
use Rattle.entries.proofs.Laws.{item_inside}
use Rattle.entries.specs.declared.Kind.{Kind}
use Rattle.entries.specs.Entry.{Entry}
use Rattle.chunk.specs.Chunk.{all, entries_at}
use Rattle.chunk_fields.specs.ChunkFields.{first_place, entry_count, tail_length, spacing_of}
use Rattle.chunk.proofs.Accepted.{Accepted, entries_more, entries_count}
use Rattle.chunk.proofs.Quick.{word}
use Rattle.quickref.specs.Quickref.{nth, name_in, group_at}

-- some entry, for places past the last
abbrev pub other : Entry
other = record { at = 0; start = 0; name = []; section = 0; offset = 0; size = 0; child = 0; next = 0 }

pub nth_name : (j : ℕ) (es : List Entry) → name_in (nth j es) ≡ (get_or es j other).name
unfolding nth
nth_name j [] = refl
nth_name zero (e ∷ es) = refl
nth_name (suc j) (e ∷ es) = nth_name j es

-- ---- where a group begins

-- the first entry stands at the place where they begin
first_place_lem : (limits : Limits) (k : Kind) (s : List ℕ) (d : Entry) (end n at : ℕ) (es : List Entry) → 0 < n → entries_at limits k s end n at ≡ all es → (get_or es 0 d).at ≡ at
first_place_lem limits k s d end zero at es h e = absurd (omega arith)
first_place_lem limits k s d end (suc n) at es h e =
    let m = entries_more limits k s end n at es e in
    ap (λ (l : List Entry). (get_or l 0 d).at) m.3 ∙ (item_inside limits k s at m.0 m.2).same

-- the entries from entry j on stand from its place on
from_entry : (limits : Limits) (k : Kind) (s : List ℕ) (d : Entry) (end n j at : ℕ) (es : List Entry) → j < n → entries_at limits k s end n at ≡ all es
    → entries_at limits k s end (n - j) (get_or es j d).at ≡ all (drop j es)
from_entry limits k s d end n zero at es h e =
    let z : n - 0 ≡ n = omega arith in
    ap₂ (λ (m p : ℕ). entries_at limits k s end m p) z (first_place_lem limits k s d end n at es h e) ∙ e
from_entry limits k s d end zero (suc j) at es h e = absurd (omega arith)
from_entry limits k s d end (suc n) (suc j) at es h e =
    let m = entries_more limits k s end n at es e in
    let z : suc n - suc j ≡ n - j = omega arith in
    let r = from_entry limits k s d end n j m.0.next m.1 (omega arith) m.4 in
    ap₂ (λ (x : ℕ) (l : List Entry). entries_at limits k s end x (get_or l (suc j) d).at) z m.3 ∙ r ∙ ap (λ (l : List Entry). all (drop (suc j) l)) (sym m.3)

module _ (limits : Limits) (k : Kind) (s : List ℕ) (es : List Entry) (good : Accepted limits k s es) where
  -- how many entries a group has; the last may have fewer
  abbrev n : ℕ
  n = spacing_of limits.density

  pub entries_counted : length es ≡ entry_count s
  entries_counted = entries_count limits k s (4096 - tail_length s) (entry_count s) (first_place k) es good.entries

  -- a quick word leads to its entry
  group_place : (g : ℕ) → g * n < entry_count s → group_at k s g ≡ (get_or es (g * n) other).at
  unfolding group_at
  group_place g l =
      let c = entries_counted in
      elim (ℕ_discrete g 0) [
        | yes z ↦ (let f = first_place_lem limits k s other (4096 - tail_length s) (entry_count s) (first_place k) es good.some good.entries in
            let y : g * n ≡ 0 = omega (arith, ap (λ (x : ℕ). x * n) z) in
            rw (eq-eqb g 0 z, y) (sym f))
        | no z ↦ rw (ne_eqb g 0 z) (word s n (first_place k) other es g good.words (omega arith) (omega arith) (omega arith))
      ]

  pub group_entries : (g : ℕ) → g * n < entry_count s → entries_at limits k s (4096 - tail_length s) (entry_count s - g * n) (group_at k s g) ≡ all (drop (g * n) es)
  group_entries g l = rw (group_place g l) (from_entry limits k s other (4096 - tail_length s) (entry_count s) (g * n) (first_place k) es l good.entries)
