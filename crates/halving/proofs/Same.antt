-- Halving over the bytes of a chunk that passes its check is halving its entries.
--     same_group     it leaves the same group, and
--     same_halvings  takes as many comparisons
--     group_right    that group is the first or does not begin above the name, and is the last or has one behind it that does
use Rattle.fields.proofs.Base.{◌≡◌, refl, sym, ap, subst, ◌∙◌, inl, List, ℕ, suc, ◌+◌, ◌-◌, ◌*◌, ◌≤◌, ◌<◌, arith, le-div_iff_mul-le, div-add-mod', length, get_or, drop, get_or-drop}
use native.Mathlib.Nat.{mod-lt}
use Rattle.std.specs.Ordering.{is_lt}
use Rattle.entries.specs.Entry.{name_of, Entry}
use Rattle.entries.specs.declared.Limits.{Limits}
use Rattle.entries.proofs.Laws.{item_inside}
use Rattle.entries.specs.declared.Kind.{Kind}
use Rattle.chunk.specs.Chunk.{all, entries_at}
use Rattle.chunk_fields.specs.ChunkFields.{entry_count, tail_length, spacing_of, quick_count}
use Rattle.chunk.proofs.Accepted.{Accepted, entries_more}
use Rattle.quickref.specs.Quickref.{nth, name_in, group_at}
use Rattle.quickref.proofs.Groups.{other, nth_name, group_entries, entries_counted}
use Rattle.halving.specs.Halving.{Stand, halved, group_above, group_in}
use Rattle.halving.specs.Halvings.{halvings, above_in, group_of, halvings_in}
use Rattle.halving.proofs.Halving.{Lower, Upper, halved_right, halved_same, halvings_same}

module _ (limits : Limits) (k : Kind) (s : List ℕ) (es : List Entry) (good : Accepted limits k s es) where
  -- how many entries a group has; the last may have fewer
  abbrev n : ℕ
  n = spacing_of limits.density

  -- the first name of a group is read where its quick word says
  above_is : (stand : Stand) (g : ℕ) → g * n < entry_count s → group_above k s stand g ≡ above_in n stand es g
  unfolding group_above
  above_is stand g l =
      let m = entry_count s - g * n - 1 in
      let z : entry_count s - g * n ≡ suc m = omega arith in
      let e = subst (λ (i : ℕ). entries_at limits k s (4096 - tail_length s) i (group_at k s g) ≡ all (drop (g * n) es)) z (group_entries limits k s es good g l) in
      let r = entries_more limits k s (4096 - tail_length s) m (group_at k s g) (drop (g * n) es) e in
      let i = item_inside limits k s (group_at k s g) r.0 r.2 in
      let y : g * n + 0 ≡ g * n = omega arith in
      let f : name_in (nth (g * n) es) ≡ name_of s r.0 =
      nth_name (g * n) es ∙ ap (λ (j : ℕ). (get_or es j other).name) (sym y) ∙ ap (λ (d : Entry). d.name) (sym (get_or-drop (g * n) es 0 other)) ∙ ap (λ (d : List Entry). (get_or d 0 other).name) r.3 in
      rw i.read (ap (λ (x : List ℕ). is_lt (stand x)) (sym f))

  abbrev last : ℕ
  last = quick_count n (entry_count s)

  pub last_inside : (g : ℕ) → g ≤ last → g * n < entry_count s
  last_inside g h = let m = (le-div_iff_mul-le {k = n} (omega arith)).0 h in omega (arith, good.some)

  -- behind the last group there is no entry
  pub last_full : entry_count s ≤ last * n + n
  last_full =
      let m = div-add-mod' (entry_count s - 1) n in
      let b = mod-lt (entry_count s - 1) {m = n} (omega arith) in
      omega (arith, m, b)

  same_above : (stand : Stand) (g : ℕ) → g ≤ last → group_above k s stand g ≡ above_in n stand es g
  same_above stand g h = above_is stand g (last_inside g h)

  pub same_group : (stand : Stand) → group_in limits k s stand ≡ group_of n stand es
  unfolding group_in
  same_group stand =
      halved_same (group_above k s stand) (above_in n stand es) last (same_above stand) last 0 last (omega arith)
      ∙ ap (λ (c : ℕ). halved (above_in n stand es) (quick_count n c) 0 (quick_count n c)) (sym (entries_counted limits k s es good))

  pub same_halvings : (stand : Stand) → halvings_in limits k s stand ≡ halvings (above_in n stand es) (quick_count n (length es)) 0 (quick_count n (length es))
  same_halvings stand =
      halvings_same (group_above k s stand) (above_in n stand es) last (same_above stand) last 0 last (omega arith)
      ∙ ap (λ (c : ℕ). halvings (above_in n stand es) (quick_count n c) 0 (quick_count n c)) (sym (entries_counted limits k s es good))

  -- it is the first or does not begin above the name, and is the last or has one behind it that does
  abbrev pub Right : Stand → ℕ → Type 0
  Right stand g = (g ≤ last) × Lower (above_in n stand es) g × Upper (above_in n stand es) last g

  pub group_right : (stand : Stand) → Right stand (group_in limits k s stand)
  unfolding group_in
  group_right stand =
      rw (halved_same (group_above k s stand) (above_in n stand es) last (same_above stand) last 0 last (omega arith))
      (halved_right (above_in n stand es) last last 0 last (omega arith) (omega arith) (omega arith) (inl refl) (inl refl))
