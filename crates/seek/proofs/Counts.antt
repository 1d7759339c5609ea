-- How many comparisons of the asked name a search makes.
--     cost_few     at most h + n, where 2 ^ h is the number of groups or more, and n entries are in a group
--     cost_good    on a chunk that passes its check, as many over its bytes as among its entries
--     cost_small   on any bytes, a number that fits 32 bits five times over
use Rattle.fields.proofs.Base.{◌≡◌, refl, sym, ap, ap₂, ◌∙◌, List, [], ◌∷◌, true, ℕ, zero, suc, ◌+◌, ◌-◌, ◌*◌, ◌^◌, ◌≤◌, ◌<◌, min, arith, div-le_self, length, take, drop, length-drop, Option, Some, None}
use Rattle.fields.specs.Part.{part}
use Rattle.std.specs.declared.cmp.Ordering.{Ordering}
use Rattle.std.specs.declared.cmp.Ordering.TheVariants.{Less, Equal, Greater}
use Rattle.entries.specs.Entry.{with_number, item_at, name_of, with_item, Entry, entry_of}
use Rattle.entries.specs.declared.Limits.{Limits}
use Rattle.entries.specs.declared.Place.{Place}
use Rattle.entries.proofs.Laws.{item_inside}
use Rattle.entries.specs.declared.Kind.{Kind}
use Rattle.entries.specs.declared.Kind.TheVariants.{Listing, Index}
use Rattle.chunk.specs.Chunk.{all, entries_at, parsed, entries_in, is_kind}
use Rattle.chunk_fields.specs.ChunkFields.{entry_count, tail_length, spacing_of, quick_count}
use Rattle.chunk.proofs.Accepted.{chunk_accepted, entries_more}
use Rattle.quickref.specs.Quickref.{group_at}
use Rattle.quickref.proofs.Groups.{group_entries, entries_counted}
use Rattle.halving.specs.Halving.{Stand, group_above, last_group, group_in, size_in}
use Rattle.halving.specs.Halvings.{above_in, group_of, halvings_in}
use Rattle.halving.proofs.Halving.{halvings_few, halvings_fuel}
use Rattle.halving.proofs.Same.{last_inside, group_right, same_group, same_halvings}
use Rattle.seek.specs.Seek.{by_order}
use Rattle.seek.specs.Count.{passed, comparisons, compared_at, walked, cost_in}

-- ---- the bound

one_more : (o : Ordering) {a n : ℕ} → a ≤ n → suc (by_order o 0 0 a) ≤ suc n
one_more Less h = omega arith
one_more Equal h = omega arith
one_more Greater h = omega arith

passed_few : (stand : Stand) (n : ℕ) (es : List Entry) → passed stand (take n es) ≤ n
unfolding passed
passed_few stand zero es = omega arith
passed_few stand (suc n) [] = omega arith
passed_few stand (suc n) (e ∷ es) = one_more (stand e.name) (passed_few stand n es)

pub cost_few : (n : ℕ) (stand : Stand) (es : List Entry) (h : ℕ) → 1 + quick_count n (length es) ≤ 2 ^ h → comparisons n stand es ≤ h + n
unfolding comparisons
cost_few n stand es h l =
    let q = quick_count n (length es) in
    let a = halvings_few (above_in n stand es) q 0 q h (omega (arith, l)) in
    let b = passed_few stand n (drop (group_of n stand es * n) es) in
    omega (arith, a, b)

-- ---- a chunk that passes its check

-- the name of an entry is compared
compared_good : (limits : Limits) (k : Kind) (s : List ℕ) (at : ℕ) (e : Place) → item_at limits k s at ≡ Some e → compared_at limits k s at ≡ Some (e.len, e.start)
unfolding compared_at
compared_good limits Listing s at e g = rw g refl
compared_good limits Index s at e g = (item_inside limits Index s at e g).read

walked_all : (limits : Limits) (k : Kind) (s : List ℕ) (stand : Stand) (end n m at : ℕ) (es : List Entry) → m ≤ n → entries_at limits k s end n at ≡ all es
    → walked limits k s stand m at ≡ passed stand (take m es)
unfolding walked passed
walked_all limits k s stand end n zero at es l e = refl
walked_all limits k s stand end zero (suc m) at es l e = absurd (omega arith)
walked_all limits k s stand end (suc n) (suc m) at es l e =
    let t = entries_more limits k s end n at es e in
    let i = walked_all limits k s stand end n m t.0.next t.1 (omega arith) t.4 in
    let here : walked limits k s stand (suc m) at ≡ passed stand (take (suc m) (entry_of s t.0 ∷ t.1)) =
    rw (compared_good limits k s at t.0 t.2, t.2) (ap (λ (c : ℕ). suc (by_order (stand (name_of s t.0)) 0 0 c)) i) in
    here ∙ ap (λ (l : List Entry). passed stand (take (suc m) l)) (sym t.3)

take_min : (m : ℕ) (es : List Entry) → take (min m (length es)) es ≡ take m es
take_min zero es = let z : min 0 (length es) ≡ 0 = omega arith in ap (λ (i : ℕ). take i es) z
take_min (suc m) [] = let z : min (suc m) 0 ≡ 0 = omega arith in ap (λ (i : ℕ). take {A = Entry} i []) z
take_min (suc m) (e ∷ es) =
    let z : min (suc m) (length (e ∷ es)) ≡ suc (min m (length es)) = omega arith in
    ap (λ (i : ℕ). take i (e ∷ es)) z ∙ ap (λ (l : List Entry). e ∷ l) (take_min m es)

pub cost_good : (limits : Limits) (k : Kind) (s : List ℕ) (stand : Stand) → is_kind k (parsed limits s) ≡ true
    → cost_in limits k s stand ≡ comparisons (spacing_of limits.density) stand (entries_in (parsed limits s))
unfolding cost_in comparisons
cost_good limits k s stand h =
    let es = entries_in (parsed limits s) in
    let n = spacing_of limits.density in
    let a = chunk_accepted limits k s h in
    let g = group_in limits k s stand in
    let r = group_right limits k s es a stand in
    let size : size_in limits s g ≡ min n (length (drop (g * n) es)) =
    ap (min n) (sym (length-drop (g * n) es ∙ ap (λ (c : ℕ). c - g * n) (entries_counted limits k s es a))) in
    let w : walked limits k s stand (size_in limits s g) (group_at k s g) ≡ passed stand (take n (drop (g * n) es)) =
    walked_all limits k s stand (4096 - tail_length s) (entry_count s - g * n) (size_in limits s g) (group_at k s g) (drop (g * n) es) (omega arith)
    (group_entries limits k s es a g (last_inside limits k s es a g r.0))
    ∙ ap (λ (m : ℕ). passed stand (take m (drop (g * n) es))) size ∙ ap (passed stand) (take_min n (drop (g * n) es)) in
    ap₂ (λ (x y : ℕ). x + y) (same_halvings limits k s es a stand)
    (w ∙ ap (λ (i : ℕ). passed stand (take n (drop (i * n) es))) (same_group limits k s es a stand))

-- ---- any bytes

walked_few : (limits : Limits) (k : Kind) (s : List ℕ) (stand : Stand) (n at : ℕ) → walked limits k s stand n at ≤ n
unfolding walked
walked_few limits k s stand zero at = omega arith
walked_few limits k s stand (suc n) at = go (compared_at limits k s at) (behind (item_at limits k s at) (λ p. walked_few limits k s stand n p))
  where
    behind : (i : Option Place) → ((p : ℕ) → walked limits k s stand n p ≤ n) → with_item i 0 (λ e. walked limits k s stand n e.next) ≤ n
    behind None f = omega arith
    behind (Some e) f = f e.next

    go : (x : Option (ℕ × ℕ)) {w : ℕ} → w ≤ n → with_number x 0 (λ len start. suc (by_order (stand (part s start len)) 0 0 w)) ≤ suc n
    go None f = omega arith
    go (Some (len, start)) f = one_more (stand (part s start len)) f

module _ (limits : Limits) (k : Kind) (s : List ℕ) (stand : Stand) where
  -- with so many entries of the group left
  abbrev pub spent_in : ℕ → ℕ
  spent_in left = halvings_in limits k s stand + (size_in limits s (group_in limits k s stand) - left)

  pub spent_next : (left : ℕ) → 0 < left → left ≤ size_in limits s (group_in limits k s stand) → spent_in left + 1 ≡ spent_in (left - 1)
  spent_next left h l = omega arith

  group_small : entry_count s < 65536 → (size_in limits s (group_in limits k s stand) < 65536) × (halvings_in limits k s stand < 65536)
  group_small c =
      let a = halvings_fuel (group_above k s stand) (last_group limits s) 0 (last_group limits s) in
      let b = div-le_self (entry_count s - 1) (spacing_of limits.density) in
      (omega arith, omega (arith, a, b, c))

  -- a size and a count that are the group's
  module _ (size count : ℕ) (p : size ≡ size_in limits s (group_in limits k s stand)) (q : count ≡ halvings_in limits k s stand) where
    pub spent_is : (left : ℕ) → count + (size - left) ≡ spent_in left
    spent_is left = ap₂ (λ (x y : ℕ). x + (y - left)) q p

    pub spent_fits : entry_count s < 65536 → (left : ℕ) → left ≤ size_in limits s (group_in limits k s stand) → (left ≤ size) × (size < 65536) × (count < 65536)
    spent_fits c left h = let m = group_small c in (omega (arith, p, h), omega (arith, p, m.0), omega (arith, q, m.1))

  pub cost_small : entry_count s < 65536 → cost_in limits k s stand < 0x20000
  unfolding cost_in
  cost_small c =
      let g = group_in limits k s stand in
      let w = walked_few limits k s stand (size_in limits s g) (group_at k s g) in
      let m = group_small c in
      omega (arith, m.0, m.1, w)
