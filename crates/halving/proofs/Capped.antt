-- The group of an empty chunk, and of one whose density is capped; and that a chunk with a count has its bytes.
use Rattle.fields.proofs.Base.{◌≡◌, sym, ap, ◌∙◌, List, ℕ, ◌*◌, ◌/◌, ◌≤◌, ◌<◌, min, arith, dec_lt, dec_le, div-eq_of_lt, pow-le-pow_right, lit<, length}
use Rattle.fields.proofs.Le.{le_past}
use Rattle.entries.specs.declared.Limits.{Limits}
use Rattle.entries.specs.declared.Kind.{Kind}
use Rattle.chunk_fields.specs.ChunkFields.{entry_count, spacing_of, count_place}
use Rattle.halving.specs.Halving.{Stand, group_above, last_group, group_in}
use Rattle.halving.specs.Halvings.{halvings_in}
use Rattle.halving.proofs.Halving.{halved_one, halvings_one}

-- ---- the group of an empty chunk, and of one whose density is capped

pub group_none : (limits : Limits) (k : Kind) (s : List ℕ) (stand : Stand) → entry_count s < 1
    → (group_in limits k s stand ≡ 0) × (halvings_in limits k s stand ≡ 0)
unfolding group_in
group_none limits k s stand h =
    let z : last_group limits s ≡ 0 = div-eq_of_lt (omega arith) in (
      halved_one (group_above k s stand) (last_group limits s) 0 (last_group limits s) (omega arith),
      halvings_one (group_above k s stand) (last_group limits s) 0 (last_group limits s) (omega arith),
    )

-- where the cap counts, there is no group but the first
pub capped_group : (density g i : ℕ) → i < 65536 → g ≤ i / spacing_of (min density 16) → g * spacing_of (min density 16) ≡ g * spacing_of density
capped_group density g i h l =
    elim (dec_lt density 16) [
      | yes d ↦ ap (λ (x : ℕ). g * spacing_of x) (omega arith)
      | no d ↦
          (let m : min density 16 ≡ 16 = omega arith in
          let e : i / spacing_of (min density 16) ≡ 0 = rw m (div-eq_of_lt (omega arith)) in
          let z : g ≡ 0 = omega arith in
          let none : (x : ℕ) → g * x ≡ 0 = λ x. omega (arith, ap (λ (y : ℕ). y * x) z) in
          none (spacing_of (min density 16)) ∙ sym (none (spacing_of density)))
    ]

-- nor does it count for how many entries of it are left
pub capped_size : (density i : ℕ) → i < 65536 → min (spacing_of (min density 16)) i ≡ min (spacing_of density) i
capped_size density i h =
    elim (dec_lt density 16) [
      | yes d ↦ ap (λ (x : ℕ). min (spacing_of x) i) (omega arith)
      | no d ↦
          (let m : min density 16 ≡ 16 = omega arith in
          let u : 65536 ≤ spacing_of density = omega (arith, pow-le-pow_right {n = 2} (lit< tt) {i = 16} {j = density} (omega arith)) in
          rw m (omega (arith, u)))
    ]

-- ---- a chunk that has a count has its bytes in front of the count's last

pub counted : (s : List ℕ) → 0 < entry_count s → count_place < length s
counted s h =
    elim (dec_le (length s) count_place) [
      | yes l ↦ absurd (omega (arith, h, le_past 2 s count_place l))
      | no l ↦ omega arith
    ]
