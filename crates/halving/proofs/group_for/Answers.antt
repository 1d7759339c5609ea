use Rattle.fields.proofs.Base.{◌≡◌, refl, ap, ◌∙◌, ℕ, ◌-◌, ◌*◌, ◌/◌, ◌<◌, min, div-le_self, arith, length}
use Rattle.names.specs.Names.{compared}
use Rattle.chunk_fields.specs.ChunkFields.{entry_count, spacing_of, count_place}
use Rattle.chunk.proofs.Quick.{capped}
use Rattle.quickref.specs.Quickref.{group_at}
use Rattle.halving.specs.Halving.{group_above, halved, group_in, size_in}
use Rattle.halving.specs.Halvings.{halvings, halvings_in}
use Rattle.halving.proofs.Capped.{group_none, capped_group, capped_size, counted}
use Rattle.halving.proofs.group_for.Goals.{Else-total-eq0}
use Rattle.halving.proofs.group_for.Goals as goal

pub returns-then-total-eq0 : goal.returns-then-total-eq0
unfolding group_at
returns-then-total-eq0 c = let a = c.args in
    let z = group_none a.limits a.kind a.c.now (compared a.name.now) (omega (arith, c.entry_count-total.ensures)) in
    rw (z.0, z.1) (c.first_place.ensures, omega (arith, c.entry_count-total.ensures), refl)

-- a chunk that has a count has its bytes
has_count : (c : Else-total-eq0) → count_place < length c.args.c.now
has_count c = counted c.args.c.now (omega (arith, c.entry_count-total.ensures, c.if-total-eq0.false))

pub group_of-left-requires : goal.group_of-left-requires
group_of-left-requires c =
    (omega (arith, div-le_self (c.entry_count-total.result - 1) c.spacing-n.result), has_count (goal.at.group_of-left-requires c).Else-total-eq0)

pub group_place-requires : goal.group_place-requires
group_place-requires c = has_count (goal.at.group_place-requires c).Else-total-eq0

pub returns : goal.returns
unfolding group_in
returns c =
    let chosen : let n = c.spacing-n.result in
    let a = c.args in
    let g = group_in a.limits a.kind a.c.now (compared a.name.now) in
    (c.group_place.result ≡ group_at a.kind a.c.now g)
    × (min n (c.entry_count-total.result - c.group_of-left.result.group * n) ≡ size_in a.limits a.c.now g)
    × (c.group_of-left.result.count ≡ halvings_in a.limits a.kind a.c.now (compared a.name.now)) =
    let p = c.spacing-n in
    let a = c.args in
    let d = a.limits.density in
    let above = group_above a.kind a.c.now (compared a.name.now) in
    let h = c.group_of-left.result.group in
    let total : c.entry_count-total.result ≡ entry_count a.c.now = c.entry_count-total.ensures in
    let q : (c.entry_count-total.result - 1) / p.result ≡ (entry_count a.c.now - 1) / spacing_of d =
    rw (p.ensures, total) ((capped d).words (entry_count a.c.now - 1) (omega arith)) in
    let g : h ≡ group_in a.limits a.kind a.c.now (compared a.name.now) =
    c.group_of-left.ensures.0 ∙ ap (λ (i : ℕ). halved above i 0 i) q in
    let m : h * p.result ≡ h * spacing_of d =
    ap (λ (i : ℕ). h * i) p.ensures ∙ capped_group d h (c.entry_count-total.result - 1) (omega arith) (rw (← p.ensures) c.group_of-left.ensures.2) in
    let s : min p.result (c.entry_count-total.result - h * p.result) ≡ min (spacing_of d) (c.entry_count-total.result - h * p.result) =
    ap (λ (i : ℕ). min i (c.entry_count-total.result - h * p.result)) p.ensures ∙ capped_size d (c.entry_count-total.result - h * p.result) (omega arith) in (
      c.group_place.ensures ∙ ap (group_at a.kind a.c.now) g,
      s ∙ rw (m, total, g) refl,
      c.group_of-left.ensures.1 ∙ ap (λ (i : ℕ). halvings above i 0 i) q,
    ) in
    let k = chosen in (k.0, c.min.ensures ∙ k.1, k.2)
