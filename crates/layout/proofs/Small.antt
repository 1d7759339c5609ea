-- When a layout is small enough, and when it is not: the laws of `small_enough` (FORMAT R19).
use Rattle.fields.proofs.Base.{◌≡◌, true, false, ◌≤◌, ◌<◌, leb, leb-true, le-leb, lt-leb}
use Rattle.fields.proofs.Tests.{and_both, and_no}
use Rattle.layout.specs.Layout.{Layout, chunk_count, layout_depth, small_enough}

module _ (l : Layout) where
  pub small_told : small_enough l ≡ true → (chunk_count l ≤ 4096) × (layout_depth l ≤ 5)
  unfolding small_enough
  small_told h =
      let t = and_both (leb (chunk_count l) 4096) (leb (layout_depth l) 5) h in
      (leb-true (chunk_count l) 4096 t.0, leb-true (layout_depth l) 5 t.1)

  pub small_is : chunk_count l ≤ 4096 → layout_depth l ≤ 5 → small_enough l ≡ true
  unfolding small_enough
  small_is c d = rw (le-leb (chunk_count l) 4096 c, le-leb (layout_depth l) 5 d)

  pub too_many : 4096 < chunk_count l → small_enough l ≡ false
  unfolding small_enough
  too_many h = rw (lt-leb (chunk_count l) 4096 h)

  pub too_deep : 5 < layout_depth l → small_enough l ≡ false
  unfolding small_enough
  too_deep h = rw (lt-leb (layout_depth l) 5 h) (and_no (leb (chunk_count l) 4096))
