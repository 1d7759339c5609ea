-- The loop that plans the index levels: before each level (`Shaping`), and what a turn leaves. The highest level so far has the chunks gs,
-- numbered from base up to end.
use Rattle.fields.proofs.Base.{◌≡◌, refl, sym, ap, ap₂, subst, ◌∙◌, false, List, [], ◌∷◌, ◌++◌, map, flatten, ℕ, suc, ◌+◌, ◌-◌, ◌≤◌, ◌<◌, arith, length, take, length-append, length-map, take-take, length-take-le}
use lib.Seq.{take-add}
use Rattle.fields.specs.Part.{part}
use Rattle.entries.specs.Stored.{Stored, stored_of}
use Rattle.pack.specs.Levels.{level, children_of, levels_above}
use Rattle.pack.specs.Starts.{chunks_from, first_at, Starts, AllStarts}
use Rattle.pack.proofs.Levels.{chunks_children, starts_of}
use Rattle.pack.proofs.Above.{upper, above_more, above_none}
use Rattle.layout.specs.Layout.{Layout, layout_over, chunk_count, layout_depth, small_enough}
use Rattle.layout.proofs.Small.{too_many, too_deep}
use Rattle.writer.specs.Plan.{ListingLevel, IndexLevel, LevelsPlanned}
use Rattle.fields.proofs.Parts.{length_part, part_alike}
use Rattle.entries.specs.declared.Kind.TheVariants.{Listing, Index}
use Rattle.writer.proofs.Lent.{written_back, front_kept}

-- ---- a level above chunks whose first names are known

module _ (content : ℕ) (s : List ℕ) (n : ℕ) (starts : List ℕ) (base end : ℕ) (gs : List (List Stored))
    (size : base + length gs ≡ end) (inside : end ≤ length starts) (named : Starts s (part starts base (length gs)) gs) where
  pub upper_is : map (map (stored_of s)) (chunks_from content s (take end starts) Index n (end - base) base) ≡ upper n 0 base gs
  upper_is =
      let l : length (take base starts) ≡ base = length-take-le base starts (omega arith) in
      let e : take end starts ≡ take base starts ++ part starts base (length gs) = ap (λ (m : ℕ). take m starts) (sym size) ∙ take-add base (length gs) starts in
      let ps = part starts base (length gs) in
      let c : end - base ≡ length ps = omega (arith, length_part starts base (length gs) (omega arith)) in
      ap₂ (λ (y : List ℕ) (b : ℕ). map (map (stored_of s)) (chunks_from content s y Index n (end - base) b)) e (sym l)
      ∙ ap (λ (j : ℕ). map (map (stored_of s)) (chunks_from content s (take base starts ++ ps) Index n j (length (take base starts)))) c
      ∙ chunks_children content s (take base starts) (part starts base (length gs)) n gs named
      ∙ ap (λ (b : ℕ). level n Index (children_of b gs)) l

  pub upper_count : length (chunks_from content s (take end starts) Index n (end - base) base) ≡ length (upper n 0 base gs)
  upper_count = sym (length-map (chunks_from content s (take end starts) Index n (end - base) base) (map (stored_of s))) ∙ ap length upper_is

-- ---- the levels above chunks of which there are several: the next one, and those above it

module _ (n depth base end : ℕ) (gs : List (List Stored)) (size : base + length gs ≡ end) (low : depth ≤ 5) (more : 1 < end - base) where
  pub next_level : levels_above n (6 - depth) base gs ≡ upper n 0 base gs ∷ levels_above n (6 - (depth + 1)) end (upper n 0 base gs)
  next_level =
      let e : 6 - depth ≡ suc (6 - (depth + 1)) = omega (arith, low) in
      ap (λ (j : ℕ). levels_above n j base gs) e
      ∙ above_more n (6 - (depth + 1)) base gs (omega (arith, size))
      ∙ ap (λ (j : ℕ). upper n 0 base gs ∷ levels_above n (6 - (depth + 1)) j (upper n 0 base gs)) size

  pub above_count : length (flatten (levels_above n (6 - depth) base gs)) ≡ length (upper n 0 base gs) + length (flatten (levels_above n (6 - (depth + 1)) end (upper n 0 base gs)))
  unfolding flatten
  above_count =
      ap (λ (l : List (List (List Stored))). length (flatten l)) next_level
      ∙ length-append (upper n 0 base gs) (flatten (levels_above n (6 - (depth + 1)) end (upper n 0 base gs)))

-- ---- the loop

module _ (content : ℕ) (s : List ℕ) (n : ℕ) (leaves : List (List Stored)) where
  abbrev l : Layout
  l = layout_over n leaves

  pub record Shaping (m : ℕ) (starts : List ℕ) (depth base end : ℕ) : Type 0 where
    pub gs : List (List Stored)
    pub listings : m ≡ length l.leaves
    pub size : base + length gs ≡ end
    pub inside : end ≤ length starts
    pub kept : length starts ≡ 4096
    pub low : 1 ≤ depth
    pub high : depth ≤ 5
    pub named : Starts s (part starts base (length gs)) gs
    pub count : end + length (flatten (levels_above n (6 - depth) base gs)) ≡ chunk_count l
    pub deep : depth + length (levels_above n (6 - depth) base gs) ≡ layout_depth l
    pub final : (f : List ℕ) → take end f ≡ take end starts → AllStarts s f base (gs ∷ levels_above n (6 - depth) base gs) → AllStarts s f 0 (l.leaves ∷ l.levels)

  module _ (starts₀ starts : List ℕ) (m : ℕ) (kept : length starts₀ ≡ 4096) (same : length starts ≡ length starts₀) (p : ListingLevel content s n starts₀ starts m)
      (is : map (map (stored_of s)) (chunks_from content s [] Listing n (length s) 0) ≡ leaves) where
    listing_count : length (chunks_from content s [] Listing n (length s) 0) ≡ length l.leaves
    unfolding layout_over
    listing_count = sym (length-map (chunks_from content s [] Listing n (length s) 0) (map (stored_of s))) ∙ ap length is

    pub first_over : 4096 < m → small_enough l ≡ false
    first_over h = too_many l (omega (arith, p.count, listing_count))

    pub shaping_start : m ≤ 4096 → Shaping m starts 1 0 m
    unfolding layout_over
    shaping_start h =
        let L = chunks_from content s [] Listing n (length s) 0 in
        let c = p.count in
        let ps : List ℕ = map first_at L in
        let lp : length ps ≡ length L = length-map L first_at in
        let w = p.places in
        let back : part starts 0 (length leaves) ≡ ps =
        ap (λ (j : ℕ). part starts 0 j) (sym (lp ∙ listing_count)) ∙ ap (λ (y : List ℕ). part y 0 (length ps)) w ∙ written_back starts₀ 0 ps (omega arith) in
        record {
          gs = leaves;
          listings = omega (arith, listing_count);
          size = omega (arith, listing_count);
          inside = omega arith;
          kept = omega arith;
          low = omega arith;
          high = omega arith;
          named = subst (λ (y : List ℕ). Starts s y leaves) (sym back) (subst (Starts s ps) is (starts_of content s [] Listing n (length s) 0));
          count = omega (arith, listing_count);
          deep = refl;
          final = λ f e a. a;
        }

  module _ (m : ℕ) (starts : List ℕ) (depth base end : ℕ) (p : Shaping m starts depth base end) where
    -- one level is left
    pub shaping_end : end - base ≤ 1 → LevelsPlanned s starts l m depth end
    unfolding flatten
    shaping_end h =
        let g = p.gs in
        let z : levels_above n (6 - depth) base g ≡ [] = above_none n (6 - depth) base g (omega (arith, p.size)) in
        let c : end + length (flatten (levels_above n (6 - depth) base g)) ≡ end + 0 = ap (λ (l : List (List (List Stored))). end + length (flatten l)) z in
        let d : depth + length (levels_above n (6 - depth) base g) ≡ depth + 0 = ap (λ (l : List (List (List Stored))). depth + length l) z in
        record {
          listings = p.listings;
          deep = omega (arith, p.deep);
          counted = omega (arith, p.count);
          small = omega (arith, p.inside, p.kept);
          flat = p.high;
          named = p.final starts refl (AllStarts.level p.named (subst (AllStarts s starts (base + length g)) (sym z) AllStarts.end));
        }

    module _ (more : 1 < end - base) where
      abbrev up : List (List Stored)
      up = upper n 0 base p.gs

      level_above : levels_above n (6 - depth) base p.gs ≡ up ∷ levels_above n (6 - (depth + 1)) end up
      level_above = next_level n depth base end p.gs p.size p.high more

      pub shaping_deep : depth ≡ 5 → small_enough l ≡ false
      shaping_deep h = too_deep l (omega (arith, p.deep, ap length level_above))

      count_above : length (flatten (levels_above n (6 - depth) base p.gs)) ≡ length up + length (flatten (levels_above n (6 - (depth + 1)) end up))
      count_above = above_count n depth base end p.gs p.size p.high more

      up_count : length (chunks_from content s (take end starts) Index n (end - base) base) ≡ length up
      up_count = upper_count content s n starts base end p.gs p.size p.inside p.named

      pub shaping_over : length starts < end + length (chunks_from content s (take end starts) Index n (end - base) base) → small_enough l ≡ false
      shaping_over h = too_many l (omega (arith, up_count, count_above, p.count, p.kept))

      pub shaping_turn : (after : List ℕ) (next : ℕ) → length after ≡ length starts → IndexLevel content s n base end starts after next → (depth ≡ 5 → ⊥)
          → Shaping m after (depth + 1) end next
      shaping_turn after next same q five =
          let L = chunks_from content s (take end starts) Index n (end - base) base in
          let c = q.count in
          let ps : List ℕ = map first_at L in
          let lp : length ps ≡ length L = length-map L first_at in
          let uc = up_count in
          let w = q.places in
          let room : end + length ps ≤ length starts = omega (arith, q.room) in
          let back : part after end (length up) ≡ ps =
          ap (λ (j : ℕ). part after end j) (sym (lp ∙ uc)) ∙ ap (λ (y : List ℕ). part y end (length ps)) w ∙ written_back starts end ps room in
          let front : take end after ≡ take end starts = ap (take end) w ∙ front_kept starts end ps room in
          let ui = upper_is content s n starts base end p.gs p.size p.inside p.named in
          let sz : end + length up ≡ next = omega arith in
          record {
            gs = up;
            listings = p.listings;
            size = sz;
            inside = omega (arith, q.room);
            kept = same ∙ p.kept;
            low = omega arith;
            high = omega (arith, p.high);
            named = subst (λ (y : List ℕ). Starts s y up) (sym back) (subst (Starts s ps) ui (starts_of content s (take end starts) Index n (end - base) base));
            count = omega (arith, count_above, p.count);
            deep = omega (arith, ap length level_above, p.deep);
            final = λ f e a.
                let fe : take end f ≡ take end starts = sym (take-take end next f (omega arith)) ∙ ap (take end) e ∙ take-take end next after (omega arith) ∙ front in
                p.final f fe
                (subst (λ (l : List (List (List Stored))). AllStarts s f base (p.gs ∷ l)) (sym level_above)
                (AllStarts.level (subst (λ (y : List ℕ). Starts s y p.gs) (sym (part_alike f starts base (length p.gs) end p.size fe)) p.named)
                (subst (λ (j : ℕ). AllStarts s f j (up ∷ levels_above n (6 - (depth + 1)) end up)) (sym p.size) a)));
          }
