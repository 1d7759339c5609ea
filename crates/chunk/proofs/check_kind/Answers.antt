use Rattle.fields.proofs.Base.{lt-ltb, le-ltb, le-leb, lt-leb, ◌≡◌, refl, sym, ap, ◌∙◌, cond, ◌&&◌, arith, ℕ, ◌+◌, ◌-◌, ◌*◌, ◌<◌, ltb, leb}
use Rattle.chunk.specs.Chunk.{bad, entries_at, checked_entries, parsed_as}
use Rattle.chunk_fields.specs.ChunkFields.{first_place, quick_count, spacing_of, entry_count}
use Rattle.chunk.proofs.Frame.{framed_as, parsed_capped}
use Rattle.chunk.proofs.check_kind.Goals.{After-tail_length-tail}
use Rattle.chunk.proofs.check_kind.Goals as goal
use Rattle.refusals.specs.declared.Rule.TheVariants.{ChunkFrame}

-- the chunk's meaning over the numbers that were read, with its quick words and its header's length
whole : (c : After-tail_length-tail) (q h : ℕ) → q ≡ quick_count c.spacing-n.result c.entry_count-total.result
    → h ≡ first_place c.args.kind
    → let a = c.args in
    let n = c.spacing-n.result in let k = c.entry_count-total.result in let t = c.tail_length-tail.result in
    parsed_as (spacing_of a.limits.density) a.limits a.kind a.c.now
    ≡ cond (ltb 0 k && (leb (2 + 2 * q) t && leb t (4096 - h))) (checked_entries n a.kind a.c.now (entries_at a.limits a.kind a.c.now (4096 - t) k (first_place a.kind))) (bad ChunkFrame)
whole c q h eq eh =
    let a = c.args in
    let n = c.spacing-n in
    let small : entry_count a.c.now < 65536 = omega (arith, c.entry_count-total.ensures) in
    sym (parsed_capped a.limits a.kind a.c.now small)
    ∙ ap (λ (m : ℕ). parsed_as m a.limits a.kind a.c.now) (sym n.ensures)
    ∙ framed_as a.limits a.kind a.c.now n.result c.entry_count-total.result q c.tail_length-tail.result h c.entry_count-total.ensures eq c.tail_length-tail.ensures eh

pub returns-then-total-lt1 : goal.returns-then-total-lt1
returns-then-total-lt1 c =
    simp (whole (goal.at.returns-then-total-lt1 c).After-tail_length-tail _ _ refl refl, le-ltb 0 c.entry_count-total.result (omega arith))

pub returns-then-tail-quick_words : goal.returns-then-tail-quick_words
returns-then-tail-quick_words c =
    let q = c.quick_words.result in
    simp (whole (goal.at.returns-then-tail-quick_words c).After-tail_length-tail q _ c.quick_words.ensures refl, lt-ltb 0 c.entry_count-total.result (omega arith), lt-leb (2 + 2 * q) c.tail_length-tail.result (omega arith))

pub returns-then-first_place-tail : goal.returns-then-first_place-tail
returns-then-first_place-tail c =
    let q = c.quick_words.result in
    let h = c.first_place.result in
    simp (
      whole (goal.at.returns-then-first_place-tail c).After-tail_length-tail q h c.quick_words.ensures c.first_place.ensures,
      lt-ltb 0 c.entry_count-total.result (omega arith),
      le-leb (2 + 2 * q) c.tail_length-tail.result (omega arith),
      lt-leb c.tail_length-tail.result (4096 - h) (omega arith),
    )

pub returns : goal.returns
returns c =
    let q = c.quick_words.result in
    let h = c.first_place.result in
    simp (
      whole (goal.at.returns c).After-tail_length-tail q h c.quick_words.ensures c.first_place.ensures,
      lt-ltb 0 c.entry_count-total.result (omega arith),
      le-leb (2 + 2 * q) c.tail_length-tail.result (omega arith),
      le-leb c.tail_length-tail.result (4096 - h) (omega arith),
    )
    c.check_entries.ensures
