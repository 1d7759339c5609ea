-- The loop that plans one index level: before each chunk (`Planning`), and what a turn leaves. The cursor is at `here` with
-- `left` that may be taken, and chunk j comes next.
use Rattle.fields.proofs.Base.{◌≡◌, refl, sym, ap, ◌∙◌, List, [], ◌∷◌, map, ℕ, ◌+◌, ◌-◌, ◌≤◌, ◌<◌, arith, add-one, length, take, set, length-set, sets, Some}
use lib.Seq.{take-set-le}
use Rattle.entries.specs.declared.Place.{Place}
use Rattle.entries.specs.declared.Kind.TheVariants.{Index}
use Rattle.source.specs.Source.{item_from, rows_from}
use Rattle.pack.specs.Fill.{extent_from}
use Rattle.pack.specs.Starts.{chunks_from, first_at}
use Rattle.pack.specs.declared.Extent.{Extent}
use Rattle.pack.proofs.Levels.{chunks_none, chunks_more}
use Rattle.writer.specs.Plan.{IndexLevel}

module _ (content : ℕ) (s : List ℕ) (n base end : ℕ) (starts₀ : List ℕ) where
  -- the chunks from a cursor on
  abbrev coming : ℕ → ℕ → List (List Place)
  coming left at = chunks_from content s (take end starts₀) Index n left at

  pub record Planning (starts : List ℕ) (left here j : ℕ) : Type 0 where
    pub behind : end ≤ j
    pub room : j ≤ length starts₀
    pub kept : length starts ≡ length starts₀
    pub front : take end starts ≡ take end starts₀
    pub rest : j + length (coming left here) ≡ end + length (coming (end - base) base)
    pub whole : sets starts j (map first_at (coming left here)) ≡ sets starts₀ end (map first_at (coming (end - base) base))

  module _ (starts : List ℕ) (left here j : ℕ) (p : Planning starts left here j) where
    pub planning_end : rows_from content s (take end starts₀) Index left here ≡ [] → IndexLevel content s n base end starts₀ starts j
    planning_end q =
        let z = chunks_none content s (take end starts₀) Index n left here q in
        record {
          room = p.room;
          count = omega (arith, ap length z, p.rest);
          places = ap (λ (gs : List (List Place)). sets starts j (map first_at gs)) (sym z) ∙ p.whole;
        }

    module _ (e : Place) (some : 0 < left) (q : item_from content s (take end starts₀) Index here ≡ Some e) where
      pub planning_over : length starts ≤ j → length starts₀ < end + length (coming (end - base) base)
      planning_over h =
          let m = chunks_more content s (take end starts₀) Index n left here e (extent_from Index n 0 0 here left (rows_from content s (take end starts₀) Index left here)) some q refl in
          omega (arith, p.kept, ap length m.chunks, p.rest)

      pub planning_turn : (f : Extent) → f ≡ extent_from Index n 0 0 here left (rows_from content s (take end starts₀) Index left here) → j < length starts
          → Planning (set starts j e.at) f.left f.at (j + 1)
      planning_turn f is h =
          let m = chunks_more content s (take end starts₀) Index n left here e f some q is in
          let kept = p.kept in
          let behind = p.behind in
          record {
            behind = omega arith;
            room = omega arith;
            kept = length-set starts j e.at ∙ kept;
            front = take-set-le end starts j e.at behind ∙ p.front;
            rest = omega (arith, ap length m.chunks, p.rest);
            whole =
                ap (λ (i : ℕ). sets (set starts j e.at) i (map first_at (coming f.left f.at))) (add-one j)
                ∙ ap (λ (x : ℕ). sets starts j (x ∷ map first_at (coming f.left f.at))) (sym m.first)
                ∙ ap (λ (gs : List (List Place)). sets starts j (map first_at gs)) (sym m.chunks)
                ∙ p.whole;
          }
