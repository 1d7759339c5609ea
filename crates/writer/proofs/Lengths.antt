-- Chunks one behind another: each is 4,096 bytes long, and those of several levels are those of one behind another.
use Rattle.fields.proofs.Base.{◌≡◌, sym, ap, ◌∙◌, List, [], ◌∷◌, ◌++◌, map, flatten, ℕ, ◌+◌, ◌*◌, ◌≤◌, add-zero, arith, length, length-map}
use Rattle.fields.specs.Part.{part}
use Rattle.fields.proofs.Parts.{length_part}
use Rattle.entries.specs.declared.Place.{Place}
use Rattle.entries.specs.declared.Kind.{Kind}
use Rattle.entries.specs.Stored.{Stored, stored_of}
use Rattle.source.specs.Source.{rows_from}
use Rattle.fields.proofs.Lists.{All, none, more}
use Rattle.source.proofs.Rows.{Row, rows_all}
use Rattle.pack.specs.Levels.{level}
use Rattle.pack.specs.Starts.{chunks_from}
use Rattle.pack.proofs.Levels.{chunks_level}
use Rattle.pack.proofs.Fitting.{Short, level_fit}
use Rattle.compose.specs.NewChunk.{new_chunk}
use Rattle.layout.specs.Layout.{new_previous, new_next, chunks_of}
use Rattle.layout.proofs.Filled.{length_all}

pub chunks_append : (k : Kind) (n m c : ℕ) (a b : List (List Stored)) → chunks_of k n m c (a ++ b) ≡ chunks_of k n m c a ++ chunks_of k n m (c + length a) b
unfolding chunks_of
chunks_append k n m c [] b = ap (λ (j : ℕ). chunks_of k n m j b) (sym (add-zero c))
chunks_append k n m c (g ∷ a) b =
    let e : c + 1 + length a ≡ c + length (g ∷ a) = omega arith in
    ap (λ (l : List (List ℕ)). new_chunk k n (new_previous c) (new_next m c) g ∷ l) (chunks_append k n m (c + 1) a b ∙ ap (λ (j : ℕ). chunks_of k n m (c + 1) a ++ chunks_of k n m j b) e)

rows_short : (s : List ℕ) (es : List Place) → All (Row s) es → All Short (map (stored_of s) es)
rows_short s [] none = none
rows_short s (e ∷ es) (more r rs) =
    let l = length_part s e.start e.len r.inside in
    let h : length (part s e.start e.len) ≤ 1024 = omega (arith, r.short) in
    more h (rows_short s es rs)

module _ (k : Kind) (n m : ℕ) where
  -- those of a level, from a cursor on
  pub length_level : (s : List ℕ) (content : ℕ) (starts : List ℕ) (left at c : ℕ)
      → length (flatten (chunks_of k n m c (map (map (stored_of s)) (chunks_from content s starts k n left at)))) ≡ 4096 * length (chunks_from content s starts k n left at)
  length_level s content starts left at c =
      let gs = chunks_from content s starts k n left at in
      let es : List Stored = map (stored_of s) (rows_from content s starts k left at) in
      let e : map (map (stored_of s)) gs ≡ level n k es = chunks_level content s starts k n left at in
      ap (λ (y : List (List Stored)). length (flatten (chunks_of k n m c y))) e
      ∙ length_all k n m c (level n k es) (level_fit n k es (rows_short s (rows_from content s starts k left at) (rows_all content s starts k left at)))
      ∙ ap (λ (y : List (List Stored)). 4096 * length y) (sym e)
      ∙ ap (λ (j : ℕ). 4096 * j) (length-map gs (map (stored_of s)))
