-- Levels: one chunk after another as a loop finds them (`chunks_more`), what they hold (`chunks_given`, `chunks_children`), and the places of
-- their first names (`starts_of`).
use Rattle.fields.proofs.Base.{◌≡◌, refl, sym, ap, ap₂, subst, ◌∙◌, List, [], ◌∷◌, ◌++◌, map, ℕ, zero, suc, ◌+◌, ◌-◌, ◌<◌, arith, zero-add, length, take, drop, get_or, length-append, lt-ltb, Option, Some, None}
use lib.Seq.{append_snoc, get_or-append_seam}
use Rattle.fields.specs.Part.{part}
use Rattle.fields.proofs.Parts.{length_part}
use Rattle.entries.specs.Entry.{with_number, name_at}
use Rattle.entries.specs.declared.Place.{Place}
use Rattle.entries.specs.declared.Kind.{Kind}
use Rattle.entries.specs.declared.Kind.TheVariants.{Listing, Index}
use Rattle.entries.specs.Stored.{Stored, stored_of}
use Rattle.source.specs.Source.{index_entry_for, item_from, end_of, rows_from}
use Rattle.source.specs.Input.{given}
use Rattle.fields.proofs.Lists.{All, none, more, all_first, all_weaken, all_parts}
use Rattle.source.proofs.Rows.{Row, run_spent, run_more, run_drop, rows_all}
use Rattle.pack.specs.Groups.{fits, groups, taken}
use Rattle.pack.specs.Levels.{entry_size, level, group_name, children_of}
use Rattle.pack.specs.Fill.{row_size, extent_from}
use Rattle.pack.specs.Starts.{chunks_from, first_at, name_from, Starts}
use Rattle.pack.specs.declared.Extent.{Extent}
use Rattle.pack.proofs.Groups.{Single, Fit, groups_none, groups_more, groups_flat, groups_fit, groups_map, taken_some}
use Rattle.pack.proofs.Sizes.{row_bytes, rows_single}
use Rattle.pack.proofs.Filling.{extent_is}

-- ---- one chunk after another

module _ (content : ℕ) (s starts : List ℕ) (k : Kind) (n left at : ℕ) where
  abbrev rows : List Place
  rows = rows_from content s starts k left at

  pub chunks_none : rows ≡ [] → chunks_from content s starts k n left at ≡ []
  unfolding chunks_from
  chunks_none q = ap (groups (row_size k) (fits k n)) q ∙ groups_none (row_size k) (fits k n)

  singles : All (Single (row_size k) (fits k n)) rows
  singles = rows_single k n s (rows_all content s starts k left at)

  first_of : (m : ℕ) (e : Place) (es rest : List Place) → es ≡ e ∷ rest → 0 < m → first_at (take m es) ≡ e.at
  unfolding first_at
  first_of zero e es rest h p = absurd (omega arith)
  first_of (suc m) e es rest h p = rw h

  -- the first of the chunks, which takes f, and those behind it
  pub record FirstChunk (e : Place) (f : Extent) : Type 0 where
    pub chunks : chunks_from content s starts k n left at ≡ take f.count rows ∷ chunks_from content s starts k n f.left f.at
    pub first : first_at (take f.count rows) ≡ e.at
    pub less : f.left < left

  pub chunks_more : (e : Place) (f : Extent) → 0 < left → item_from content s starts k at ≡ Some e → f ≡ extent_from k n 0 0 at left rows → FirstChunk e f
  unfolding chunks_from
  chunks_more e f l q is =
      let m = taken (row_size k) (fits k n) 0 0 rows in
      let x = extent_is k n 0 0 at left rows in
      let more_rows = run_more (item_from content s starts k) left at e l q in
      let some : 0 < length rows = omega (arith, ap length more_rows) in
      let c : f.count ≡ m = ap (λ (y : Extent). y.count) is ∙ x.count ∙ zero-add m in
      let a : f.at ≡ end_of at (take m rows) = ap (λ (y : Extent). y.at) is ∙ x.ends in
      let b : f.left ≡ left - m = ap (λ (y : Extent). y.left) is ∙ x.less in
      let one : 0 < m = taken_some (row_size k) (fits k n) rows some singles in
      record {
        chunks =
            groups_more (row_size k) (fits k n) rows some singles
            ∙ ap (λ (j : ℕ). take j rows ∷ groups (row_size k) (fits k n) (drop m rows)) (sym c)
            ∙ ap (λ (l : List Place). take f.count rows ∷ groups (row_size k) (fits k n) l) (sym (ap₂ (rows_from content s starts k) b a ∙ run_drop (item_from content s starts k) m left at));
        first = ap (λ (j : ℕ). first_at (take j rows)) c ∙ first_of m e rows (rows_from content s starts k (left - 1) e.next) more_rows one;
        less = omega (arith, b, one, l);
      }

-- ---- what they hold

-- a level's chunks, apart from where their entries stand
pub chunks_level : (content : ℕ) (s starts : List ℕ) (k : Kind) (n left at : ℕ)
    → map (map (stored_of s)) (chunks_from content s starts k n left at) ≡ level n k (map (stored_of s) (rows_from content s starts k left at))
unfolding chunks_from
chunks_level content s starts k n left at =
    sym (groups_map (row_size k) (entry_size k) (fits k n) (stored_of s) (rows_from content s starts k left at)
    (all_weaken (λ (e : Place) (r : Row s e). row_bytes k s e r.inside) (rows_all content s starts k left at)))

-- the listing level: the input
pub chunks_given : (content : ℕ) (s starts : List ℕ) (n : ℕ)
    → map (map (stored_of s)) (chunks_from content s starts Listing n (length s) 0) ≡ level n Listing (given content s)
unfolding given item_from
chunks_given content s starts n = chunks_level content s starts Listing n (length s) 0

-- an index level: one entry for each chunk whose first name is known

name_there : (s : List ℕ) (p : ℕ) → 0 < length (name_from s p) → (len : ℕ) × (start : ℕ) × (name_at s p ≡ Some (len, start)) × (name_from s p ≡ part s start len)
unfolding name_from
name_there s p h = go (name_at s p) refl h
  where
    go : (r : Option (ℕ × ℕ)) → name_at s p ≡ r → 0 < length (with_number r [] (λ len start. part s start len))
        → (len : ℕ) × (start : ℕ) × (name_at s p ≡ Some (len, start)) × (with_number r [] (λ len start. part s start len) ≡ part s start len)
    go None e h = absurd (omega arith)
    go (Some (len, start)) e h = (len, start, e, refl)

children : (content : ℕ) (s front ps : List ℕ) (gs : List (List Stored)) → Starts s ps gs
    → map (stored_of s) (rows_from content s (front ++ ps) Index (length ps) (length front)) ≡ children_of (length front) gs
unfolding children_of item_from index_entry_for
children content s front [] [] Starts.none = ap (map (stored_of s)) (run_spent (item_from content s (front ++ []) Index) 0 (length front) (omega arith))
children content s front [] (g ∷ gs) x'' = elim x'' [ ]
children content s front (p ∷ ps) [] x3 = elim x3 [ ]
children content s front (p ∷ ps) (g ∷ gs) (Starts.more e some rest) =
    let c = length front in
    let starts : List ℕ = front ++ (p ∷ ps) in
    let l : c < length starts = omega (arith, length-append front (p ∷ ps)) in
    let t = name_there s p (subst (λ (y : List ℕ). 0 < length y) (sym e) some) in
    let row : Place = record { at = get_or starts c 0; start = t.1; len = t.0; section = 0; offset = 0; size = 0; child = c; next = c + 1 } in
    let v : get_or starts c 0 ≡ p = get_or-append_seam front p ps 0 in
    let q : item_from content s starts Index c ≡ Some row = rw (lt-ltb c (length starts) l, v, t.2) in
    let snoc : starts ≡ (front ++ (p ∷ [])) ++ ps = sym (append_snoc front p ps) in
    let n : c + 1 ≡ length (front ++ (p ∷ [])) = sym (length-append front (p ∷ [])) in
    let z : length (p ∷ ps) - 1 ≡ length ps = omega arith in
    ap (map (stored_of s)) (run_more (item_from content s starts Index) (length (p ∷ ps)) c row (omega arith) q)
    ∙ ap₂ (λ (x : List ℕ) (r : List Stored). record { name = x; section = 0; offset = 0; size = 0; child = c } ∷ r) (sym t.3 ∙ e)
    (ap₂ (λ (y : List ℕ) (j : ℕ). map (stored_of s) (rows_from content s y Index (length (p ∷ ps) - 1) j)) snoc n
    ∙ ap (λ (j : ℕ). map (stored_of s) (rows_from content s ((front ++ (p ∷ [])) ++ ps) Index j (length (front ++ (p ∷ []))))) z
    ∙ children content s (front ++ (p ∷ [])) ps gs rest ∙ ap (λ (j : ℕ). children_of j gs) (sym n))

pub chunks_children : (content : ℕ) (s front ps : List ℕ) (n : ℕ) (gs : List (List Stored)) → Starts s ps gs
    → map (map (stored_of s)) (chunks_from content s (front ++ ps) Index n (length ps) (length front)) ≡ level n Index (children_of (length front) gs)
chunks_children content s front ps n gs h = chunks_level content s (front ++ ps) Index n (length ps) (length front) ∙ ap (level n Index) (children content s front ps gs h)

-- ---- their first names

-- the first row of a chunk stands where its name does
starts_all : (s : List ℕ) (gs : List (List Place)) → All (λ g. 0 < length g) gs → All (All (Row s)) gs → Starts s (map first_at gs) (map (map (stored_of s)) gs)
unfolding first_at group_name name_from
starts_all s [] none none = Starts.none
starts_all s ([] ∷ gs) (more p ps) (more r rs) = absurd (omega arith)
starts_all s ((e ∷ g) ∷ gs) (more p ps) (more r rs) =
    let w = all_first r in
    let l = length_part s e.start e.len w.inside in
    let n : with_number (name_at s e.at) [] (λ len start. part s start len) ≡ part s e.start e.len = rw w.named in
    Starts.more {g = stored_of s e ∷ map (stored_of s) g} n (omega (arith, w.some)) (starts_all s gs ps rs)

pub starts_of : (content : ℕ) (s starts : List ℕ) (k : Kind) (n left at : ℕ)
    → Starts s (map first_at (chunks_from content s starts k n left at)) (map (map (stored_of s)) (chunks_from content s starts k n left at))
unfolding chunks_from
starts_of content s starts k n left at =
    let rows = rows_from content s starts k left at in
    let gs = groups (row_size k) (fits k n) rows in
    let a = rows_all content s starts k left at in
    starts_all s gs
    (all_weaken (λ (g : List Place) (f : Fit (row_size k) (fits k n) g). f.some) (groups_fit (row_size k) (fits k n) rows (rows_single k n s a)))
    (all_parts gs (subst (All (Row s)) (sym (groups_flat (row_size k) (fits k n) rows)) a))
