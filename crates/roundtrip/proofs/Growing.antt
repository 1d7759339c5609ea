-- The tree of a new directory, level by level: what holds of a level's chunks holds of those of the level above, up to the level with a single
-- chunk. A level is written `suc l`: listing chunks have level 1.
use Rattle.fields.proofs.Base.{◌≡◌, refl, sym, ap, ap₂, subst, ◌∙◌, inl, inr, true, List, [], ◌∷◌, ◌++◌, flat_map, flatten, ℕ, zero, suc, ◌+◌, ◌≤◌, ◌<◌, arith, dec_le, length, length-append, ltb, ltb-true}
use borrow.Author.Tests.{ltb-false}
use Rattle.fields.specs.Same.{same}
use Rattle.fields.proofs.Same.{same_self}
use Rattle.entries.specs.declared.Kind.TheVariants.{Index}
use Rattle.chunk.specs.Chunk.{Parsed, entries_in}
use Rattle.chunk_fields.specs.ChunkFields.{first_place}
use Rattle.tree.specs.Shape as shape
use Rattle.tree.specs.Lists.{In, all_of}
use Rattle.tree.specs.Shape.{Shape, is_index, index_chunk}
use Rattle.tree.specs.Tree.{leaves, index_chunks, shaped}
use Rattle.tree.proofs.Lists.{on_test, in_flat, flat_in}
use Rattle.tree.proofs.Chunks.{is_index_lem}
use Rattle.tree.proofs.Shaped.{child_ok}
use Rattle.entries.specs.Stored.{Stored}
use Rattle.fields.proofs.Lists.{All, none, more, all_parts, flat_append}
use Rattle.pack.specs.Groups.{fits}
use Rattle.pack.specs.Levels.{entry_size, group_name, children_of, levels_above}
use Rattle.pack.proofs.Groups.{groups_flat, groups_some}
use Rattle.pack.proofs.Above.{upper, above_more, above_none, length_children}
use Rattle.compose.proofs.Placed.{placed_from}
use Rattle.roundtrip.proofs.Numbers.{numbers, in_numbers}
use Rattle.roundtrip.proofs.Stand.{as_node, Stand, stand_left, stand_right, placed_first}

-- ---- lists taken over the children

module _ (f : ℕ → List ℕ) where
  flat_placed : (at : ℕ) (g : List Stored) → flat_map (λ e. f e.child) (placed_from Index at g) ≡ flat_map (λ e. f e.child) g
  unfolding flat_map placed_from
  flat_placed at [] = refl
  flat_placed at (e ∷ g) = ap (λ (l : List ℕ). f e.child ++ l) (flat_placed (at + entry_size Index e) g)

  flat_children : (c : ℕ) (gs : List (List Stored)) → flat_map (λ e. f e.child) (children_of c gs) ≡ flat_map f (numbers c (length gs))
  unfolding flat_map children_of numbers
  flat_children c [] = refl
  flat_children c (g ∷ gs) = ap (λ (l : List ℕ). f c ++ l) (flat_children (c + 1) gs)

  -- of the chunks from number c on
  flat_stand : (D : ℕ → Parsed) (c : ℕ) (gs : List (List Stored)) → Stand D as_node c gs
      → flat_map (λ x. flat_map (λ e. f e.child) (entries_in (D x))) (numbers c (length gs)) ≡ flat_map (λ e. f e.child) (flatten gs)
  unfolding flat_map numbers flatten
  flat_stand D c [] s = refl
  flat_stand D c (g ∷ gs) s =
      ap₂ (λ (a b : List ℕ). a ++ b) (ap (λ (x : Parsed). flat_map (λ e. f e.child) (entries_in x)) s.0 ∙ flat_placed (first_place Index) g) (flat_stand D (c + 1) gs s.1)
      ∙ sym (flat_append (λ e. f e.child) g (flatten gs))

module _ (D : ℕ → Parsed) (H : Shape) (m : ℕ) where
  -- the chunks from number c on have the level `suc l`, and the first names of these lists
  abbrev pub Named : ℕ → ℕ → List (List Stored) → Type 0
  Named l c [] = Unit {0}
  Named l c (g ∷ gs) = (shape.first_name (D c) ≡ group_name g) × (shaped D H (suc l) c ≡ true) × Named l (c + 1) gs

  -- a level, whose chunks are numbered from c on: under them are the m listing chunks in order, and at or under them all index chunks so far
  pub record Level (l c : ℕ) (gs : List (List Stored)) : Type 0 where
    pub named : Named l c gs
    pub listed : flat_map (leaves D (suc l)) (numbers c (length gs)) ≡ numbers 0 m
    pub holds : (x : ℕ) → m ≤ x → x < c + length gs → In x (flat_map (index_chunks D (suc l)) (numbers c (length gs)))

  -- ---- one level more

  -- an index entry that its child bears out
  abbrev Child : ℕ → Stored → Type 0
  Child l e = (e.name ≡ shape.first_name (D e.child)) × (shaped D H (suc l) e.child ≡ true)

  children_right : (l c : ℕ) (gs : List (List Stored)) → Named l c gs → All (Child l) (children_of c gs)
  unfolding children_of
  children_right l c [] h = none
  children_right l c (g ∷ gs) h = more (sym h.0, h.1) (children_right l (c + 1) gs h.2)

  children_pass : (l at : ℕ) (g : List Stored) → All (Child l) g → all_of (child_ok D H l) (placed_from Index at g) ≡ true
  unfolding placed_from
  children_pass l at [] none = refl
  children_pass l at (e ∷ g) (more p ps) =
      let s : same e.name (shape.first_name (D e.child)) ≡ true = subst (λ (y : List ℕ). same e.name y ≡ true) p.0 (same_self e.name) in
      rw (s, p.1, children_pass l (at + entry_size Index e) g ps)

  named_up : (l c : ℕ) (gs : List (List Stored)) → c + length gs ≤ H.count → All (All (Child l)) gs → Stand D as_node c gs → Named (suc l) c gs
  unfolding shaped
  named_up l c [] b none s = tt
  named_up l c (g ∷ gs) b (more p ps) s =
      let k : index_chunk D H c ≡ true = is_index_lem D H c (omega arith) ∙ ap is_index s.0 in
      let a : all_of (child_ok D H l) (entries_in (D c)) ≡ true = rw s.0 (children_pass l (first_place Index) g p) in
      (rw s.0 (placed_first Index (first_place Index) g), rw (k, a), named_up l (c + 1) gs (omega arith) ps s.1)

  module _ (l c : ℕ) (gs up : List (List Stored)) (whole : flatten up ≡ children_of c gs) (s : Stand D as_node (c + length gs) up) where
    abbrev above : List ℕ
    above = numbers (c + length gs) (length up)

    flat_up : (f : ℕ → List ℕ) → flat_map (λ x. flat_map (λ e. f e.child) (entries_in (D x))) above ≡ flat_map f (numbers c (length gs))
    flat_up f = flat_stand f D (c + length gs) up s ∙ (ap (flat_map (λ e. f e.child)) whole ∙ flat_children f c gs)

    holds_up : Level l c gs → (x : ℕ) → m ≤ x → x < c + length gs + length up → In x (flat_map (index_chunks D (suc (suc l))) above)
    unfolding index_chunks
    holds_up v x a b =
        let f : ℕ → List ℕ = λ y. flat_map (λ e. index_chunks D (suc l) e.child) (entries_in (D y)) in
        on_test (ltb x (c + length gs))
        (λ t.
        let i : In x (flat_map f above) = subst (In x) (sym (flat_up (index_chunks D (suc l)))) (v.holds x a (ltb-true x (c + length gs) t)) in
        let r = flat_in f above x i in
        in_flat (index_chunks D (suc (suc l))) above r.0 x r.1 (inr r.2))
        (λ t. in_flat (index_chunks D (suc (suc l))) above x x (in_numbers (c + length gs) (length up) x (ltb-false x (c + length gs) t) b) (inl refl))

    level_up : c + length gs + length up ≤ H.count → Level l c gs → Level (suc l) (c + length gs) up
    unfolding leaves
    level_up b v =
        let right : All (Child l) (flatten up) = subst (All (Child l)) (sym whole) (children_right l c gs v.named) in
        record {
          named = named_up l (c + length gs) up b (all_parts up right) s;
          listed = flat_up (leaves D (suc l)) ∙ v.listed;
          holds = holds_up v;
        }

  -- ---- up to the top

  -- the level with a single chunk, which is the last of the chunks gs, numbered from c on, and the levels above them
  pub record Top (l c : ℕ) (gs : List (List Stored)) (ls : List (List (List Stored))) : Type 0 where
    pub number : ℕ
    pub group : List Stored
    pub level : Level (l + length ls) number (group ∷ [])
    pub last : number + 1 ≡ c + length gs + length (flatten ls)
    pub alone : length ls ≡ 0 → number ≡ c

  top_here : (l c : ℕ) (gs : List (List Stored)) → 0 < length gs → length gs ≤ 1 → Level l c gs → Top l c gs []
  unfolding flatten
  top_here l c [] p q v = absurd (omega arith)
  top_here l c (g ∷ []) p q v = record { number = c; group = g; level = subst (λ (k : ℕ). Level k c (g ∷ [])) (omega arith) v; last = omega arith; alone = λ z. refl }
  top_here l c (g ∷ h ∷ gs) p q v = absurd (omega arith)

  top_above : (l c : ℕ) (gs up : List (List Stored)) (ls : List (List (List Stored))) → Top (suc l) (c + length gs) up ls → Top l c gs (up ∷ ls)
  unfolding flatten
  top_above l c gs up ls t =
      record {
        number = t.number;
        group = t.group;
        level = subst (λ (k : ℕ). Level k t.number (t.group ∷ [])) (omega arith) t.level;
        last = omega (arith, t.last, length-append up (flatten ls));
        alone = λ z. absurd (omega arith);
      }

  -- what is known of levels above the chunks gs, which are numbered from c on: there are fewer than d, and their chunks stand in the directory
  pub record Above (d c : ℕ) (gs : List (List Stored)) (ls : List (List (List Stored))) : Type 0 where
    pub few : length ls < d
    pub room : c + length gs + length (flatten ls) ≤ H.count
    pub stands : Stand D as_node (c + length gs) (flatten ls)

  above_lower : (d c : ℕ) (gs up : List (List Stored)) (ls : List (List (List Stored))) → Above (suc d) c gs (up ∷ ls)
      → (c + length gs + length up ≤ H.count) × Stand D as_node (c + length gs) up × Above d (c + length gs) up ls
  unfolding flatten
  above_lower d c gs up ls a =
      let n = length-append up (flatten ls) in (
        omega (arith, a.room),
        stand_left D as_node (c + length gs) up (flatten ls) a.stands,
        record {
          few = omega (arith, a.few);
          room = omega (arith, a.room);
          stands = stand_right D as_node (c + length gs) up (flatten ls) a.stands;
        },
      )

  pub reach : (n d l c : ℕ) (gs : List (List Stored)) → 0 < length gs → Above d c gs (levels_above n d c gs) → Level l c gs → Top l c gs (levels_above n d c gs)
  reach n zero l c gs some a v = absurd (omega (arith, a.few))
  reach n (suc d) l c gs some a v =
      elim (dec_le (length gs) 1) [
        | yes h ↦ subst (Top l c gs) (sym (above_none n (suc d) c gs h)) (top_here l c gs some h v)
        | no h ↦
            let up = upper n d c gs in
            let ls = levels_above n d (c + length gs) up in
            let q : levels_above n (suc d) c gs ≡ up ∷ ls = above_more n d c gs (omega arith) in
            let b = above_lower d c gs up ls (subst (Above (suc d) c gs) q a) in
            let whole : flatten up ≡ children_of c gs = groups_flat (entry_size Index) (fits Index n) (children_of c gs) in
            let full : 0 < length up = groups_some (entry_size Index) (fits Index n) (children_of c gs) (omega (arith, length_children c gs)) in
            let w = reach n d (suc l) (c + length gs) up full b.2 (level_up l c gs up whole b.1 b.0 v) in
            subst (Top l c gs) (sym q) (top_above l c gs up ls w)
      ]
