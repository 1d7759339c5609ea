-- The index chunks of a new directory: their names rise, and their entries are such as an index chunk takes.
use Rattle.fields.proofs.Base.{◌≡◌, refl, sym, subst, Bool, true, false, cond, List, [], ◌∷◌, flatten, ℕ, zero, suc, ◌+◌, ◌≤◌, ◌<◌, arith, length, length-append, leb}
use Rattle.entries.specs.declared.Kind.{Kind}
use Rattle.entries.specs.declared.Kind.TheVariants.{Index}
use Rattle.entries.specs.Rising.{rising}
use Rattle.entries.specs.Stored.{Stored, stored_name}
use Rattle.fields.proofs.Lists.{All, none, more, all_weaken, all_append, all_parts}
use Rattle.pack.specs.Groups.{fits}
use Rattle.pack.specs.Levels.{entry_size, level, group_name, children_of, levels_above}
use Rattle.pack.proofs.Groups.{Fit, groups_flat}
use Rattle.pack.proofs.Fitting.{Short, level_fit}
use Rattle.layout.proofs.Rising.{Named, Some, groups_rise, children_rise}

-- an index entry whose child is below a bound
pub record Child (bound : ℕ) (e : Stored) : Type 0 where
  pub some : 0 < length e.name
  pub short : length e.name ≤ 1024
  pub below : e.child < bound
  pub section : e.section ≡ 0
  pub offset : e.offset ≡ 0
  pub size : e.size ≡ 0

-- a group of them
pub record Sound (bound : ℕ) (g : List Stored) : Type 0 where
  pub order : rising stored_name [] g ≡ true
  pub entries : All (Child bound) g

-- what is known of the chunks of a level
pub record Ordered (gs : List (List Stored)) : Type 0 where
  pub order : rising stored_name [] (flatten gs) ≡ true
  pub some : All Some gs
  pub named : All (All Named) gs
  pub short : All (All Short) gs

-- the entries for chunks that are numbered from c on
children : (bound c : ℕ) (gs : List (List Stored)) → All Some gs → All (All Named) gs → All (All Short) gs → c + length gs ≤ bound → All (Child bound) (children_of c gs)
unfolding children_of group_name
children bound c [] none none none h = none
children bound c ([] ∷ gs) (more s ss) ns hs h = absurd (omega arith)
children bound c ((e ∷ g) ∷ gs) (more s ss) (more (more n _) ns) (more (more t _) ts) h =
    let b : c < bound = omega arith in
    more (record { some = n; short = t; below = b; section = refl; offset = refl; size = refl }) (children bound (c + 1) gs ss ns ts (omega arith))

module _ (n : ℕ) where
  -- the level above
  abbrev up : ℕ → List (List Stored) → List (List Stored)
  up c gs = level n Index (children_of c gs)

  pub ordered_level : (k : Kind) (es : List Stored) → rising stored_name [] es ≡ true → All Named es → All Short es → Ordered (level n k es)
  ordered_level k es r ns ss =
      let flat = groups_flat (entry_size k) (fits k n) es in
      record {
        order = rw flat r;
        some = all_weaken (λ (g : List Stored) (f : Fit (entry_size k) (fits k n) g). f.some) (level_fit n k es ss);
        named = all_parts (level n k es) (subst (All Named) (sym flat) ns);
        short = all_parts (level n k es) (subst (All Short) (sym flat) ss);
      }

  module _ (bound c : ℕ) (gs : List (List Stored)) (o : Ordered gs) (h : c + length gs ≤ bound) where
    above : All (Child bound) (children_of c gs)
    above = children bound c gs o.some o.named o.short h

    above_ordered : Ordered (up c gs)
    above_ordered =
        ordered_level Index (children_of c gs) (children_rise [] c gs o.some o.order)
        (all_weaken (λ (e : Stored) (k : Child bound e). k.some) above) (all_weaken (λ (e : Stored) (k : Child bound e). k.short) above)

    above_sound : All (Sound bound) (up c gs)
    above_sound =
        let flat = groups_flat (entry_size Index) (fits Index n) (children_of c gs) in
        both (up c gs) (groups_rise [] (up c gs) above_ordered.named above_ordered.order) (all_parts (up c gs) (subst (All (Child bound)) (sym flat) above))
      where
        both : (xs : List (List Stored)) → All (λ (g : List Stored). rising stored_name [] g ≡ true) xs → All (All (Child bound)) xs → All (Sound bound) xs
        both [] none none = none
        both (x ∷ xs) (more r rs) (more e es) = more (record { order = r; entries = e }) (both xs rs es)

  -- all levels above the chunks gs, which are numbered from c on
  pub index_sound : (bound d c : ℕ) (gs : List (List Stored)) → Ordered gs → c + length gs + length (flatten (levels_above n d c gs)) ≤ bound
      → All (Sound bound) (flatten (levels_above n d c gs))
  unfolding levels_above flatten
  index_sound bound zero c gs o h = none
  index_sound bound (suc d) c gs o h =
      go (leb (length gs) 1) h (λ i. index_sound bound d (c + length gs) (up c gs) (above_ordered bound c gs o (omega arith)) i)
    where
      more_levels : List (List (List Stored))
      more_levels = levels_above n d (c + length gs) (up c gs)

      go : (t : Bool) → c + length gs + length (flatten (cond t [] (up c gs ∷ more_levels))) ≤ bound
          → (c + length gs + length (up c gs) + length (flatten more_levels) ≤ bound → All (Sound bound) (flatten more_levels))
          → All (Sound bound) (flatten (cond t [] (up c gs ∷ more_levels)))
      go true h f = none
      go false h f =
          let l = length-append (up c gs) (flatten more_levels) in
          all_append (up c gs) (flatten more_levels) (above_sound bound c gs o (omega arith)) (f (omega arith))
