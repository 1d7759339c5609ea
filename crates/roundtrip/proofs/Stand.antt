-- Chunks that stand one behind another in a directory, each for a list of entries, and the first and the last name of a chunk.
use Rattle.fields.proofs.Base.{◌≡◌, refl, subst, true, List, [], ◌∷◌, ◌++◌, ℕ, suc, ◌+◌, ◌<◌, arith, length, get_or}
use Rattle.names.specs.Names.{below}
use Rattle.entries.specs.declared.Kind.{Kind}
use Rattle.entries.specs.declared.Kind.TheVariants.{Listing, Index}
use Rattle.chunk.specs.Chunk.{Parsed}
use Rattle.quickref.specs.Quickref.{Sought, absent, found, nth, name_in, final}
use Rattle.entries.proofs.Rising.{rising_more}
use Rattle.entries.specs.Rising.{rising}
use Rattle.entries.specs.Stored.{Stored, stored_name}
use Rattle.pack.specs.Levels.{entry_size, group_name}
use Rattle.compose.proofs.Placed.{placed, placed_from, new_parsed}
use Rattle.layout.specs.Layout.{new_previous, new_next}

-- what the entries of chunk c mean: in one of m listing chunks, and in an index chunk
abbrev pub as_leaf : ℕ → ℕ → List Stored → Parsed
as_leaf m c g = new_parsed Listing (new_previous c) (new_next m c) g

abbrev pub as_node : ℕ → List Stored → Parsed
as_node c g = new_parsed Index 0 0 g

module _ (D : ℕ → Parsed) (f : ℕ → List Stored → Parsed) where
  -- the chunks from number c on are these, one behind another
  abbrev pub Stand : ℕ → List (List Stored) → Type 0
  Stand c [] = Unit {0}
  Stand c (g ∷ gs) = (D c ≡ f c g) × Stand (c + 1) gs

  pub stand : (c : ℕ) (gs : List (List Stored)) → ((i : ℕ) → i < length gs → D (c + i) ≡ f (c + i) (get_or gs i [])) → Stand c gs
  stand c [] h = tt
  stand c (g ∷ gs) h = (
    subst (λ (x : ℕ). D x ≡ f x g) (omega arith) (h 0 (omega arith)),
    stand (c + 1) gs (λ i l. subst (λ (x : ℕ). D x ≡ f x (get_or gs i [])) (omega arith) (h (suc i) (omega arith))),
  )

  pub stand_left : (c : ℕ) (a b : List (List Stored)) → Stand c (a ++ b) → Stand c a
  stand_left c [] b s = tt
  stand_left c (g ∷ a) b s = (s.0, stand_left (c + 1) a b s.1)

  pub stand_right : (c : ℕ) (a b : List (List Stored)) → Stand c (a ++ b) → Stand (c + length a) b
  stand_right c [] b s = subst (λ (x : ℕ). Stand x b) (omega arith) s
  stand_right c (g ∷ a) b s = subst (λ (x : ℕ). Stand x b) (omega arith) (stand_right (c + 1) a b s.1)

-- ---- names

module _ (k : Kind) where
  pub placed_first : (at : ℕ) (g : List Stored) → name_in (nth 0 (placed_from k at g)) ≡ group_name g
  unfolding placed_from nth group_name
  placed_first at [] = refl
  placed_first at (e ∷ g) = refl

  -- what comes behind a chunk rises from its last name
  behind_last : (at : ℕ) (s : Sought) (g rest : List Stored) → rising stored_name (name_in s) (g ++ rest) ≡ true → rising stored_name (name_in (final s (placed_from k at g))) rest ≡ true
  unfolding placed_from final
  behind_last at s [] rest h = h
  behind_last at s (e ∷ g) rest h =
      behind_last (at + entry_size k e) (found (placed k at e)) g rest (rising_more stored_name (name_in s) e (g ++ rest) h).1

  pub placed_last : (at : ℕ) (last : List ℕ) (g rest : List Stored) → 0 < length g → rising stored_name last (g ++ rest) ≡ true
      → rising stored_name (name_in (final absent (placed_from k at g))) rest ≡ true
  unfolding placed_from final
  placed_last at last [] rest p h = absurd (omega arith)
  placed_last at last (e ∷ g) rest p h =
      behind_last (at + entry_size k e) (found (placed k at e)) g rest (rising_more stored_name last e (g ++ rest) h).1

-- entries that rise have the first name above the one before
pub rising_first : (last : List ℕ) (g rest : List Stored) → 0 < length g → rising stored_name last (g ++ rest) ≡ true → below last (group_name g) ≡ true
unfolding group_name
rising_first last [] rest p h = absurd (omega arith)
rising_first last (e ∷ g) rest p h = (rising_more stored_name last e (g ++ rest) h).0
