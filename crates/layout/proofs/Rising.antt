-- Names that rise, cut into groups: they rise in each group, and so do the groups' first names.
use Rattle.fields.proofs.Base.{◌≡◌, refl, true, List, [], ◌∷◌, ◌++◌, flatten, ℕ, ◌+◌, ◌<◌, arith, length}
use Rattle.names.specs.Names.{below}
use Rattle.names.proofs.Laws.{below_none}
use Rattle.entries.specs.Rising.{rising}
use Rattle.entries.specs.Stored.{Stored, stored_name}
use Rattle.entries.proofs.Rising.{rising_more, more_rising, rising_left, rising_right}
use Rattle.fields.proofs.Lists.{All, none, more}
use Rattle.pack.specs.Levels.{group_name, children_of}

-- an entry has a name; a group has an entry
abbrev pub Named : Stored → Type 0
Named e = 0 < length e.name

abbrev pub Some : List Stored → Type 0
Some g = 0 < length g

above_none : (a : List ℕ) → 0 < length a → below [] a ≡ true
above_none [] h = absurd (omega arith)
above_none (x ∷ a) h = below_none x a

rising_anew : (last : List ℕ) (g : List Stored) → All Named g → rising stored_name last g ≡ true → rising stored_name [] g ≡ true
unfolding rising
rising_anew last [] none r = refl
rising_anew last (e ∷ g) (more h hs) r = more_rising stored_name [] e g (above_none e.name h) (rising_more stored_name last e g r).1

-- ---- in each group

pub groups_rise : (last : List ℕ) (gs : List (List Stored)) → All (All Named) gs → rising stored_name last (flatten gs) ≡ true → All (λ (g : List Stored). rising stored_name [] g ≡ true) gs
unfolding flatten
groups_rise last [] none r = none
groups_rise last (g ∷ gs) (more h hs) r =
    more (rising_anew last g h (rising_left stored_name last g (flatten gs) r)) (groups_rise last gs hs (rising_right stored_name last g (flatten gs) r))

-- ---- the first names

pub children_rise : (last : List ℕ) (c : ℕ) (gs : List (List Stored)) → All Some gs → rising stored_name last (flatten gs) ≡ true → rising stored_name last (children_of c gs) ≡ true
unfolding flatten children_of group_name rising
children_rise last c [] none r = refl
children_rise last c ([] ∷ gs) (more h hs) r = absurd (omega arith)
children_rise last c ((e ∷ g) ∷ gs) (more h hs) r =
    let m = rising_more stored_name last e (g ++ flatten gs) r in
    rw m.0 (children_rise e.name (c + 1) gs hs (rising_right stored_name e.name g (flatten gs) m.1))
