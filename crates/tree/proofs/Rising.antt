-- Entries whose names rise: what `rising` says of any two of them, how lists of them are put together, and what the searches find among them.
use Rattle.fields.proofs.Base.{◌≡◌, refl, ◌⊎◌, inl, inr, ⊎_elim, true, false, List, [], ◌∷◌, ◌++◌, ℕ}
use Rattle.fields.proofs.Tests.{never}
use Rattle.names.specs.Names.{below, matches}
use Rattle.names.proofs.Laws.{below_trans}
use Rattle.entries.specs.Rising.{rising}
use Rattle.entries.specs.Entry.{Entry, entry_name}
use Rattle.entries.proofs.Rising.{rising_more}
use Rattle.quickref.specs.Quickref.{Sought, absent, found, nth, name_in, final}
use Rattle.seek.specs.Seek.{entry_named, choice}
use Rattle.tree.specs.Lists.{In, Each}
use Rattle.tree.proofs.Lists.{on_test}
use Rattle.tree.proofs.Alike.{before_equal}

-- ---- any two entries

-- the one's name comes before the other's
abbrev pub Before : Entry → Entry → Type 0
Before d e = below d.name e.name ≡ true

-- `last` comes before every name
rising_all : (last : List ℕ) (es : List Entry) → rising entry_name last es ≡ true → (e : Entry) → In e es → below last e.name ≡ true
rising_all last [] h e m = elim m [ ]
rising_all last (d ∷ es) h e (inl q) = rw q (rising_more entry_name last d es h).0
rising_all last (d ∷ es) h e (inr m) =
    let t = rising_more entry_name last d es h in
    below_trans last d.name e.name t.0 (rising_all d.name es t.1 e m)

pub rising_each : (last : List ℕ) (es : List Entry) → rising entry_name last es ≡ true → Each Before es
rising_each last [] h = tt
rising_each last (e ∷ es) h =
    let t = rising_more entry_name last e es h in
    ((λ d m. rising_all e.name es t.1 d m), rising_each e.name es t.1)

-- ---- lists put together

-- a list may stand behind another name, if its first name does
pub rising_behind : (x last : List ℕ) (es : List Entry) → rising entry_name last es ≡ true → below x (name_in (nth 0 es)) ≡ true → rising entry_name x es ≡ true
unfolding rising nth
rising_behind x last [] h b = refl
rising_behind x last (e ∷ es) h b = rw (b, (rising_more entry_name last e es h).1)

-- one list behind another, whose last name is below its names
pub rising_append : (last : List ℕ) (e : Entry) (es ds : List Entry) → rising entry_name last (e ∷ es) ≡ true → rising entry_name (name_in (final absent (e ∷ es))) ds ≡ true
    → rising entry_name last ((e ∷ es) ++ ds) ≡ true
unfolding rising final
rising_append last e [] ds h k = rw ((rising_more entry_name last e [] h).0, k)
rising_append last e (d ∷ es) ds h k =
    let t = rising_more entry_name last e (d ∷ es) h in
    rw t.0 (rising_append e.name d es ds t.1 k)

-- ---- the entry of a name

module _ (name : List ℕ) where
  pub lookup_only : (es : List Entry) → Each Before es → (e : Entry) → In e es → matches name e.name ≡ true → entry_named name es ≡ found e
  unfolding entry_named
  lookup_only [] r e m k = elim m [ ]
  lookup_only (d ∷ es) r e (inl q) k = rw (← q, k)
  lookup_only (d ∷ es) r e (inr m) k = rw (before_equal name e.name k d.name (r.0 e m)) (lookup_only es r.1 e m k)

  pub lookup_in : (es : List Entry) (e : Entry) → entry_named name es ≡ found e → In e es × (matches name e.name ≡ true)
  unfolding entry_named
  lookup_in [] e h = never (cc)
  lookup_in (d ∷ es) e h =
      on_test (matches name d.name)
      (λ t. let h' : found d ≡ found e = rw t at h in let q : e ≡ d = cc in (inl q, rw q t))
      (λ t. let r = lookup_in es e (rw t at h) in (inr r.0, r.1))

  -- ---- the entry to go down from

  -- where all names are above, it is that of the entries before
  pub choice_above : (last : Sought) (es : List Entry) → ((e : Entry) → In e es → below name e.name ≡ true) → choice name last es ≡ last
  unfolding choice
  choice_above last [] h = refl
  choice_above last (e ∷ es) h = rw (h e (inl refl)) (choice_above last es (λ d m. h d (inr m)))

  -- an entry of es, whose name is not above
  abbrev pub Chosen : List Entry → Sought → Type 0
  Chosen es r = (e : Entry) × (r ≡ found e) × In e es × (below name e.name ≡ false)

  further : (d : Entry) (es : List Entry) (r : Sought) → Chosen es r → Chosen (d ∷ es) r
  further d es r k = (k.0, k.1, inr k.2, k.3)

  -- it is that of the entries before, or one of these
  pub choice_in : (last : Sought) (es : List Entry) → (choice name last es ≡ last) ⊎ Chosen es (choice name last es)
  unfolding choice
  choice_in last [] = inl refl
  choice_in last (d ∷ es) =
      on_test (below name d.name)
      (λ t. rw t (⊎_elim (λ q. inl q) (λ k. inr (further d es _ k)) (choice_in last es)))
      (λ t. rw t (⊎_elim (λ q. inr (d, q, inl refl, t)) (λ k. inr (further d es _ k)) (choice_in (found d) es)))

  -- where the first name is not above, it is one of these
  pub choice_some : (last : Sought) (e : Entry) (es : List Entry) → below name e.name ≡ false → Chosen (e ∷ es) (choice name last (e ∷ es))
  unfolding choice
  choice_some last e es t = rw t (⊎_elim (λ q. (e, q, inl refl, t)) (λ k. further e es _ k) (choice_in (found e) es))
