-- What is sought among entries whose names rise: it stands from one that is not above the name on, and before one that is above it.
use Rattle.fields.proofs.Base.{◌≡◌, refl, sym, ap, ◌∙◌, ◌⊎◌, inl, inr, List, [], ◌∷◌, true, false, false≢true, ℕ, zero, suc, ◌≤◌, ◌<◌, arith, length, get_or, take, drop}
use Rattle.std.specs.Ordering.{is_lt}
use Rattle.names.specs.Names.{compared, below, matches}
use Rattle.std.specs.declared.cmp.Ordering.TheVariants.{Greater}
use Rattle.names.proofs.Laws.{not_greater, names_laws, is_less_true, below_less, not_less, less_not_greater, not_greater_less, flip_less}
use Rattle.entries.specs.Rising.{rising}
use Rattle.entries.specs.Entry.{Entry, entry_name}
use Rattle.entries.proofs.Rising.{rising_more, rising_at}
use Rattle.quickref.specs.Quickref.{Sought, absent, found}
use Rattle.quickref.proofs.Groups.{other}
use Rattle.seek.specs.Seek.{entry_named, choice}

-- what is below y is below a name that y is not above
below_it : (name x y : List ℕ) → below x y ≡ true → is_lt (compared name y) ≡ false → compared name x ≡ Greater
below_it name x y h q =
    let g = not_less names_laws name y (λ p. false≢true (sym q ∙ ap is_lt p)) in
    flip_less names_laws x name (less_not_greater names_laws x y name (below_less x y h) g)

module _ (name : List ℕ) where
  -- ---- nothing stands behind a name that is not below it

  pub lookup_behind : (x : List ℕ) (es : List Entry) → not_greater (compared name x) ≡ true → rising entry_name x es ≡ true → entry_named name es ≡ absent
  unfolding rising entry_named matches
  lookup_behind x [] h r = refl
  lookup_behind x (e ∷ es) h r =
      let q = rising_more entry_name x e es r in
      let l = not_greater_less names_laws name x e.name h (below_less x e.name q.0) in
      rw l (lookup_behind e.name es (ap not_greater l) q.1)

  pub choice_behind : (x : List ℕ) (es : List Entry) (last : Sought) → not_greater (compared name x) ≡ true → rising entry_name x es ≡ true → choice name last es ≡ last
  unfolding rising choice below
  choice_behind x [] last h r = refl
  choice_behind x (e ∷ es) last h r =
      let q = rising_more entry_name x e es r in
      let l = not_greater_less names_laws name x e.name h (below_less x e.name q.0) in
      rw l (choice_behind e.name es last (ap not_greater l) q.1)

  -- ---- from an entry on that is not above

  pub lookup_from : (j : ℕ) (x : List ℕ) (es : List Entry) → rising entry_name x es ≡ true → j < length es → is_lt (compared name (get_or es j other).name) ≡ false
      → entry_named name es ≡ entry_named name (drop j es)
  unfolding rising entry_named matches
  lookup_from zero x es r h q = refl
  lookup_from (suc j) x [] r h q = absurd (omega arith)
  lookup_from (suc j) x (e ∷ es) r h q =
      let b = (rising_more entry_name x e es r).1 in
      rw (below_it name e.name (get_or es j other).name (rising_at entry_name j e.name es other b (omega arith)) q) (lookup_from j e.name es b (omega arith) q)

  choice_head : (e : Entry) (es : List Entry) (before : Sought) → is_lt (compared name e.name) ≡ false → choice name before (e ∷ es) ≡ choice name absent (e ∷ es)
  unfolding choice below
  choice_head e es before q = rw q refl

  pub choice_from : (j : ℕ) (x : List ℕ) (es : List Entry) (before : Sought) → rising entry_name x es ≡ true → j < length es → is_lt (compared name (get_or es j other).name) ≡ false
      → choice name before es ≡ choice name absent (drop j es)
  unfolding rising choice below
  choice_from j x [] before r h q = absurd (omega arith)
  choice_from zero x (e ∷ es) before r h q = choice_head e es before q
  choice_from (suc j) x (e ∷ es) before r h q =
      let b = (rising_more entry_name x e es r).1 in
      rw (below_it name e.name (get_or es j other).name (rising_at entry_name j e.name es other b (omega arith)) q) (choice_from j e.name es (found e) b (omega arith) q)

  -- ---- up to an entry that is above

  -- entry m is above the name, or there is none
  abbrev pub Ends : ℕ → List Entry → Type 0
  Ends m es = (length es ≤ m) ⊎ ((m < length es) × (is_lt (compared name (get_or es m other).name) ≡ true))

  fewer : (m : ℕ) (e : Entry) (es : List Entry) → Ends (suc m) (e ∷ es) → Ends m es
  fewer m e es (inl h) = inl (omega arith)
  fewer m e es (inr h) = inr (omega arith, h.1)

  pub lookup_until : (m : ℕ) (x : List ℕ) (es : List Entry) → rising entry_name x es ≡ true → Ends m es → entry_named name es ≡ entry_named name (take m es)
  unfolding entry_named matches
  lookup_until zero x [] r h = refl
  lookup_until zero x (e ∷ es) r (inl h) = absurd (omega arith)
  lookup_until zero x (e ∷ es) r (inr h) =
      let l = is_less_true (compared name e.name) h.1 in
      rw l (lookup_behind e.name es (ap not_greater l) (rising_more entry_name x e es r).1)
  lookup_until (suc m) x [] r h = refl
  lookup_until (suc m) x (e ∷ es) r h = rw (lookup_until m e.name es (rising_more entry_name x e es r).1 (fewer m e es h)) refl

  pub choice_until : (m : ℕ) (x : List ℕ) (es : List Entry) (last : Sought) → rising entry_name x es ≡ true → Ends m es → choice name last es ≡ choice name last (take m es)
  unfolding choice below
  choice_until zero x [] last r h = refl
  choice_until zero x (e ∷ es) last r (inl h) = absurd (omega arith)
  choice_until zero x (e ∷ es) last r (inr h) =
      let l = is_less_true (compared name e.name) h.1 in
      rw l (choice_behind e.name es last (ap not_greater l) (rising_more entry_name x e es r).1)
  choice_until (suc m) x [] last r h = refl
  choice_until (suc m) x (e ∷ es) last r h = choice_until m e.name es _ (rising_more entry_name x e es r).1 (fewer m e es h)
