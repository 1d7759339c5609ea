-- On a chunk that passes its check, each search over its bytes is the search among its entries.
--     find_good      the entry of a name
--     choose_good    the entry to go down from
use Rattle.fields.proofs.Base.{◌≡◌, refl, sym, ap, subst, ◌∙◌, List, [], ◌∷◌, true, cond, ℕ, zero, suc, ◌-◌, ◌*◌, ◌≤◌, arith, take, drop, Option, Some, None}
use Rattle.std.specs.Ordering.{is_lt, is_eq}
use Rattle.names.proofs.Laws.{not_greater}
use Rattle.names.specs.Names.{compared, below, matches}
use Rattle.std.specs.declared.cmp.Ordering.{Ordering}
use Rattle.std.specs.declared.cmp.Ordering.TheVariants.{Less, Equal, Greater}
use Rattle.entries.specs.Entry.{name_of, Entry, entry_of, entry_name}
use Rattle.entries.specs.declared.Limits.{Limits}
use Rattle.entries.specs.declared.Place.{Place}
use Rattle.entries.specs.declared.Kind.TheVariants.{Listing, Index}
use Rattle.entries.specs.Rising.{rising}
use Rattle.chunk.specs.Chunk.{all, entries_at, parsed, entries_in, is_kind}
use Rattle.chunk_fields.specs.ChunkFields.{entry_count, tail_length, spacing_of}
use Rattle.entries.proofs.Rising.{rising_more, rising_take, rising_drop}
use Rattle.chunk.proofs.Accepted.{chunk_accepted, entries_more}
use Rattle.quickref.specs.Quickref.{absent, found, sought_of, group_at}
use Rattle.quickref.proofs.Groups.{group_entries}
use Rattle.halving.specs.Halving.{group_in, size_in}
use Rattle.halving.proofs.Same.{last_inside, group_right}
use Rattle.seek.specs.Seek.{by_order, entry_named, choice, find_at, choose_at, find_in, choose_in}
use Rattle.seek.proofs.Behind.{lookup_behind, choice_behind}
use Rattle.seek.proofs.Groups.{group_lookup, group_choice}

-- ---- the entry of a name

find_here : (s name : List ℕ) (p : Place) (h : Option Place) (es : List Entry) (o : Ordering) → compared name (name_of s p) ≡ o → rising entry_name (name_of s p) es ≡ true
    → sought_of s h ≡ entry_named name es → sought_of s (by_order o None (Some p) h) ≡ cond (is_eq o) (found (entry_of s p)) (entry_named name es)
find_here s name p h es Less q r e = sym (lookup_behind name (name_of s p) es (ap not_greater q) r)
find_here s name p h es Equal q r e = refl
find_here s name p h es Greater q r e = e

-- among the first m of n entries
find_all : (limits : Limits) (s name : List ℕ) (end n m at : ℕ) (x : List ℕ) (es : List Entry) → m ≤ n → entries_at limits Listing s end n at ≡ all es → rising entry_name x es ≡ true
    → sought_of s (find_at limits s (compared name) m at) ≡ entry_named name (take m es)
unfolding find_at entry_named matches
find_all limits s name end n zero at x es l e r = refl
find_all limits s name end zero (suc m) at x es l e r = absurd (omega arith)
find_all limits s name end (suc n) (suc m) at x es l e r =
    let t = entries_more limits Listing s end n at es e in
    let p = t.0 in
    let q = rising_more entry_name x (entry_of s p) t.1 (subst (λ (l : List Entry). rising entry_name x l ≡ true) t.3 r) in
    let i = find_all limits s name end n m p.next (name_of s p) t.1 (omega arith) t.4 q.1 in
    let here : sought_of s (find_at limits s (compared name) (suc m) at) ≡ entry_named name (take (suc m) (entry_of s p ∷ t.1)) =
    rw t.2 (find_here s name p (find_at limits s (compared name) m p.next) (take m t.1) (compared name (name_of s p)) refl (rising_take entry_name m (name_of s p) t.1 q.1) i) in
    here ∙ ap (λ (l : List Entry). entry_named name (take (suc m) l)) (sym t.3)

-- ---- the entry to go down from

choose_here : (s name : List ℕ) (p : Place) (best h : Option Place) (es : List Entry) (o : Ordering) → compared name (name_of s p) ≡ o → rising entry_name (name_of s p) es ≡ true
    → sought_of s h ≡ choice name (found (entry_of s p)) es
    → sought_of s (by_order o best (Some p) h) ≡ choice name (cond (is_lt o) (sought_of s best) (found (entry_of s p))) es
choose_here s name p best h es Less q r e = sym (choice_behind name (name_of s p) es (sought_of s best) (ap not_greater q) r)
choose_here s name p best h es Equal q r e = sym (choice_behind name (name_of s p) es (found (entry_of s p)) (ap not_greater q) r)
choose_here s name p best h es Greater q r e = e

choose_all : (limits : Limits) (s name : List ℕ) (end n m at : ℕ) (x : List ℕ) (best : Option Place) (es : List Entry) → m ≤ n → entries_at limits Index s end n at ≡ all es → rising entry_name x es ≡ true
    → sought_of s (choose_at limits s (compared name) best m at) ≡ choice name (sought_of s best) (take m es)
unfolding choose_at choice below
choose_all limits s name end n zero at x best es l e r = refl
choose_all limits s name end zero (suc m) at x best es l e r = absurd (omega arith)
choose_all limits s name end (suc n) (suc m) at x best es l e r =
    let t = entries_more limits Index s end n at es e in
    let p = t.0 in
    let q = rising_more entry_name x (entry_of s p) t.1 (subst (λ (l : List Entry). rising entry_name x l ≡ true) t.3 r) in
    let i = choose_all limits s name end n m p.next (name_of s p) (Some p) t.1 (omega arith) t.4 q.1 in
    let here : sought_of s (choose_at limits s (compared name) best (suc m) at) ≡ choice name (sought_of s best) (take (suc m) (entry_of s p ∷ t.1)) =
    rw t.2 (choose_here s name p best (choose_at limits s (compared name) (Some p) m p.next) (take m t.1) (compared name (name_of s p)) refl (rising_take entry_name m (name_of s p) t.1 q.1) i) in
    here ∙ ap (λ (l : List Entry). choice name (sought_of s best) (take (suc m) l)) (sym t.3)

-- ---- a chunk that passes its check

module _ (limits : Limits) (s : List ℕ) where
  pub find_good : (name : List ℕ) → is_kind Listing (parsed limits s) ≡ true → sought_of s (find_in limits s (compared name)) ≡ entry_named name (entries_in (parsed limits s))
  find_good name h =
      let es = entries_in (parsed limits s) in
      let a = chunk_accepted limits Listing s h in
      let g = group_in limits Listing s (compared name) in
      let r = group_right limits Listing s es a (compared name) in
      let b = rising_drop entry_name (g * spacing_of limits.density) [] es a.rises in
      find_all limits s name (4096 - tail_length s) (entry_count s - g * spacing_of limits.density) (size_in limits s g) (group_at Listing s g) [] (drop (g * spacing_of limits.density) es) (omega arith)
      (group_entries limits Listing s es a g (last_inside limits Listing s es a g r.0)) b
      ∙ sym (group_lookup limits Listing s es a name g r)

  pub choose_good : (name : List ℕ) → is_kind Index (parsed limits s) ≡ true → sought_of s (choose_in limits s (compared name)) ≡ choice name absent (entries_in (parsed limits s))
  choose_good name h =
      let es = entries_in (parsed limits s) in
      let a = chunk_accepted limits Index s h in
      let g = group_in limits Index s (compared name) in
      let r = group_right limits Index s es a (compared name) in
      let b = rising_drop entry_name (g * spacing_of limits.density) [] es a.rises in
      choose_all limits s name (4096 - tail_length s) (entry_count s - g * spacing_of limits.density) (size_in limits s g) (group_at Index s g) [] None (drop (g * spacing_of limits.density) es) (omega arith)
      (group_entries limits Index s es a g (last_inside limits Index s es a g r.0)) b
      ∙ sym (group_choice limits Index s es a name g r)
