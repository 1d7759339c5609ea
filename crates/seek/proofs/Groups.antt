-- In a chunk that passes its check, what a name leads to stands in the group that halving leaves for it.
--     group_lookup, group_choice  what is sought among all entries is sought among those of that group
use Rattle.fields.proofs.Base.{◌≡◌, sym, ap, subst, ◌∙◌, inl, inr, List, [], true, ℕ, ◌+◌, ◌-◌, ◌*◌, ◌≤◌, ◌<◌, arith, dec_lt, length, get_or, take, drop, length-drop, get_or-drop}
use Rattle.std.specs.Ordering.{is_lt}
use Rattle.names.specs.Names.{compared}
use Rattle.entries.specs.declared.Limits.{Limits}
use Rattle.entries.specs.declared.Kind.{Kind}
use Rattle.entries.specs.Entry.{Entry, entry_name}
use Rattle.chunk_fields.specs.ChunkFields.{entry_count, spacing_of, quick_count}
use Rattle.chunk.proofs.Accepted.{Accepted}
use Rattle.entries.proofs.Rising.{rising_drop}
use Rattle.quickref.specs.Quickref.{absent}
use Rattle.quickref.proofs.Groups.{other, nth_name, entries_counted}
use Rattle.halving.specs.Halving.{size_in}
use Rattle.halving.specs.Halvings.{above_in}
use Rattle.halving.proofs.Halving.{Lower, Upper}
use Rattle.halving.proofs.Same.{Right, last_inside, last_full}
use Rattle.seek.specs.Seek.{entry_named, choice}
use Rattle.seek.proofs.Behind.{Ends, lookup_from, choice_from, lookup_until, choice_until}

module _ (limits : Limits) (k : Kind) (s : List ℕ) (es : List Entry) (good : Accepted limits k s es) where
  -- how many entries a group has; the last may have fewer
  abbrev n : ℕ
  n = spacing_of limits.density

  abbrev last : ℕ
  last = quick_count n (entry_count s)

  module _ (name : List ℕ) (g : ℕ) (right : Right limits k s es good (compared name) g) where
    first_is : (i : ℕ) → above_in n (compared name) es i ≡ is_lt (compared name (get_or es (i * n) other).name)
    first_is i = ap (λ (x : List ℕ). is_lt (compared name x)) (nth_name (i * n) es)

    inside : g * n < length es
    inside = let l = last_inside limits k s es good g right.0 in omega (arith, entries_counted limits k s es good, l)

    size : length (drop (g * n) es) ≡ entry_count s - g * n
    size = length-drop (g * n) es ∙ ap (λ (c : ℕ). c - g * n) (entries_counted limits k s es good)

    -- behind the group's last entry there is none, or one that is above the name
    ends_last : g ≡ last → Ends name (size_in limits s g) (drop (g * n) es)
    ends_last z = let f : entry_count s ≤ g * n + n = rw z (last_full limits k s es good) in inl (omega (arith, f, size))

    ends_before : g < last → above_in n (compared name) es (g + 1) ≡ true → Ends name (size_in limits s g) (drop (g * n) es)
    ends_before l a =
        let i = last_inside limits k s es good (g + 1) (omega arith) in
        let y : (g + 1) * n ≡ g * n + n = omega arith in
        let w : size_in limits s g ≡ n = omega (arith, i, y) in
        let b : is_lt (compared name (get_or (drop (g * n) es) n other).name) ≡ true =
        ap (λ (e : Entry). is_lt (compared name e.name)) (get_or-drop (g * n) es n other ∙ ap (λ (j : ℕ). get_or es j other) (sym y)) ∙ sym (first_is (g + 1)) ∙ a in
        subst (λ (m : ℕ). Ends name m (drop (g * n) es)) (sym w) (inr (omega (arith, i, y, size), b))

    ends : Ends name (size_in limits s g) (drop (g * n) es)
    ends = go right.2
      where
        go : Upper (above_in n (compared name) es) last g → Ends name (size_in limits s g) (drop (g * n) es)
        go (inl z) = ends_last z
        go (inr a) = elim (dec_lt g last) [ yes l ↦ ends_before l a | no l ↦ ends_last (omega (arith, right.0)) ]

    pub group_lookup : entry_named name es ≡ entry_named name (take (size_in limits s g) (drop (g * n) es))
    group_lookup = go right.1 ∙ lookup_until name (size_in limits s g) [] (drop (g * n) es) (rising_drop entry_name (g * n) [] es good.rises) ends
      where
        go : Lower (above_in n (compared name) es) g → entry_named name es ≡ entry_named name (drop (g * n) es)
        go (inl z) = let y : 0 ≡ g * n = omega (arith, ap (λ (x : ℕ). x * n) z) in ap (λ (i : ℕ). entry_named name (drop i es)) y
        go (inr b) = lookup_from name (g * n) [] es good.rises inside (sym (first_is g) ∙ b)

    pub group_choice : choice name absent es ≡ choice name absent (take (size_in limits s g) (drop (g * n) es))
    group_choice = go right.1 ∙ choice_until name (size_in limits s g) [] (drop (g * n) es) absent (rising_drop entry_name (g * n) [] es good.rises) ends
      where
        go : Lower (above_in n (compared name) es) g → choice name absent es ≡ choice name absent (drop (g * n) es)
        go (inl z) = let y : 0 ≡ g * n = omega (arith, ap (λ (x : ℕ). x * n) z) in ap (λ (i : ℕ). choice name absent (drop i es)) y
        go (inr b) = choice_from name (g * n) [] es absent good.rises inside (sym (first_is g) ∙ b)
