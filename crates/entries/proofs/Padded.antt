-- A listing entry that was read stands there, each of its numbers in its short form behind bytes 80 or none; it is unpadded exactly where its own
-- bytes are those that are written for it.
use Rattle.fields.proofs.Base.{◌≡◌, sym, ap, ap₂, ◌∙◌, ◌↔◌, true, List, ◌++◌, ℕ, ◌+◌, ◌-◌, ◌≤◌, ◌<◌, arith, length, get_or, drop, length-append, eq-eqb, eqb-true, Some}
use Rattle.fields.specs.Part.{part}
use Rattle.fields.proofs.Parts.{length_part, part_add, part_rest}
use Rattle.encint.specs.Encint.{encint_at, encoded}
use Rattle.encint.specs.Padded.{padded}
use Rattle.encint.proofs.Padded.{padded_encint, length_padded}
use Rattle.entries.specs.Entry.{listing_at, name_of}
use Rattle.entries.specs.Padded.{PaddedEntry}
use Rattle.entries.specs.Stored.{Stored, stored_of, entry_bytes, unpadded}
use Rattle.entries.specs.declared.Kind.TheVariants.{Listing}
use Rattle.entries.specs.declared.Place.{Place}
use Rattle.entries.proofs.Laws.{name_number, listing_apart, listing_inside}

length_five : (a b c d e : List ℕ) → length (a ++ (b ++ (c ++ (d ++ e)))) ≡ length a + length b + length c + length d + length e
length_five a b c d e = omega (arith, length-append a (b ++ (c ++ (d ++ e))), length-append b (c ++ (d ++ e)), length-append c (d ++ e), length-append d e)

-- no byte 80 in front of any number
none_padded : (k₀ k₁ k₂ k₃ : ℕ) (e : Stored) → k₀ ≡ 0 → k₁ ≡ 0 → k₂ ≡ 0 → k₃ ≡ 0
    → padded k₀ (length e.name) ++ (e.name ++ (padded k₁ e.section ++ (padded k₂ e.offset ++ padded k₃ e.size))) ≡ entry_bytes Listing e
unfolding entry_bytes
none_padded k₀ k₁ k₂ k₃ e h₀ h₁ h₂ h₃ = rw (h₀, h₁, h₂, h₃)

-- bytes that are an entry, as many as are written for it, are those that are written for it
none_ahead : (bytes : List ℕ) (e : Stored) → PaddedEntry bytes e.name e.section e.offset e.size → length bytes ≡ length (entry_bytes Listing e)
    → bytes ≡ entry_bytes Listing e
unfolding entry_bytes
none_ahead bytes e p n =
    let k₀ : ℕ = p.ahead in
    let k₁ : ℕ = p.ahead_section in
    let k₂ : ℕ = p.ahead_offset in
    let k₃ : ℕ = p.ahead_size in
    let long : length bytes ≡ k₀ + k₁ + k₂ + k₃ + length (entry_bytes Listing e) =
    omega (
      arith,
      ap length p.stands,
      length_five (padded k₀ (length e.name)) e.name (padded k₁ e.section) (padded k₂ e.offset) (padded k₃ e.size),
      length_padded k₀ (length e.name),
      length_padded k₁ e.section,
      length_padded k₂ e.offset,
      length_padded k₃ e.size,
      length_five (encoded (length e.name)) e.name (encoded e.section) (encoded e.offset) (encoded e.size),
    ) in
    p.stands ∙ none_padded k₀ k₁ k₂ k₃ e (omega arith) (omega arith) (omega arith) (omega arith)

module _ (s : List ℕ) (bytes : (i : ℕ) → get_or s i 0 < 256) where
  -- the bytes that a number was read from
  number_stands : (at v next : ℕ) → encint_at s at ≡ Some (v, next) → (k : ℕ) × (part s at (next - at) ≡ padded k v) × (next ≡ at + (k + length (encoded v)))
  number_stands at v next e =
      let p = padded_encint s at bytes v next e in
      let n : next - at ≡ p.0 + length (encoded v) = omega (arith, p.2) in
      (p.0, ap (part s at) n ∙ p.1.bytes, p.2)

  -- what stands from `at` to `next` is what stands to a place between, and from there
  between : (at mid next : ℕ) → at ≤ mid → mid ≤ next → part s at (next - at) ≡ part s at (mid - at) ++ part s mid (next - mid)
  between at mid next h k =
      let n : next - at ≡ (mid - at) + (next - mid) = omega arith in
      let m : at + (mid - at) ≡ mid = omega arith in
      ap (part s at) n ∙ part_add s at (mid - at) (next - mid) ∙ ap (λ (i : ℕ). part s at (mid - at) ++ part s i (next - mid)) m

  pub entry_stands : (content at : ℕ) (e : Place) → listing_at content s at ≡ Some e
      → (p : PaddedEntry (part s e.at (e.next - e.at)) (name_of s e) e.section e.offset e.size) × (e.start ≡ e.at + (p.ahead + length (encoded e.len)))
  entry_stands content at e q =
      let a = listing_apart content s at e q in
      let i = listing_inside content s at e q in
      let n = number_stands e.at e.len e.start (name_number s e.at e.len e.start (rw (← a.same) at a.name)) in
      let x = number_stands (e.start + e.len) e.section a.p₁ a.section in
      let y = number_stands a.p₁ e.offset a.p₂ a.offset in
      let z = number_stands a.p₂ e.size e.next a.size in
      let l : e.start + e.len - e.start ≡ e.len = omega arith in
      let m : e.len ≡ length (name_of s e) = sym (length_part s e.start e.len i.name) in
      let c : part s a.p₁ (e.next - a.p₁) ≡ padded y.0 e.offset ++ padded z.0 e.size =
      between a.p₁ a.p₂ e.next (omega (arith, y.2)) (omega (arith, z.2)) ∙ ap₂ ◌++◌ y.1 z.1 in
      let d : part s (e.start + e.len) (e.next - (e.start + e.len)) ≡ padded x.0 e.section ++ (padded y.0 e.offset ++ padded z.0 e.size) =
      between (e.start + e.len) a.p₁ e.next (omega (arith, x.2)) (omega (arith, y.2, z.2)) ∙ ap₂ ◌++◌ x.1 c in
      let f : part s e.start (e.next - e.start) ≡ name_of s e ++ (padded x.0 e.section ++ (padded y.0 e.offset ++ padded z.0 e.size)) =
      between e.start (e.start + e.len) e.next (omega arith) (omega (arith, x.2, y.2, z.2)) ∙ ap₂ ◌++◌ (ap (part s e.start) l) d in
      let w : part s e.at (e.start - e.at) ≡ padded n.0 (length (name_of s e)) = n.1 ∙ ap (padded n.0) m in (
        record {
          ahead = n.0;
          ahead_section = x.0;
          ahead_offset = y.0;
          ahead_size = z.0;
          stands = between e.at e.start e.next (omega (arith, n.2)) (omega (arith, x.2, y.2, z.2)) ∙ ap₂ ◌++◌ w f;
        },
        n.2,
      )

  module _ (content at : ℕ) (e : Place) (q : listing_at content s at ≡ Some e) where
    own_length : length (part s e.at (e.next - e.at)) ≡ e.next - e.at
    own_length =
        let i = listing_inside content s at e q in
        let m = i.moves in
        let k = i.same in
        let z = i.ends in
        length_part s e.at (e.next - e.at) (omega arith)

    pub unpadded_bytes : (unpadded s e ≡ true) ↔ (part s e.at (e.next - e.at) ≡ entry_bytes Listing (stored_of s e))
    unpadded_bytes =
        let x : List ℕ = entry_bytes Listing (stored_of s e) in
        let m : e.at < e.next = omega (arith, (listing_inside content s at e q).moves, (listing_inside content s at e q).same) in (
          (λ u.
              let n : e.next ≡ e.at + length x = eqb-true e.next (e.at + length x) u in
              none_ahead (part s e.at (e.next - e.at)) (stored_of s e) (entry_stands content at e q).0 (omega (arith, own_length))),
          (λ b. eq-eqb e.next (e.at + length x) (omega (arith, own_length, ap length b))),
        )

    -- the entry and what stands behind it
    pub entry_ahead : unpadded s e ≡ true → drop at s ≡ entry_bytes Listing (stored_of s e) ++ drop e.next s
    entry_ahead u =
        let i = listing_inside content s at e q in
        let h : e.at ≡ at = i.same in
        let m : e.at + (e.next - e.at) ≡ e.next = omega (arith, i.moves) in
        ap (λ (j : ℕ). drop j s) (sym h)
        ∙ part_rest s e.at (e.next - e.at)
        ∙ ap₂ (λ (b : List ℕ) (j : ℕ). b ++ drop j s) (unpadded_bytes.0 u) m
