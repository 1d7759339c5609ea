-- The answers as they are written: those of the names that are left make the whole.
use Rattle.fields.proofs.Base.{◌≡◌, sym, ap, ◌∙◌, List, [], ◌∷◌, ◌++◌, flat_map, append-nil, append_assoc, ℕ, ◌+◌, ◌-◌, ◌*◌, ◌≤◌, ◌<◌, arith, length, length-append, sets, length-sets, Option, Some, None, Result, Ok, Err}
use Rattle.fields.specs.Le.{bytes}
use Rattle.fields.specs.Part.{part}
use Rattle.put.specs.Put.{put}
use Rattle.fields.proofs.Le.{length_bytes}
use Rattle.put.proofs.Put.{sets_after, sets_then, put_inside, length_put}
use Rattle.header.specs.declared.Record.{Record}
use Rattle.fetch.specs.Fetch.{fetched}
use Rattle.batch.specs.Batch.{asked_at, names_from, names_in, result_of}
use Rattle.batch.specs.Step.{results_by}
use Rattle.batch.proofs.Asked.{asked_inside, names_end, names_cut, names_more}
use Rattle.refusals.specs.Refusals.{number_of}
use Rattle.refusals.specs.declared.Refusal.{Refusal}
use Rattle.report.specs.declared.Report.{Report}

-- ---- four numbers

abbrev pub four : ℕ → ℕ → ℕ → ℕ → List ℕ
four a b c d = flat_map (bytes 8) (a ∷ b ∷ c ∷ d ∷ [])

-- as four runs one behind another
four_is : (a b c d : ℕ) → ((bytes 8 a ++ bytes 8 b) ++ bytes 8 c) ++ bytes 8 d ≡ four a b c d
unfolding flat_map
four_is a b c d =
    append_assoc (bytes 8 a ++ bytes 8 b) (bytes 8 c) (bytes 8 d)
    ∙ append_assoc (bytes 8 a) (bytes 8 b) (bytes 8 c ++ bytes 8 d)
    ∙ ap (λ (l : List ℕ). bytes 8 a ++ (bytes 8 b ++ (bytes 8 c ++ l))) (sym (append-nil (bytes 8 d)))

length_two : (a b : ℕ) → length (bytes 8 a ++ bytes 8 b) ≡ 16
length_two a b = length-append (bytes 8 a) (bytes 8 b) ∙ omega (arith, length_bytes 8 a, length_bytes 8 b)

length_three : (a b c : ℕ) → length ((bytes 8 a ++ bytes 8 b) ++ bytes 8 c) ≡ 24
length_three a b c = length-append (bytes 8 a ++ bytes 8 b) (bytes 8 c) ∙ omega (arith, length_two a b, length_bytes 8 c)

length_four : (a b c d : ℕ) → length (four a b c d) ≡ 32
length_four a b c d =
    ap length (sym (four_is a b c d))
    ∙ length-append ((bytes 8 a ++ bytes 8 b) ++ bytes 8 c) (bytes 8 d)
    ∙ omega (arith, length_three a b c, length_bytes 8 d)

put_there : (s t : List ℕ) (at v : ℕ) → at + 8 ≤ length s → t ≡ put s at (bytes 8 v) → t ≡ sets s at (bytes 8 v)
put_there s t at v h q = q ∙ put_inside s at (bytes 8 v) (omega (arith, length_bytes 8 v))

-- four calls that each write a number
pub four_puts : (s t u v w : List ℕ) (at a b c d : ℕ) → at + 32 ≤ length s
    → t ≡ put s at (bytes 8 a) → u ≡ put t (at + 8) (bytes 8 b) → v ≡ put u (at + 16) (bytes 8 c) → w ≡ put v (at + 24) (bytes 8 d)
    → w ≡ sets s at (four a b c d)
four_puts s t u v w at a b c d h p q r e =
    let l₁ : length t ≡ length s = ap length p ∙ length_put s at (bytes 8 a) in
    let l₂ : length u ≡ length t = ap length q ∙ length_put t (at + 8) (bytes 8 b) in
    let l₃ : length v ≡ length u = ap length r ∙ length_put u (at + 16) (bytes 8 c) in
    let w₁ = put_there s t at a (omega arith) p in
    let w₂ = sets_then at (at + 8) (bytes 8 a) (bytes 8 b) s t u w₁ (omega (arith, length_bytes 8 a)) (put_there t u (at + 8) b (omega arith) q) in
    let w₃ = sets_then at (at + 16) (bytes 8 a ++ bytes 8 b) (bytes 8 c) s u v w₂ (omega (arith, length_two a b)) (put_there u v (at + 16) c (omega arith) r) in
    sets_then at (at + 24) ((bytes 8 a ++ bytes 8 b) ++ bytes 8 c) (bytes 8 d) s v w w₃ (omega (arith, length_three a b c)) (put_there v w (at + 24) d (omega arith) e)
    ∙ ap (sets s at) (four_is a b c d)

pub length_result : (r : Result (Option Report) Refusal) → length (result_of r) ≡ 32
unfolding result_of
length_result (Ok (Some x)) = length_four 0 x.section x.offset x.size
length_result (Ok None) = length_four 255 0 0 0
length_result (Err x) = length_four (number_of x.rule) 0 0 0

-- ---- the loop

pub record Left (s : List ℕ) (book : Record) (names out₀ out : List ℕ) (at to : ℕ) : Type 0 where
  pub most : ℕ
  pub low : at ≤ length names
  pub enough : length names ≤ at + most
  pub size : length out ≡ length out₀
  pub room : to + 32 * length (names_from names most at).list ≤ length out
  pub whole : sets out to (results_by s book (names_from names most at).list) ≡ sets out₀ 0 (results_by s book (names_in names).list)

module _ (s : List ℕ) (book : Record) (names out₀ : List ℕ) where
  module _ (out : List ℕ) (at to : ℕ) (l : Left s book names out₀ out at to) where
    pub left_end : length names ≤ at → out ≡ sets out₀ 0 (results_by s book (names_in names).list)
    unfolding flat_map
    left_end h = rw (names_end names l.most at h) at l.whole

    module _ (h : at < length names) where
      pub left_cut : asked_at names at ≡ None → out ≡ sets out₀ 0 (results_by s book (names_in names).list)
      unfolding flat_map
      left_cut g = rw (names_cut names l.most at h g) at l.whole

      module _ (n p : ℕ) (g : asked_at names at ≡ Some (n, p)) where
        pub left_room : to + 32 ≤ length out
        left_room =
            let r = l.room in
            let e = ap (λ ns. length ns.list) (names_more names l.most at n p h l.enough g) in
            omega arith

        pub left_turn : (u : List ℕ) → u ≡ sets out to (result_of (fetched s book (part names p n))) → Left s book names out₀ u (p + n) (to + 32)
        unfolding result_of flat_map
        left_turn u q =
            let i = asked_inside names at n p g in
            let m = l.enough in
            let more = names_more names l.most at n p h l.enough g in
            let r = l.room in
            let e = ap (λ ns. length ns.list) more in
            let here = result_of (fetched s book (part names p n)) in
            let rest = results_by s book (names_from names (l.most - 1) (p + n)).list in
            let z : to + 32 ≡ to + length here = omega (arith, length_result (fetched s book (part names p n))) in
            let k : length u ≡ length out = ap length q ∙ length-sets out to here in
            record {
              most = l.most - 1;
              low = i.1;
              enough = omega arith;
              size = k ∙ l.size;
              room = omega arith;
              whole = rw (q, z) (sets_after out to here rest ∙ (rw more at l.whole));
            }
