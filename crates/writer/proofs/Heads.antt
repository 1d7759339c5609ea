-- The whole head, from its parts (`head_written`), and the writer's answers.
use Rattle.fields.proofs.Base.{◌≡◌, refl, sym, ap, subst, ◌∙◌, Bool, true, false, ◌&&◌, List, [], ◌++◌, map, flatten, append_assoc, ℕ, ◌+◌, ◌-◌, ◌*◌, ◌^◌, ◌≤◌, ◌<◌, min, arith, length, get_or, take, drop, length-append, length-map, sets, take_at, ltb, leb, le-leb, lt-leb, leb-true, Result, Ok, Err}
use Rattle.put.proofs.Put.{sets_parts}
use Rattle.fields.proofs.Tests.{and_both, and_no}
use Rattle.entries.specs.declared.Kind.TheVariants.{Listing, Index}
use Rattle.refusals.specs.Refusals.{refusal_of}
use Rattle.chunk_fields.specs.ChunkFields.{spacing_of}
use Rattle.entries.specs.Stored.{Stored, stored_of}
use Rattle.source.specs.Input.{given, input_right}
use Rattle.source.proofs.Unpadded.{input_bytes}
use Rattle.pack.specs.Levels.{level}
use Rattle.pack.specs.Starts.{chunks_from}
use Rattle.pack.proofs.Levels.{chunks_given}
use Rattle.compose.proofs.Words.{three}
use Rattle.layout.specs.Headers.{head_length, file_header, section_zero, directory_header}
use Rattle.layout.specs.Layout.{takes, Layout, layout_over, layout_of, layout_for, chunk_count, layout_depth, small_enough, new_root, chunks_of, chunk_list, head_bytes}
use Rattle.layout.proofs.Small.{small_is}
use Rattle.layout.proofs.Cut.{Cut, takes_told}
use Rattle.roundtrip.specs.RoundTrip.{new_book, RoundTrip}
use Rattle.roundtrip.proofs.RoundTrips.{round_trip}
use Rattle.writer.specs.Head.{written, output_for, RoundTripFor, ShortInput}
use Rattle.writer.specs.Plan.{in_bounds, LevelsPlanned, LevelFits, index_of, headers_of, Ready}
use Rattle.layout.proofs.Sizes.{length_file, length_section, length_directory}
use Rattle.fields.proofs.Lists.{flatten_append}
use Rattle.writer.proofs.Lengths.{length_level}
use Rattle.refusals.specs.declared.Rule.TheVariants.{BadInput, TooManyChunks, ShortOutput}
use Rattle.refusals.specs.declared.Refusal.{Refusal}

-- ---- the parts

length_headers : (density time language content m depth count : ℕ) → length (headers_of density time language content m depth count) ≡ 204
unfolding headers_of
length_headers density time language content m depth count =
    let a = file_header time language count in
    let b = section_zero (head_length count + content) in
    let d = directory_header language density depth (new_root depth count) (m - 1) count in
    omega (arith, length-append a (b ++ d), length-append b d, length_file time language count, length_section (head_length count + content), length_directory language density depth (new_root depth count) (m - 1) count)

-- the listing chunks that are written are those of the input's layout
pub leaves_are : (content : ℕ) (s : List ℕ) (n : ℕ) → map (map (stored_of s)) (chunks_from content s [] Listing n (length s) 0) ≡ (layout_of n (given content s)).leaves
unfolding layout_over
leaves_are content s n = chunks_given content s [] n

module _ (content : ℕ) (s starts : List ℕ) (n : ℕ) (l : Layout) (m depth count room : ℕ) (r : Ready s starts l m depth count room)
    (leaves-is : map (map (stored_of s)) (chunks_from content s (take 0 starts) Listing n (length s) 0) ≡ l.leaves) where
  leaves_count : length (chunks_from content s (take 0 starts) Listing n (length s) 0) ≡ m
  leaves_count = sym (length-map (chunks_from content s (take 0 starts) Listing n (length s) 0) (map (stored_of s))) ∙ ap length leaves-is ∙ sym r.made.listings

  pub ready_level : LevelFits content s starts Listing n (length s) 0 0 room
  ready_level =
      let w = r.made in
      record {
        known = omega arith;
        few = omega (arith, leaves_count, w.counted, w.listings, w.small);
        enough = omega (arith, leaves_count, w.counted, w.listings, r.enough);
      }

  pub head_written : (density time language : ℕ) → n ≡ spacing_of density → (o₀ o₁ o₂ o₃ : List ℕ)
      → o₁ ≡ sets o₀ 0 (headers_of density time language content m depth count)
      → o₂ ≡ sets o₁ (204 + 4096 * 0) (flatten (chunks_of Listing n m 0 (map (map (stored_of s)) (chunks_from content s (take 0 starts) Listing n (length s) 0))))
      → o₃ ≡ sets o₂ (204 + 4096 * m) (flatten (index_of n m l))
      → o₃ ≡ sets o₀ 0 (head_bytes density time language content l)
  unfolding head_bytes headers_of chunk_list
  head_written density time language ns o₀ o₁ o₂ o₃ w₁ w₂ w₃ =
      let w = r.made in
      let H = headers_of density time language content m depth count in
      let A = flatten (chunks_of Listing n m 0 (map (map (stored_of s)) (chunks_from content s (take 0 starts) Listing n (length s) 0))) in
      let B = flatten (index_of n m l) in
      let lH = length_headers density time language content m depth count in
      let lA : length A ≡ 4096 * m = length_level Listing n m s content (take 0 starts) (length s) 0 0 ∙ ap (λ (j : ℕ). 4096 * j) leaves_count in
      let x = file_header time language count in
      let y = section_zero (head_length count + content) in
      let z = directory_header language density depth (new_root depth count) (m - 1) count in
      let F : ℕ → ℕ → ℕ → ℕ → List (List ℕ) → List ℕ =
      λ m d c k cs. file_header time language c ++ (section_zero (head_length c + content) ++ (directory_header language density d (new_root d c) (m - 1) c ++ flatten cs)) in
      let C : ℕ → ℕ → List (List ℕ) = λ j i. chunks_of Listing j i 0 l.leaves ++ chunks_of Index j i i (flatten l.levels) in
      three o₀ o₁ o₂ o₃ 0 (204 + 4096 * 0) (204 + 4096 * m) H A B w₁ (omega arith) w₂ (omega arith) w₃
      ∙ ap (sets o₀ 0)
      (append_assoc x (y ++ z) (A ++ B)
      ∙ ap (λ (t : List ℕ). x ++ t) (append_assoc y z (A ++ B))
      ∙ ap (λ (t : List (List Stored)). x ++ (y ++ (z ++ (flatten (chunks_of Listing n m 0 t) ++ B)))) leaves-is
      ∙ ap (λ (t : List ℕ). x ++ (y ++ (z ++ t))) (sym (flatten_append (chunks_of Listing n m 0 l.leaves) (index_of n m l)))
      ∙ ap (λ (t : ℕ). F m depth count 0 (C t m)) ns
      ∙ ap (λ (t : ℕ). F t depth count 0 (C (spacing_of density) t)) w.listings
      ∙ ap (λ (t : ℕ). F (length l.leaves) t count 0 (C (spacing_of density) (length l.leaves))) w.deep
      ∙ ap (λ (t : ℕ). F (length l.leaves) (layout_depth l) t 0 (C (spacing_of density) (length l.leaves))) w.counted)

-- ---- what is taken

and_assoc : (a b c : Bool) → (a && (b && c)) ≡ ((a && b) && c)
and_assoc true b c = refl
and_assoc false b c = refl

pub limits_dense : (density content : ℕ) → in_bounds density content ≡ true → density ≤ 7
unfolding in_bounds
limits_dense density content h = leb-true density 7 (and_both (leb density 7) (ltb content (2 ^ 62)) h).0

module _ (density content : ℕ) (s : List ℕ) where
  takes_is : takes density content s ≡ (in_bounds density content && input_right content s)
  unfolding takes in_bounds
  takes_is = and_assoc (leb density 7) (ltb content (2 ^ 62)) (input_right content s)

  pub takes_both : in_bounds density content ≡ true → input_right content s ≡ true → takes density content s ≡ true
  takes_both h i = rw (takes_is, h, i)

  pub takes_limits : in_bounds density content ≡ false → takes density content s ≡ false
  takes_limits h = rw (takes_is, h)

  pub takes_right : input_right content s ≡ false → takes density content s ≡ false
  takes_right h = rw (takes_is, h) (and_no (in_bounds density content))

  takes_input : takes density content s ≡ true → input_right content s ≡ true
  takes_input h = (and_both (in_bounds density content) (input_right content s) (sym takes_is ∙ h)).1

-- a density that is taken is not cut
pub spacing_is : (density n : ℕ) → density ≤ 7 → n ≡ spacing_of (min density 16) → n ≡ spacing_of density
spacing_is density n h e = let d : min density 16 ≡ density = omega arith in e ∙ ap spacing_of d

-- ---- the answers

module _ (s : List ℕ) (density time language content : ℕ) (out : List ℕ) where
  abbrev room : ℕ
  room = length out

  abbrev head : List ℕ
  head = head_bytes density time language content (layout_for density content s)

  abbrev Answers : Result ℕ Refusal → List ℕ → Type 0
  Answers r o =
      record {
        answer : r ≡ written s density content room;
        output : o ≡ output_for r head out;
        round_trip : RoundTripFor r density time language content s o;
        input : ShortInput r content s;
      }

  pub answer_18 : (r : Result ℕ Refusal) → r ≡ Err (refusal_of BadInput) → takes density content s ≡ false → Answers r out
  unfolding written
  answer_18 r e h = rw e (record { answer = rw h; output = refl; round_trip = tt; input = tt })

  pub answer_19 : (r : Result ℕ Refusal) → r ≡ Err (refusal_of TooManyChunks) → takes density content s ≡ true → small_enough (layout_for density content s) ≡ false → Answers r out
  unfolding written
  answer_19 r e h k = rw e (record { answer = rw (h, k); output = refl; round_trip = tt; input = tt })

  module _ (h : takes density content s ≡ true) (small : small_enough (layout_for density content s) ≡ true) (count : ℕ) (c : count ≡ chunk_count (layout_for density content s)) where
    pub answer_20 : (r : Result ℕ Refusal) → r ≡ Err (refusal_of ShortOutput) → room < head_length count → Answers r out
    unfolding written
    answer_20 r e short = rw e (record { answer = rw (h, small, ← c, lt-leb (head_length count) room short); output = refl; round_trip = tt; input = tt })

    -- the head with content behind it, by the round trip
    worth : time < 2 ^ 32 → language < 2 ^ 32 → (o : List ℕ) → o ≡ head ++ drop (head_length count) out → length head ≡ head_length count
        → RoundTripFor (Ok (head_length count)) density time language content s o
    worth t g o w lh = λ rest e.
        let front : take (head_length count) o ≡ head = ap (take (head_length count)) w ∙ take_at head (drop (head_length count) out) (head_length count) lh in
        let l = layout_for density content s in
        let es = given content s in
        let gs = level (spacing_of density) Listing es in
        let file : new_book density time language l rest ≡ take (head_length count) o ++ rest =
        ap (λ (n : ℕ). head_bytes density time language n l ++ rest) e ∙ ap (λ (x : List ℕ). x ++ rest) (sym front) in
        let cut : Cut density (length rest) es gs = subst (λ (n : ℕ). Cut density n es gs) (sym e) (takes_told density content s h) in
        subst (RoundTrip density time language l es) file (round_trip density time language es gs rest t g cut small)

    pub answer_head : ((i : ℕ) → get_or s i 0 < 256) → time < 2 ^ 32 → language < 2 ^ 32 → (o : List ℕ) → head_length count ≤ room → length head ≡ head_length count → o ≡ sets out 0 head
        → Answers (Ok (head_length count)) o
    unfolding written
    answer_head b t g o enough lh w =
        let z : 0 + length head ≡ head_length count = omega arith in
        let p = w ∙ sets_parts out 0 head (omega arith) ∙ ap (λ (i : ℕ). head ++ drop i out) z in
        record {
          answer = rw (h, small, ← c, le-leb (head_length count) room enough);
          output = p;
          round_trip = worth t g o p lh;
          input = input_bytes s b content (takes_input density content s h);
        }

pub made_small : (s starts : List ℕ) (l : Layout) (m depth count : ℕ) → LevelsPlanned s starts l m depth count → small_enough l ≡ true
made_small s starts l m depth count w = small_is l (omega (arith, w.counted, w.small)) (omega (arith, w.deep, w.flat))
