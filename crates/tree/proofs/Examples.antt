-- A small directory, and some with one slip each: what the checks and the descent come to.
use Rattle.fields.proofs.Base.{◌≡◌, refl, true, false, List, [], ◌∷◌, flat_map, ℕ, zero, suc, ◌<◌, arith, length, get_or}
use Rattle.fields.specs.Same.{same}
use Rattle.refusals.specs.Refusals.{no_chunk}
use Rattle.names.specs.Order.{by_number, by_element}
use Rattle.names.specs.Names.{folded, compared, below, matches}
use Rattle.entries.specs.Rising.{rising}
use Rattle.entries.specs.Entry.{Entry, entry_name}
use Rattle.chunk.specs.Chunk.{Parsed, bad, listing, index, entries_in, is_good}
use Rattle.quickref.specs.Quickref.{nth, final}
use Rattle.seek.specs.Seek.{entry_named, choice}
use Rattle.tree.specs.Shape.{Shape, listing_chunk, index_chunk, GoodChunks}
use Rattle.tree.specs.Chain.{chain_from, chain, linked, chain_ok}
use Rattle.tree.specs.Tree.{top, leaves, index_chunks, shaped, tree_ok}
use Rattle.tree.specs.Walk.{chain_run, chain_run_ok, walk_tree, tree_walk_ok}
use Rattle.tree.specs.Descent.{found, absent, outcome_from, trail_from, outcome, trail}
use Rattle.tree.specs.Exact.{GoodDirectory}
use Rattle.refusals.specs.declared.Rule.TheVariants.{ChunkTag}

-- an entry with a name, and a child
abbrev to : List ℕ → ℕ → Entry
to n c = record { at = 0; start = 0; name = n; section = 0; offset = 0; size = 0; child = c; next = 0 }

abbrev entry : List ℕ → Entry
entry n = to n 0

abbrev of : List Parsed → ℕ → Parsed
of ps c = get_or ps c (bad ChunkTag)

-- `/`, `/a`, `/b`, `/B`, `/c`
abbrev slash : List ℕ
slash = 0x2F ∷ []

abbrev a : List ℕ
a = 0x2F ∷ 0x61 ∷ []

abbrev b : List ℕ
b = 0x2F ∷ 0x62 ∷ []

abbrev B : List ℕ
B = 0x2F ∷ 0x42 ∷ []

abbrev c : List ℕ
c = 0x2F ∷ 0x63 ∷ []

-- two listing chunks and the root over them
abbrev left : Parsed
left = listing no_chunk 1 (entry slash ∷ entry a ∷ [])

abbrev right : Parsed
right = listing 0 no_chunk (entry b ∷ [])

abbrev over : Parsed
over = index (to slash 0 ∷ to b 1 ∷ [])

abbrev good : List Parsed
good = left ∷ right ∷ over ∷ []

-- a header for n chunks
abbrev header : ℕ → Shape
header n = record { count = n; depth = 2; root = 2; first = 0; last = 1 }

-- accepted; `/B` is found as `/b`, `/c` is absent at depth 2, `.` is below the first name
pub small_accepted :
    (chain_ok (of good) (header 3) ≡ true) × (tree_ok (of good) (header 3) ≡ true)
    × (chain_run_ok (of good) (header 3) ≡ true) × (tree_walk_ok (of good) (header 3) ≡ true)
    × (outcome (of good) (header 3) B ≡ found 1 (entry b)) × (trail (of good) (header 3) B ≡ 2 ∷ 1 ∷ [])
    × (outcome (of good) (header 3) c ≡ absent) × (trail (of good) (header 3) c ≡ 2 ∷ 1 ∷ [])
    × (outcome (of good) (header 3) (0x2E ∷ []) ≡ absent) × (trail (of good) (header 3) (0x2E ∷ []) ≡ 2 ∷ [])
unfolding flat_map same folded by_number by_element compared below matches entry_named choice nth final listing_chunk index_chunk chain_from chain linked chain_ok top leaves index_chunks shaped tree_ok chain_run chain_run_ok walk_tree tree_walk_ok outcome_from trail_from outcome trail
small_accepted = (refl, refl, refl, refl, refl, refl, refl, refl, refl, refl)

-- so there are directories of which demand 3 speaks
good_chunks : GoodChunks (of good) (header 3)
unfolding rising folded by_number by_element compared below
good_chunks = record { good = kinds; some = entries; rises = orders }
  where
    kinds : (c : ℕ) → c < 3 → is_good (of good c) ≡ true
    kinds zero l = refl
    kinds (suc zero) l = refl
    kinds (suc (suc zero)) l = refl
    kinds (suc (suc (suc c))) l = absurd (omega arith)

    entries : (c : ℕ) → c < 3 → 0 < length (entries_in (of good c))
    entries zero l = omega arith
    entries (suc zero) l = omega arith
    entries (suc (suc zero)) l = omega arith
    entries (suc (suc (suc c))) l = absurd (omega arith)

    orders : (c : ℕ) → c < 3 → rising entry_name [] (entries_in (of good c)) ≡ true
    orders zero l = refl
    orders (suc zero) l = refl
    orders (suc (suc zero)) l = refl
    orders (suc (suc (suc c))) l = absurd (omega arith)

pub good_directory : GoodDirectory (of good) (header 3)
good_directory = record { chunks = good_chunks; chain_passes = small_accepted.0; tree_passes = small_accepted.1 }

-- a chain with a wrong previous; one that leaves a listing chunk out; names that do not rise across it; a next that is an index chunk
abbrev wrong_previous : List Parsed
wrong_previous = left ∷ listing 2 no_chunk (entry b ∷ []) ∷ over ∷ []

abbrev off_chain : List Parsed
off_chain = left ∷ right ∷ over ∷ listing no_chunk no_chunk (entry c ∷ []) ∷ []

abbrev not_rising : List Parsed
not_rising = listing no_chunk 1 (entry slash ∷ entry B ∷ []) ∷ right ∷ over ∷ []

abbrev next_index : List Parsed
next_index = listing no_chunk 2 (entry slash ∷ []) ∷ right ∷ over ∷ []

pub broken_chains :
    (chain_ok (of wrong_previous) (header 3) ≡ false) × (chain_ok (of off_chain) (header 4) ≡ false)
    × (chain_ok (of not_rising) (header 3) ≡ false) × (chain_ok (of next_index) (header 3) ≡ false)
    × (chain_run_ok (of wrong_previous) (header 3) ≡ false) × (chain_run_ok (of off_chain) (header 4) ≡ false)
    × (chain_run_ok (of not_rising) (header 3) ≡ false) × (chain_run_ok (of next_index) (header 3) ≡ false)
unfolding folded by_number by_element compared below nth final listing_chunk chain_from chain linked chain_ok chain_run chain_run_ok
broken_chains = (refl, refl, refl, refl, refl, refl, refl, refl)

-- a tree with an index name above its child's; with one that differs in letter case alone; an index chunk off it; a child twice; a child left out
abbrev above : List Parsed
above = left ∷ right ∷ index (to slash 0 ∷ to c 1 ∷ []) ∷ []

abbrev other_case : List Parsed
other_case = left ∷ right ∷ index (to slash 0 ∷ to B 1 ∷ []) ∷ []

abbrev off_tree : List Parsed
off_tree = left ∷ right ∷ over ∷ over ∷ []

abbrev twice : List Parsed
twice = left ∷ right ∷ index (to slash 0 ∷ to b 1 ∷ to b 1 ∷ []) ∷ []

abbrev left_out : List Parsed
left_out = left ∷ right ∷ index (to slash 0 ∷ []) ∷ []

-- and listing chunks beside the top at depth 1
abbrev beside : List Parsed
beside = left ∷ right ∷ []

abbrev flat : Shape
flat = record { count = 2; depth = 1; root = no_chunk; first = 0; last = 1 }

pub broken_trees :
    (tree_ok (of above) (header 3) ≡ false) × (tree_ok (of other_case) (header 3) ≡ false) × (tree_ok (of off_tree) (header 4) ≡ false)
    × (tree_ok (of twice) (header 3) ≡ false) × (tree_ok (of left_out) (header 3) ≡ false) × (tree_ok (of beside) flat ≡ false)
    × (tree_walk_ok (of above) (header 3) ≡ false) × (tree_walk_ok (of other_case) (header 3) ≡ false) × (tree_walk_ok (of off_tree) (header 4) ≡ false)
    × (tree_walk_ok (of twice) (header 3) ≡ false) × (tree_walk_ok (of left_out) (header 3) ≡ false) × (tree_walk_ok (of beside) flat ≡ false)
unfolding flat_map same nth listing_chunk index_chunk chain_from chain top leaves index_chunks shaped tree_ok walk_tree tree_walk_ok
broken_trees = (refl, refl, refl, refl, refl, refl, refl, refl, refl, refl, refl, refl)
