-- What the writer answers, and what its output then holds (FORMAT, Writer).
use Rattle.std.specs.Prelude.{ℕ, ◌≡◌, cond, length, take, drop, leb, Result, Ok, Err}
use mathlib.Core.List.{List, ◌++◌, flat_map}
use Rattle.entries.specs.declared.Kind.TheVariants.{Listing}
use Rattle.refusals.specs.Refusals.{refusal_of}
use Rattle.entries.specs.Stored.{entry_bytes}
use Rattle.source.specs.Input.{given}
use Rattle.layout.specs.Headers.{head_length}
use Rattle.layout.specs.Layout.{takes, layout_for, chunk_count, small_enough}
use Rattle.roundtrip.specs.RoundTrip.{RoundTrip}
use Rattle.refusals.specs.declared.Rule.TheVariants.{BadInput, TooManyChunks, ShortOutput}
use Rattle.refusals.specs.declared.Refusal.{Refusal}

-- ---- the answer

-- for an output of so many bytes: refusals 18, 19 and 20 in their order, else the head's length (W14, RO6)
unfoldable pub written : (s : List ℕ) (density content room : ℕ) → Result ℕ Refusal
written s density content room =
    cond (takes density content s)
    (cond (small_enough (layout_for density content s))
    (cond (leb (head_length (chunk_count (layout_for density content s))) room)
    (Ok (head_length (chunk_count (layout_for density content s))))
    (Err (refusal_of ShortOutput)))
    (Err (refusal_of TooManyChunks)))
    (Err (refusal_of BadInput))

-- what the output then holds: the head, and behind it what it held before (W15); all as it was after a refusal (RO8)
abbrev pub output_for : Result ℕ Refusal → List ℕ → List ℕ → List ℕ
output_for (Ok n) head out = head ++ drop n out
output_for (Err r) head out = out

-- ---- what the output is then worth: its first n bytes, with any content of that length behind them, are a book that lists the entries s

abbrev pub RoundTripFor : Result ℕ Refusal → (density time language content : ℕ) → List ℕ → List ℕ → Type 0
RoundTripFor (Ok n) density time language content s out =
    (rest : List ℕ) → length rest ≡ content → RoundTrip density time language (layout_for density content s) (given content s) (take n out ++ rest)
RoundTripFor (Err r) density time language content s out = Unit {0}

-- ---- what the input then was: what is written for its entries, each number in its short form (W2, N4)

abbrev pub ShortInput : Result ℕ Refusal → ℕ → List ℕ → Type 0
ShortInput (Ok n) content s = s ≡ flat_map (entry_bytes Listing) (given content s)
ShortInput (Err r) content s = Unit {0}
