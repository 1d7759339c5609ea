-- What becomes of a file that was read (FORMAT P7, P9).
use Rattle.std.specs.Prelude.{ℕ, cond, List, length, ltb, Result, Err}
use Rattle.refusals.specs.Refusals.{refusal_of}
use Rattle.opening.specs.Opened.{opened}
use Rattle.refusals.specs.declared.Rule.TheVariants.{LongInput}
use Rattle.refusals.specs.declared.Refusal.{Refusal}
use Rattle.header.specs.declared.Record.{Record}

-- one that is too long is refused by 29, else it is opened
abbrev pub opened_file : List ℕ → Result Record Refusal
opened_file s = cond (ltb 30000 (length s)) (Err (refusal_of LongInput)) (opened s)
