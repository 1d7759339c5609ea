-- A refusal is a rule and the place where it is broken; to users the rule is its number (FORMAT, Refusals; RO7).
use Rattle.std.specs.Prelude.{ℕ, Bool, true, false, Option, Some, None, if◌then◌else◌, ◌==◌}
use Rattle.refusals.specs.declared.Rule.{Rule}
use Rattle.refusals.specs.declared.Rule.TheVariants.{ShortFile, FileTags, WrongVersion, WrongSections, WrongLength, DirectoryTags, WrongDirectory, ChunkTag, ChunkFrame, BadEntry, QuickWords, NameOrder, BrokenChain, BrokenTree, BadName, ShortTrail, BadRecord, BadInput, TooManyChunks, ShortOutput, BadBatch, LongInput, Other}
use Rattle.refusals.specs.declared.Refusal.{Refusal}

-- the number that stands where no chunk is meant: "none" in FORMAT
abbrev pub no_chunk : ℕ
no_chunk = 0xFFFF_FFFF

-- the number of a rule's refusal: its row in FORMAT, R1 to R29, or any further number
abbrev pub number_of : Rule → ℕ
number_of ShortFile = 1
number_of FileTags = 2
number_of WrongVersion = 3
number_of WrongSections = 4
number_of WrongLength = 5
number_of DirectoryTags = 6
number_of WrongDirectory = 7
number_of ChunkTag = 8
number_of ChunkFrame = 9
number_of BadEntry = 10
number_of QuickWords = 11
number_of NameOrder = 12
number_of BrokenChain = 13
number_of BrokenTree = 14
number_of BadName = 15
number_of ShortTrail = 16
number_of BadRecord = 17
number_of BadInput = 18
number_of TooManyChunks = 19
number_of ShortOutput = 20
number_of BadBatch = 22
number_of LongInput = 29
number_of (Other n) = n

-- whether a rule stands in the table, as each does that this library gives; a caller's may be any number
abbrev pub in_table : Rule → Bool
in_table (Other n) = false
in_table n = true

-- the rule of a number
abbrev pub rule_of : ℕ → Rule
rule_of n =
    if n == 1 then ShortFile else
    if n == 2 then FileTags else
    if n == 3 then WrongVersion else
    if n == 4 then WrongSections else
    if n == 5 then WrongLength else
    if n == 6 then DirectoryTags else
    if n == 7 then WrongDirectory else
    if n == 8 then ChunkTag else
    if n == 9 then ChunkFrame else
    if n == 10 then BadEntry else
    if n == 11 then QuickWords else
    if n == 12 then NameOrder else
    if n == 13 then BrokenChain else
    if n == 14 then BrokenTree else
    if n == 15 then BadName else
    if n == 16 then ShortTrail else
    if n == 17 then BadRecord else
    if n == 18 then BadInput else
    if n == 19 then TooManyChunks else
    if n == 20 then ShortOutput else
    if n == 22 then BadBatch else
    if n == 29 then LongInput else
    Other n

-- a place as a number
abbrev pub place_number : Option ℕ → ℕ
place_number None = no_chunk
place_number (Some c) = c

-- that of a refusal
abbrev pub chunk_number : Refusal → ℕ
chunk_number r = place_number r.chunk

-- the refusal of chunk c by a rule
abbrev pub refusal_at : Rule → ℕ → Refusal
refusal_at n c = record { rule = n; chunk = Some c }

-- one that belongs to no chunk
abbrev pub refusal_of : Rule → Refusal
refusal_of n = record { rule = n; chunk = None }
