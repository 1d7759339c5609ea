-- Records, refusals and answers as numbers for C.
use Rattle.std.specs.Prelude.{ℕ, ◌+◌, ◌*◌, List, [], ◌∷◌, ◌++◌, length, get_or, set, Option, Some, None, Result, Ok, Err, ⊤}
use Rattle.fields.specs.Part.{part_of}
use Rattle.refusals.specs.declared.Refusal.{Refusal}
use Rattle.header.specs.declared.Record.{Record}
use Rattle.lookup.specs.declared.Answer.{Answer}
use Rattle.lookup.specs.declared.Answer.TheVariants.{Found, Absent}
use Rattle.page.specs.Page.{five_of}
use Rattle.listing.specs.declared.Cursor.{Cursor}
use Rattle.listing.specs.declared.Step.{Step}
use Rattle.listing.specs.declared.Step.TheVariants.{End}
use Rattle.page.specs.declared.Page.{Page}
use Rattle.page.specs.declared.Page.TheVariants.{Entries, Short}
use Rattle.report.specs.declared.Report.{Report}
use Rattle.report.specs.declared.Own.{Own}
use Rattle.refusals.specs.Refusals.{number_of, chunk_number}

-- ---- a record as numbers, in the order of its fields

unfoldable pub record_in : List ℕ → Record
record_in n =
    record {
      version = get_or n 0 0;
      time = get_or n 1 0;
      language = get_or n 2 0;
      start = get_or n 3 0;
      count = get_or n 4 0;
      density = get_or n 5 0;
      depth = get_or n 6 0;
      root = get_or n 7 0;
      first = get_or n 8 0;
      last = get_or n 9 0;
      content = get_or n 10 0;
    }

abbrev pub record_numbers : Record → List ℕ
record_numbers r =
    r.version ∷ r.time ∷ r.language ∷ r.start ∷ r.count ∷ r.density ∷ r.depth ∷ r.root ∷ r.first ∷ r.last ∷ r.content ∷ []

-- ---- a refusal: its number plus 256 times its place

abbrev pub refusal_code : Refusal → ℕ
refusal_code r = number_of r.rule + 256 * chunk_number r

-- ---- opening: 0 and the record, or the refusal with nothing changed

abbrev pub open_code : Result Record Refusal → ℕ
open_code (Ok r) = 0
open_code (Err x) = refusal_code x

abbrev pub open_record : Result Record Refusal → List ℕ → List ℕ
open_record (Ok r) was = record_numbers r
open_record (Err x) was = was

-- ---- lookup: 0 and seven numbers, 255 and the two counts alone, or the refusal with nothing changed

abbrev pub lookup_code : Result Answer Refusal → ℕ
lookup_code (Ok (Found n x)) = 0
lookup_code (Ok (Absent n)) = 255
lookup_code (Err x) = refusal_code x

abbrev pub lookup_numbers : Result Answer Refusal → List ℕ → List ℕ
lookup_numbers (Ok (Found n x)) was = n.chunks ∷ (five_of x ++ (n.comparisons ∷ []))
lookup_numbers (Ok (Absent n)) was = set (set was 0 n.chunks) 6 n.comparisons
lookup_numbers (Err x) was = was

-- ---- a search that leaves no trail: 0 and five numbers; 255, or the refusal, with nothing changed

abbrev pub reply_code : Result (Option Report) Refusal → ℕ
reply_code (Ok (Some x)) = 0
reply_code (Ok None) = 255
reply_code (Err x) = refusal_code x

abbrev pub reply_numbers : Result (Option Report) Refusal → List ℕ → List ℕ
reply_numbers (Ok (Some x)) was = five_of x
reply_numbers (Ok None) was = was
reply_numbers (Err x) was = was

-- ---- a batch: 0, or the refusal

abbrev pub batch_code : Result ⊤ Refusal → ℕ
batch_code (Ok tt) = 0
batch_code (Err x) = refusal_code x

-- ---- a page: 0 and its count and next chunk, 255 where the slice is too short, or the refusal with nothing changed

abbrev pub page_code : Result Page Refusal → ℕ
page_code (Ok (Entries n next)) = 0
page_code (Ok Short) = 255
page_code (Err x) = refusal_code x

abbrev pub page_numbers : Result Page Refusal → List ℕ → List ℕ
page_numbers (Ok (Entries n next)) was = n ∷ next ∷ []
page_numbers (Ok Short) was = was
page_numbers (Err x) was = was

-- ---- a cursor as two numbers, chunk and entry

abbrev pub cursor_in : List ℕ → Cursor
cursor_in n = record { chunk = get_or n 0 0; entry = get_or n 1 0 }

abbrev pub cursor_numbers : Cursor → List ℕ
cursor_numbers at = at.chunk ∷ at.entry ∷ []

-- ---- a step: 0 with the entry and the cursor moved on, 255 at the end, or the refusal; nothing changed but for an entry

abbrev pub step_code : Result Step Refusal → ℕ
step_code (Ok (Step.Entry x at)) = 0
step_code (Ok (End at)) = 255
step_code (Err x) = refusal_code x

abbrev pub step_cursor : Result Step Refusal → List ℕ → List ℕ
step_cursor (Ok (Step.Entry x at)) was = cursor_numbers at
step_cursor (Ok (End at)) was = was
step_cursor (Err x) was = was

abbrev pub step_numbers : Result Step Refusal → List ℕ → List ℕ
step_numbers (Ok (Step.Entry x at)) was = five_of x
step_numbers (Ok (End at)) was = was
step_numbers (Err x) was = was

-- ---- own bytes: 0 with their place and how many they are, 255 where there is no entry, with nothing changed

abbrev pub own_code : Option Own → ℕ
own_code (Some x) = 0
own_code None = 255

abbrev pub own_numbers : Option Own → List ℕ → List ℕ
own_numbers (Some x) was = x.place ∷ x.length ∷ []
own_numbers None was = was

-- ---- the length of a part of the file

abbrev pub part_length : List ℕ → ℕ → ℕ → ℕ
part_length s place n = length (part_of s place n)

-- ---- the writer: 0 and the head's length, or the refusal with nothing changed

abbrev pub write_code : Result ℕ Refusal → ℕ
write_code (Ok n) = 0
write_code (Err x) = refusal_code x

abbrev pub write_numbers : Result ℕ Refusal → List ℕ → List ℕ
write_numbers (Ok n) was = n ∷ []
write_numbers (Err x) was = was
