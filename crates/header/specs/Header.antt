-- The headers of a whole file: each on its own part, in the order of their refusals, and the record that opening hands out.
use Rattle.std.specs.Prelude.{ℕ, List, length, Result, Ok, Err, ⊤}
use Rattle.fields.specs.Part.{part_of}
use Rattle.file_header.specs.FileHeader.{file_header_of, section_zero_of}
use Rattle.file_header.specs.declared.FileFields.{FileFields}
use Rattle.directory_header.specs.DirectoryHeader.{directory_header_of}
use Rattle.directory_header.specs.declared.DirectoryFields.{DirectoryFields}
use Rattle.header.specs.declared.Record.{Record}
use Rattle.refusals.specs.declared.Rule.{Rule}

-- FORMAT K1
abbrev pub record_from : FileFields → DirectoryFields → Record
record_from f d =
    record {
      version = f.version;
      time = f.time;
      language = f.language;
      start = f.start;
      count = d.count;
      density = d.density;
      depth = d.depth;
      root = d.root;
      first = d.first;
      last = d.last;
      content = f.content;
    }

-- the parts that are checked: the file header, and behind it section 0 and the directory's header (FORMAT D1)
abbrev pub header_in : List ℕ → List ℕ
header_in s = part_of s 0 96

abbrev pub section_in : List ℕ → FileFields → List ℕ
section_in s f = part_of s f.section 24

abbrev pub directory_in : List ℕ → FileFields → List ℕ
directory_in s f = part_of s f.start 84

-- what is left to be checked behind check 5, 4 and none (FORMAT RO1, RO4)
abbrev pub after_directory : FileFields → Result DirectoryFields Rule → Result Record Rule
after_directory f (Ok d) = Ok (record_from f d)
after_directory f (Err n) = Err n

unfoldable pub directory_then : List ℕ → FileFields → Result Record Rule
directory_then s f = after_directory f (directory_header_of (directory_in s f) f.length)

abbrev pub after_section : List ℕ → FileFields → Result ⊤ Rule → Result Record Rule
after_section s f (Ok tt) = directory_then s f
after_section s f (Err n) = Err n

unfoldable pub section_then : List ℕ → FileFields → Result Record Rule
section_then s f = after_section s f (section_zero_of (section_in s f) (length s))

abbrev pub after_file : List ℕ → Result FileFields Rule → Result Record Rule
after_file s (Ok f) = section_then s f
after_file s (Err n) = Err n

unfoldable pub header_of : List ℕ → Result Record Rule
header_of s = after_file s (file_header_of (header_in s) (length s))
