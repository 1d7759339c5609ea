-- What good headers tell of their record: `header_accepted`.
use Rattle.fields.proofs.Base.{◌≡◌, sym, ap, ap₂, subst, ◌∙◌, List, true, ℕ, ◌+◌, ◌*◌, ◌≤◌, ◌<◌, arith, length, Ok}
use Rattle.file_header.specs.FileHeader.{directory_length, file_fields_of}
use Rattle.file_header.specs.declared.FileFields.{FileFields}
use Rattle.file_header.proofs.Rules.{sections_told}
use Rattle.file_header.proofs.Checks.{FileRules, file_rules}
use Rattle.directory_header.specs.DirectoryHeader.{directory_right, directory_fields_of}
use Rattle.directory_header.proofs.Rules.{directory_told}
use Rattle.directory_header.proofs.Checks.{directory_rules}
use Rattle.header.specs.Header.{record_from, header_in, directory_in, header_of}
use Rattle.header.specs.declared.Record.{Record}
use Rattle.header.proofs.Checks.{header_both}

-- bounds of a record; `directory` says that all chunks lie inside the file
pub record Accepted (s : List ℕ) (r : Record) : Type 0 where
  pub count_low : 1 ≤ r.count
  pub count_high : r.count ≤ 4096
  pub density : r.density ≤ 7
  pub depth_low : 1 ≤ r.depth
  pub depth_high : r.depth ≤ 5
  pub flat : r.depth ≡ 1 → r.count ≡ 1
  pub single : r.count ≡ 1 → r.depth ≡ 1
  pub root : 1 < r.depth → r.root < r.count
  pub first : r.first < r.count
  pub last : r.last < r.count
  pub directory : r.start + 84 + 4096 * r.count ≤ length s
  pub content : r.content ≤ length s

-- of a file header h and a directory's header d
rules_accepted : (s h d : List ℕ) → FileRules h (length s) → directory_right (directory_fields_of d) (directory_length h) ≡ true → Accepted s (record_from (file_fields_of h) (directory_fields_of d))
rules_accepted s h d rules right =
    let p = sections_told h (length s) rules.sections in
    let n = directory_told (directory_fields_of d) (directory_length h) right in
    let b = n.bounds in
    record {
      count_low = b.count_low;
      count_high = b.count_high;
      density = b.density;
      depth_low = b.depth_low;
      depth_high = b.depth_high;
      flat = n.root.flat;
      single = n.root.single;
      root = λ l. n.root.chunk (λ q. omega arith);
      first = n.first;
      last = n.last;
      directory = omega (arith, p.directory, n.all);
      content = p.content;
    }

pub header_accepted : (s : List ℕ) (r : Record) → header_of s ≡ Ok r → Accepted s r
header_accepted s r e =
    let t = header_both s r e in
    let h = header_in s in
    let d = directory_in s t.f in
    let a = file_rules h (length s) t.f t.file in
    let b = directory_rules d t.f.length t.d t.directory in
    subst (Accepted s) (ap₂ record_from (sym a.0) (sym b.0) ∙ t.is)
    (rules_accepted s h d a.1 (ap (λ (f : FileFields). directory_right (directory_fields_of d) f.length) (sym a.0) ∙ b.1))
