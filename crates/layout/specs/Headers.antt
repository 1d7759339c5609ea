-- The headers of a new book, field by field (FORMAT, File header, Directory header; W3 to W8).
use Rattle.std.specs.Prelude.{ℕ, ◌+◌, ◌*◌}
use mathlib.Core.List.{List, [], ◌∷◌, flatten}
use Rattle.fields.specs.Le.{bytes}
use Rattle.file_header.specs.FileHeader.{file_tag, file_guid}
use Rattle.directory_header.specs.DirectoryHeader.{directory_tag, directory_guid}

-- where the content starts (W6): the length of the head
abbrev pub head_length : ℕ → ℕ
head_length count = 204 + 4096 * count

-- 96 bytes
unfoldable pub file_header : (time language count : ℕ) → List ℕ
file_header time language count =
    flatten (
    -- 00: tag, version, length, a word, time, language
    file_tag ∷ bytes 4 3 ∷ bytes 4 0x60 ∷ bytes 4 1 ∷ bytes 4 time ∷ bytes 4 language
    -- 18: two GUIDs
    ∷ file_guid 0x10 ∷ file_guid 0x11
    -- 38: section 0, the directory, the content
    ∷ bytes 8 0x60 ∷ bytes 8 24 ∷ bytes 8 0x78 ∷ bytes 8 (84 + 4096 * count) ∷ bytes 8 (head_length count)
    ∷ [])

-- section 0, 24 bytes; size is the file's length
unfoldable pub section_zero : ℕ → List ℕ
section_zero size = flatten (bytes 4 0x1FE ∷ bytes 4 0 ∷ bytes 8 size ∷ bytes 4 0 ∷ bytes 4 0 ∷ [])

-- the unknown words of the directory's header but the one at 0C (W7)
abbrev pub unknown_word : ℕ
unknown_word = 0xFFFF_FFFF

-- 84 bytes
unfoldable pub directory_header : (language density depth root last count : ℕ) → List ℕ
directory_header language density depth root last count =
    flatten (
    -- 00: tag, version, length, a word, chunk size, density
    directory_tag ∷ bytes 4 1 ∷ bytes 4 0x54 ∷ bytes 4 0x0A ∷ bytes 4 4096 ∷ bytes 4 density
    -- 18: depth, root, first and last listing chunk, a word, chunk count, language
    ∷ bytes 4 depth ∷ bytes 4 root ∷ bytes 4 0 ∷ bytes 4 last ∷ bytes 4 unknown_word ∷ bytes 4 count ∷ bytes 4 language
    -- 34: GUID, length, three words
    ∷ directory_guid ∷ bytes 4 0x54 ∷ bytes 4 unknown_word ∷ bytes 4 unknown_word ∷ bytes 4 unknown_word
    ∷ [])
