use Rattle.fields.proofs.Base.{ap, ◌∙◌, ℕ, ◌+◌, ◌-◌, arith, sets}
use Rattle.compose.proofs.Words.{three}
use Rattle.layout.specs.Headers.{head_length, file_header, section_zero, directory_header}
use Rattle.layout.specs.Layout.{new_root}
use Rattle.writer.specs.Plan.{headers_of}
use Rattle.layout.proofs.Sizes.{length_file, length_section}
use Rattle.writer.proofs.put_headers.Goals as goal

pub returns : goal.returns
unfolding headers_of
returns c = let a = c.args in
    let r = c.root_chunk.ensures in
    three a.out.now _ _ _ 0 0x60 0x78 (file_header a.time a.language a.count) (section_zero (head_length a.count + a.content)) (directory_header a.language a.density a.depth (new_root a.depth a.count) (a.m - 1) a.count)
    c.put_file_header.ensures (omega (arith, length_file a.time a.language a.count))
    c.put_section.ensures (omega (arith, length_section (head_length a.count + a.content)))
    (c.put_directory_header.ensures ∙ ap (λ (x : ℕ). sets c.put_section.new.out 0x78 (directory_header a.language a.density a.depth x (a.m - 1) a.count)) r)
