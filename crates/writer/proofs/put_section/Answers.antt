use Rattle.fields.proofs.Base.{ap, ◌∙◌, [], ◌∷◌, ◌/◌, ◌%◌, arith, sets}
use Rattle.put.proofs.Put.{put_inside}
use Rattle.compose.proofs.Words.{length_words}
use Rattle.writer.proofs.Fields.{section_words}
use Rattle.writer.proofs.put_section.Goals as goal

pub returns : goal.returns
returns c = let a = c.args in
    c.put_words.ensures.written
    ∙ put_inside a.out.now 0x60 _ (omega (arith, c.requires, length_words (0x1FE ∷ 0 ∷ (a.size % 0x1_0000_0000) ∷ (a.size / 0x1_0000_0000) ∷ 0 ∷ 0 ∷ [])))
    ∙ ap (sets a.out.now 0x60) (section_words a.size)
