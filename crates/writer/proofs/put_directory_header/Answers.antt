use Rattle.fields.proofs.Base.{ap, ◌∙◌, [], ◌∷◌, arith, sets}
use Rattle.put.proofs.Put.{put_inside}
use Rattle.compose.proofs.Words.{length_words}
use Rattle.layout.specs.Headers.{unknown_word}
use Rattle.writer.proofs.Fields.{directory_words}
use Rattle.writer.proofs.put_directory_header.Goals as goal

pub returns : goal.returns
returns c = let a = c.args in
    c.put_words.ensures.written
    ∙ put_inside a.out.now 0x78 _ (omega (
      arith,
      c.requires,
      length_words (0x5053_5449 ∷ 1 ∷ 0x54 ∷ 0x0A ∷ 4096 ∷ a.density ∷ a.depth ∷ a.root ∷ 0 ∷ a.last ∷ unknown_word ∷ a.count ∷ a.language
          ∷ 0x5D02_926A ∷ 0x11D0_212E ∷ 0xA000_F99D ∷ 0xECE6_22C9 ∷ 0x54 ∷ unknown_word ∷ unknown_word ∷ unknown_word ∷ []),
    ))
    ∙ ap (sets a.out.now 0x78) (directory_words a.language a.density a.depth a.root a.last a.count)
