use Rattle.fields.proofs.Base.{ap, ◌∙◌, [], ◌∷◌, ◌+◌, ◌*◌, arith, sets}
use Rattle.put.proofs.Put.{put_inside}
use Rattle.compose.proofs.Words.{length_words}
use Rattle.writer.proofs.Fields.{file_words}
use Rattle.writer.proofs.put_file_header.Goals as goal

pub returns : goal.returns
returns c = let a = c.args in
    c.put_words.ensures.written
    ∙ put_inside a.out.now 0 _ (omega (
      arith,
      c.requires.0,
      length_words (0x4653_5449 ∷ 3 ∷ 0x60 ∷ 1 ∷ a.time ∷ a.language ∷ 0x7C01_FD10 ∷ 0x11D0_7BAA ∷ 0xA000_0C9E ∷ 0xECE6_22C9
          ∷ 0x7C01_FD11 ∷ 0x11D0_7BAA ∷ 0xA000_0C9E ∷ 0xECE6_22C9 ∷ 0x60 ∷ 0 ∷ 24 ∷ 0 ∷ 0x78 ∷ 0 ∷ (84 + 4096 * a.count) ∷ 0 ∷ (204 + 4096 * a.count) ∷ 0 ∷ []),
    ))
    ∙ ap (sets a.out.now 0) (file_words a.time a.language a.count c.requires.1)
