use Rattle.fields.proofs.Base.{◌∙◌, arith}
use Rattle.put.proofs.Put.{sets_end}
use Rattle.compose.proofs.Words.{words_turn, words_end}
use Rattle.compose.proofs.write_words.Goals as goal

pub loop-i-preserved : goal.loop-i-preserved
loop-i-preserved c = let l = c.loop-i in
    let r = c.put32 in
    (r.auto.out ∙ l.invariant.0, words_turn _ l.i _ l.out _ _ c.loop-i-test.true (omega (arith, c.requires, l.invariant.0)) r.ensures.written l.invariant.1)

pub returns : goal.returns
returns c = let l = c.loop-i in sets_end _ _ _ _ (words_end _ l.i c.loop-i-test.false) l.invariant.1
