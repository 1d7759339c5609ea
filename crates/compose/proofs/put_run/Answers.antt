use Rattle.fields.proofs.Base.{ap, ◌∙◌, ◌∷◌, ℕ, ◌+◌, arith, drop, length-set, drop_of_length-le, rules}
use Rattle.fields.specs.Part.{part}
use Rattle.fields.proofs.Parts.{drop_more, length_part, get_d_part}
use Rattle.put.proofs.Put.{sets_turn, sets_end}
use Rattle.compose.proofs.put_run.Goals as goal

pub loop-i-preserved : goal.loop-i-preserved
loop-i-preserved c = let l = c.loop-i in
    let a = c.args in
    let s = a.input.now in
    let lp = length_part s a.start a.n c.requires.1 in
    let m = drop_more (part s a.start a.n) l.i (omega arith) in
    let g = get_d_part s a.start a.n l.i (omega arith) in
    (search rules, simp length-set l.invariant.1, sets_turn _ _ _ _ _ _ _ (m ∙ ap (λ (b : ℕ). b ∷ drop (l.i + 1) (part s a.start a.n)) g) l.invariant.2)

pub returns : goal.returns
returns c = let l = c.loop-i in
    let a = c.args in
    let s = a.input.now in
    let lp = length_part s a.start a.n c.requires.1 in
    sets_end _ _ _ _ (drop_of_length-le (part s a.start a.n) {i = l.i} (omega arith)) l.invariant.2
