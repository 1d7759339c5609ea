use Rattle.fields.proofs.Base.{eq-eqb, ne_eqb, ◌≡◌, Bool, ℕ, sym, ap, ◌∙◌, arith, ◌-◌, ◌<◌}
use Rattle.chunk.specs.Chunk.{Parsed}
use Rattle.tree.specs.Shape.{Shape}
use Rattle.tree.specs.Walk.{chain_run}
use Rattle.tree.proofs.Steps.{run_none}
use Rattle.book.specs.Book.{directory_of, shape_of}
use Rattle.opening.specs.Passes.{link_of}
use Rattle.opening.specs.declared.Link.{Link}
use Rattle.opening.proofs.Chains.{run_link, run_link_lem}
use Rattle.opening.proofs.chain_linked.Goals as goal

-- what the link x of chunk c, which is y, makes of the run, whose outcome is t
linked : (D : ℕ → Parsed) (H : Shape) (left previous c : ℕ) (x y : Link) (t : Bool) → 0 < left → x ≡ link_of D H previous c → x ≡ y
    → chain_run D H left previous c ≡ t → run_link D H (left - 1) c y ≡ t
linked D H left previous c x y t h p q r = ap (run_link D H (left - 1) c) (sym q ∙ p) ∙ sym (run_link_lem D H left previous c h) ∙ r

pub loop-left-init : goal.loop-left-init
loop-left-init c =
    let a = c.args in
    ap (λ p. chain_run (directory_of a.file.now a.book) (shape_of a.book) a.listings p a.book.first) c.no_chunk-previous.ensures

pub returns-in-Broken : goal.returns-in-Broken
returns-in-Broken c =
    let a = c.args in
    let l = c.loop-left in
    linked (directory_of a.file.now a.book) (shape_of a.book) l.left l.previous l.c _ _ _ c.loop-left-test.true c.link_from.ensures c.in-Broken.is l.invariant

pub returns-then-c-last : goal.returns-then-c-last
returns-then-c-last c =
    let a = c.args in
    let l = c.loop-left in
    rw (ne_eqb _ _ c.if-c-last.true)
    at (linked (directory_of a.file.now a.book) (shape_of a.book) l.left l.previous l.c _ _ _ c.loop-left-test.true c.link_from.ensures c.in-Last.is l.invariant)

pub returns-in-Last : goal.returns-in-Last
returns-in-Last c =
    let a = c.args in
    let l = c.loop-left in
    rw (eq-eqb _ _ c.if-c-last.false)
    at (linked (directory_of a.file.now a.book) (shape_of a.book) l.left l.previous l.c _ _ _ c.loop-left-test.true c.link_from.ensures c.in-Last.is l.invariant)

pub loop-left-preserved : goal.loop-left-preserved
loop-left-preserved c =
    let a = c.args in
    let l = c.loop-left in
    linked (directory_of a.file.now a.book) (shape_of a.book) l.left l.previous l.c _ _ _ c.loop-left-test.true c.link_from.ensures c.in-Next.is l.invariant

pub returns : goal.returns
returns c =
    let a = c.args in
    let l = c.loop-left in
    sym (run_none (directory_of a.file.now a.book) (shape_of a.book) l.left l.previous l.c (omega arith)) ∙ l.invariant
