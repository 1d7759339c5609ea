use Rattle.fields.proofs.Base.{◌≡◌, sym, ap, ◌∙◌, true, arith, Err, ⊎_elim}
use Rattle.std.proofs.lemmas.Result.{err_from_is_err_and}
use Rattle.refusals.specs.Refusals.{refusal_of}
use Rattle.refusals.specs.declared.Rule.{Rule}
use Rattle.chunk_fields.specs.ChunkFields.{spacing_of}
use Rattle.layout.specs.Headers.{head_length}
use Rattle.layout.specs.Layout.{takes, layout_for}
use Rattle.layout.proofs.Cut.{takes_told}
use Rattle.layout.proofs.Filled.{leaves_some, list_whole}
use Rattle.layout.proofs.Places.{length_head}
use Rattle.writer.specs.Plan.{in_bounds, LevelsPlanned}
use Rattle.writer.proofs.Heads.{limits_dense, takes_both, takes_limits, takes_right, answer_18, answer_19, answer_20, answer_head, made_small, spacing_is}
use Rattle.writer.proofs.write_head.Goals.{In_ok-shape, After-spacing-n}
use Rattle.writer.proofs.write_head.Goals as goal

-- density and content length are taken, and the spacing is that of the density
within : (c : After-spacing-n) → in_bounds c.args.density c.args.content_length ≡ true
within c = sym c.is_taken.ensures ∙ c.if-not-is_taken.false

spaced : (c : After-spacing-n) → c.spacing-n.result ≡ spacing_of c.args.density
spaced c = spacing_is _ _ (limits_dense _ _ (within c)) c.spacing-n.ensures

-- the input is taken, and its levels are planned
taken : (c : In_ok-shape) → takes c.args.density c.args.content_length c.args.entries.now ≡ true
taken c = takes_both _ _ _ (sym c.is_taken.ensures ∙ c.if-not-is_taken.false) (rw c.in_ok-shape.was at c.plan.ensures).0

made : (c : In_ok-shape) → LevelsPlanned c.args.entries.now c.plan.new.starts (layout_for c.args.density c.args.content_length c.args.entries.now) c.in_ok-shape.shape.listings c.in_ok-shape.shape.depth c.in_ok-shape.shape.count
made c =
    let n = spacing_is _ _ (limits_dense _ _ (sym c.is_taken.ensures ∙ c.if-not-is_taken.false)) c.spacing-n.ensures in
    rw n at (rw c.in_ok-shape.was at c.plan.ensures).1

pub returns-then-not-is_taken : goal.returns-then-not-is_taken
returns-then-not-is_taken c = let a = c.args in answer_18 a.entries.now a.density a.time a.language a.content_length a.out.now _ (ap Err c.refuse.ensures) (takes_limits _ _ a.entries.now (sym c.is_taken.ensures ∙ c.if-not-is_taken.true))

pub returns-then-out-len : goal.returns-then-out-len
returns-then-out-len c =
    let w = made (goal.at.returns-then-out-len c).In_ok-shape in
    let a = c.args in
    answer_20 a.entries.now a.density a.time a.language a.content_length a.out.now (taken (goal.at.returns-then-out-len c).In_ok-shape) (made_small _ _ _ _ _ _ w) _ w.counted _ (ap Err c.refuse-then-out-len.ensures) c.if-out-len.true

pub put_head-requires : goal.put_head-requires
put_head-requires c =
    let a = c.args in
    let t = taken (goal.at.put_head-requires c).In_ok-shape in
    let w = made (goal.at.put_head-requires c).In_ok-shape in
    let g = takes_told _ _ _ t in
    let n = spaced (goal.at.put_head-requires c).After-spacing-n in
    record {
      ready = rw n (record {
        made = w;
        known = c.plan.auto.starts;
        some = omega (arith, w.listings, leaves_some _ _ _ _ g);
        enough = c.if-out-len.false;
      });
      n_value = (n, g.small);
    }

pub returns-in_err-shape : goal.returns-in_err-shape
returns-in_err-shape c =
    let a = c.args in
    let p = goal.at.returns-in_err-shape c in
    let r = err_from_is_err_and c.from_residual.result c.from_residual.ensures.1 in
    let refused : (x : Rule) → c.in_err-shape.field-0.0 ≡ x → c.from_residual.result ≡ Err (refusal_of x) = λ x e. rw (r.1, r.2, e) in
    ⊎_elim
    (λ t. answer_19 a.entries.now a.density a.time a.language a.content_length a.out.now _ (refused _ t.0) (takes_both _ _ _ (within p.After-spacing-n) t.1) (rw (spaced p.After-spacing-n) at t.2))
    (λ t. answer_18 a.entries.now a.density a.time a.language a.content_length a.out.now _ (refused _ t.0) (takes_right _ _ _ t.1))
    c.in_err-shape.ensures

pub returns : goal.returns
returns c =
    let t = taken (goal.at.returns c).In_ok-shape in
    let w = made (goal.at.returns c).In_ok-shape in
    let a = c.args in
    answer_head a.entries.now a.density a.time a.language a.content_length a.out.now t (made_small _ _ _ _ _ _ w) _ w.counted (λ j. (c.type_inv.entries j).fits) (omega arith) (omega arith) _ c.if-out-len.false
    (length_head a.density a.time a.language a.content_length _ (list_whole _ _ _ _ (takes_told a.density a.content_length a.entries.now t)) ∙ ap head_length (sym w.counted))
    (rw (spaced (goal.at.returns c).After-spacing-n) at c.put_head.ensures)
