use Rattle.fields.proofs.Base.{◌≡◌, sym, ◌∙◌, arith}
use Rattle.source.specs.Source.{item_from}
use Rattle.source.proofs.Rows.{Stepped, taken_entry, run_end, row_of}
use Rattle.pack.specs.Fill.{row_size}
use Rattle.pack.proofs.Sizes.{row_short, size_row}
use Rattle.pack.proofs.Filling.{fit_over, fit_none, fit_taken, fit_left}
use Rattle.pack.proofs.next_fit.Goals.{In_ok-e, After-entry_size}
use Rattle.pack.proofs.next_fit.Goals as goal

-- the entry that is read, and its size
read_is : (c : In_ok-e) → Stepped c.args.f.left (item_from c.args.content c.args.input.now c.args.starts.now c.args.kind c.args.f.at) c.in_ok-e.e
read_is c = taken_entry _ _ _ (sym c.step.ensures ∙ c.in_ok-e.was)

sized : (c : After-entry_size) → c.entry_size.result ≡ row_size c.args.kind c.in_ok-e.e
sized c =
    let i = taken_entry _ _ _ (sym c.step.ensures ∙ c.in_ok-e.was) in
    c.entry_size.ensures ∙ size_row _ _ (row_of _ _ _ _ _ _ i.item).short

pub returns-then-f-gt4096 : goal.returns-then-f-gt4096
returns-then-f-gt4096 c = sym (fit_over _ _ _ _ _ c.if-f-gt4096.true)

pub returns-in_err-e : goal.returns-in_err-e
returns-in_err-e c = c.from_residual.ensures ∙ sym (fit_none _ _ _ _ _ _ _ _ _ (run_end _ _ _ (sym c.step.ensures ∙ c.in_err-e.was)))

pub overflow_add-bytes : goal.overflow_add-bytes
overflow_add-bytes c =
    let r = row_of _ _ _ _ _ _ (read_is (goal.at.overflow_add-bytes c).In_ok-e).item in
    omega (arith, sized (goal.at.overflow_add-bytes c).After-entry_size, row_short c.args.kind c.in_ok-e.e r.short, c.if-f-gt4096.false)

pub returns-then-fits_chunk : goal.returns-then-fits_chunk
returns-then-fits_chunk c =
    let i = read_is (goal.at.returns-then-fits_chunk c).In_ok-e in
    fit_taken _ _ _ _ _ _ _ _ _ _ i.some i.item _ (sized (goal.at.returns-then-fits_chunk c).After-entry_size) _ c.fits_chunk.ensures c.if-fits_chunk.true

pub returns : goal.returns
returns c =
    let i = read_is (goal.at.returns c).In_ok-e in
    fit_left _ _ _ _ _ _ _ _ _ _ i.some i.item _ (sized (goal.at.returns c).After-entry_size) _ c.fits_chunk.ensures c.if-fits_chunk.false
