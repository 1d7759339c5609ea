use Rattle.fields.proofs.Base.{◌≡◌, sym, ap, ◌∙◌, true, rules, Some, None, Ok, Err}
use Rattle.book.specs.Book.{record_fits}
use Rattle.walk.specs.Walk.{coming_at}
use Rattle.walk.proofs.Entering.{peek_unfit, peek_entered}
use Rattle.walk.proofs.Walk.peek.Goals as goal

pub returns-then-not-record_fits : goal.returns-then-not-record_fits
returns-then-not-record_fits c = let a = c.args in
    ap Err c.no_reading.ensures ∙ sym (peek_unfit a.file.now a.book a.self (sym c.record_fits.ensures ∙ c.if-not-record_fits.true))

pub returns-in-Some : goal.returns-in-Some
returns-in-Some c =
    let fits_is : let a = c.args in record_fits a.file.now a.book ≡ true =
    sym c.record_fits.ensures ∙ c.if-not-record_fits.false in
    let a = c.args in
    c.entry_here.ensures ∙ sym (peek_entered a.file.now a.book a.self fits_is (Ok (Some c.in-Some.w)) (sym c.enter.ensures ∙ c.in_ok-w.was ∙ ap Ok c.in-Some.is))

pub returns-in-None : goal.returns-in-None
returns-in-None c =
    let fits_is : let a = c.args in record_fits a.file.now a.book ≡ true =
    sym c.record_fits.ensures ∙ c.if-not-record_fits.false in
    let a = c.args in
    sym (peek_entered a.file.now a.book a.self fits_is (Ok None) (sym c.enter.ensures ∙ c.in_ok-w.was ∙ ap Ok c.in-None.is))

pub returns-in_err-w : goal.returns-in_err-w
unfolding coming_at
returns-in_err-w c = search rules
