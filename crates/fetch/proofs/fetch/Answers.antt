use Rattle.fields.proofs.Base.{sym, ap, ◌∙◌, Err}
use Rattle.book.proofs.Laws.{fits_told}
use Rattle.lookup.proofs.Replies.{replied_name, replied_record, replied_search}
use Rattle.fetch.specs.Fetch.{fetched}
use Rattle.fetch.proofs.Agreed.{promised}
use Rattle.fetch.proofs.fetch.Goals as goal

pub returns-then-not-is_askable : goal.returns-then-not-is_askable
unfolding fetched
returns-then-not-is_askable c = let a = c.args in
    promised a.file.now a.book a.name.now _
    (ap (λ x. Err x) c.refuse.ensures ∙ sym (replied_name a.file.now a.book a.name.now _ (sym c.is_askable.ensures ∙ c.if-not-is_askable.true)))

pub returns-then-not-record_fits : goal.returns-then-not-record_fits
unfolding fetched
returns-then-not-record_fits c = let a = c.args in
    promised a.file.now a.book a.name.now _
    (ap (λ x. Err x) c.refuse-then-not-record_fits.ensures
    ∙ sym (replied_record a.file.now a.book a.name.now _ (sym c.is_askable.ensures ∙ c.if-not-is_askable.false) (sym c.record_fits.ensures ∙ c.if-not-record_fits.true)))

pub fetch_from-requires : goal.fetch_from-requires
fetch_from-requires c = let a = c.args in
    let h = fits_told a.file.now a.book (sym c.record_fits.ensures ∙ c.if-not-record_fits.false) in
    h.some_levels

pub returns : goal.returns
unfolding fetched
returns c = let a = c.args in
    promised a.file.now a.book a.name.now _
    (rw (← c.top_chunk.ensures) c.fetch_from.ensures
    ∙ sym (replied_search a.file.now a.book a.name.now _ (sym c.is_askable.ensures ∙ c.if-not-is_askable.false) (sym c.record_fits.ensures ∙ c.if-not-record_fits.false)))
