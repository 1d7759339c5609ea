use Rattle.fields.proofs.Base.{◌≡◌, refl, sym, ◌∙◌, arith, ◌+◌}
use Rattle.std.proofs.lemmas.Result.{err_from_is_err_and}
use Rattle.opening.specs.Opened.{linked_book}
use Rattle.opening.proofs.Surveys.{survey_refuses, survey_passes}
use Rattle.opening.proofs.open_chunks.Goals as goal

pub open_links-requires : goal.open_links-requires
open_links-requires c =
    let p = survey_passes _ c.args.book.count 0 0 c.in_ok-listings.listings (linked_book c.args.file.now c.args.book) c.in_ok-listings.ensures in
    let z : 0 + c.args.book.count ≡ c.args.book.count = omega arith in
    (record { few = c.requires; good = λ i l. p.good i (omega arith) (omega arith) }, rw z at (p.counted refl))

pub returns-in_err-listings : goal.returns-in_err-listings
returns-in_err-listings c =
    let p = err_from_is_err_and c.from_residual.result c.from_residual.ensures.1 in
    rw (p.1, p.2) (survey_refuses _ _ _ _ _ _ c.in_err-listings.ensures)

pub returns : goal.returns
returns c = c.open_links.ensures ∙ sym (survey_passes _ _ _ _ _ _ c.in_ok-listings.ensures).on
