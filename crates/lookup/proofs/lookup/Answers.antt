use Rattle.fields.proofs.Base.{ap, arith, rules, sym, ◌∙◌, Err}
use Rattle.book.proofs.Laws.{fits_told}
use Rattle.lookup.proofs.Promised.{name_bad, trail_short, record_bad, descended}
use Rattle.lookup.proofs.lookup.Goals as goal

pub returns-then-not-good_name : goal.returns-then-not-good_name
returns-then-not-good_name c = let a = c.args in
    name_bad a.file.now a.book a.name.now a.trail.now (Err c.refuse.result) (sym c.is_askable-good_name.ensures ∙ c.if-not-good_name.true) (ap Err c.refuse.ensures)

pub returns-then-trail-lt5 : goal.returns-then-trail-lt5
returns-then-trail-lt5 c = let a = c.args in
    trail_short a.file.now a.book a.name.now a.trail.now (sym c.is_askable-good_name.ensures ∙ c.if-not-good_name.false) (Err c.refuse-then-trail-lt5.result) (omega arith) (ap Err c.refuse-then-trail-lt5.ensures)

pub returns-then-not-good_record : goal.returns-then-not-good_record
returns-then-not-good_record c = let a = c.args in
    record_bad a.file.now a.book a.name.now a.trail.now (sym c.is_askable-good_name.ensures ∙ c.if-not-good_name.false) (omega arith) (Err c.refuse-then-not-good_record.result)
    (sym c.record_fits-good_record.ensures ∙ c.if-not-good_record.true) (ap Err c.refuse-then-not-good_record.ensures)

pub descend-requires : goal.descend-requires
descend-requires c = let a = c.args in
    let h = fits_told a.file.now a.book (sym c.record_fits-good_record.ensures ∙ c.if-not-good_record.false) in
    search rules

pub returns : goal.returns
returns c = let a = c.args in
    descended a.file.now a.book a.name.now a.trail.now (sym c.is_askable-good_name.ensures ∙ c.if-not-good_name.false) (omega arith) c.descend.result c.descend.new.trail
    (sym c.record_fits-good_record.ensures ∙ c.if-not-good_record.false) (rw (← c.top_chunk.ensures) c.descend.ensures)
