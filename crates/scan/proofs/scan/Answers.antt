use Rattle.fields.proofs.Base.{◌≡◌, sym, ap, ◌∙◌, true, Err}
use Rattle.names.specs.Names.{askable}
use Rattle.lookup.proofs.Replies.{replied_name, replied_record, replied_search}
use Rattle.scan.specs.Scan.{scanned}
use Rattle.scan.proofs.Agreed.{promised}
use Rattle.scan.proofs.scan.Goals as goal

pub returns-then-not-good_name : goal.returns-then-not-good_name
unfolding scanned
returns-then-not-good_name c = let a = c.args in
    promised a.file.now a.book a.name.now _
    (ap (λ x. Err x) c.refuse.ensures ∙ sym (replied_name a.file.now a.book a.name.now _ (sym c.is_askable-good_name.ensures ∙ c.if-not-good_name.true)))

pub returns-then-not-good_record : goal.returns-then-not-good_record
unfolding scanned
returns-then-not-good_record c =
    let good_name : askable c.args.name.now ≡ true =
    sym c.is_askable-good_name.ensures ∙ c.if-not-good_name.false in
    let a = c.args in
    promised a.file.now a.book a.name.now _
    (ap (λ x. Err x) c.refuse-then-not-good_record.ensures
    ∙ sym (replied_record a.file.now a.book a.name.now _ good_name (sym c.record_fits-good_record.ensures ∙ c.if-not-good_record.true)))

pub returns : goal.returns
unfolding scanned
returns c =
    let good_name : askable c.args.name.now ≡ true =
    sym c.is_askable-good_name.ensures ∙ c.if-not-good_name.false in
    let a = c.args in
    promised a.file.now a.book a.name.now _
    (c.scan_chain.ensures
    ∙ sym (replied_search a.file.now a.book a.name.now _ good_name (sym c.record_fits-good_record.ensures ∙ c.if-not-good_record.false)))
