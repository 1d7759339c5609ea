use Rattle.fields.proofs.Base.{◌≡◌, sym, ◌∙◌, true}
use Rattle.fields.specs.Part.{part_of}
use Rattle.names.specs.Names.{matches}
use Rattle.names.proofs.Laws.{matches_equal}
use Rattle.compare.proofs.same_entries.Goals as goal

pub returns-then-is_match : goal.returns-then-is_match
returns-then-is_match c =
    let match_is : let a = c.args in
    matches (part_of a.c1.now c.in_ok-x.x.start c.in_ok-x.x.len) (part_of a.c2.now c.in_ok-y.y.start c.in_ok-y.y.len) ≡ true =
    rw (← c.part.ensures, ← c.part-2.ensures) (sym c.is_match.ensures ∙ c.if-is_match.true) in
    record {
      first = sym c.listing_at.ensures ∙ c.in_ok-x.was;
      second = sym c.listing_at-2.ensures ∙ c.in_ok-y.was;
      numbers = sym c.same_at.ensures ∙ c.if-not-same_at.false;
      names = matches_equal _ _ match_is;
    }
