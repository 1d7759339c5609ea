use Rattle.fields.proofs.Base.{le-ltb, lt-ltb, le-leb, lt-leb, ◌≡◌, sym, ◌&&◌, ◌||◌, cond, arith, ◌+◌, leb, ltb, Some, None}
use Rattle.entries.specs.Entry.{listing_at}
use Rattle.entries.proofs.Laws.{name_next}
use Rattle.entries.proofs.listing_at.Goals.{In_ok-size}
use Rattle.entries.proofs.listing_at.Goals as goal

-- with all five numbers read, the two tests are left
tests_left : (c : In_ok-size) → let a = c.args in
    listing_at a.content a.c.now a.at
    ≡ cond (leb c.in_ok-section.section 65535 && (ltb 0 c.in_ok-section.section || leb (c.in_ok-offset.offset + c.in_ok-size.size) a.content))
    (Some (record {
      at = a.at;
      start = c.in_ok-n.start;
      len = c.in_ok-n.n;
      section = c.in_ok-section.section;
      offset = c.in_ok-offset.offset;
      size = c.in_ok-size.size;
      child = 0;
      next = c.in_ok-size.next;
    }))
    None
unfolding listing_at
tests_left c = simp (sym c.in_ok-n.ensures, sym c.in_ok-section.ensures.number, sym c.in_ok-offset.ensures.number, sym c.in_ok-size.ensures.number)

pub returns-in_err-n : goal.returns-in_err-n
unfolding listing_at
returns-in_err-n c = simp (c.from_residual.ensures, sym c.in_err-n.ensures)

pub overflow_add-start : goal.overflow_add-start
overflow_add-start c = let h = name_next _ _ _ _ (sym c.in_ok-n.ensures) in omega arith

pub returns-in_err-section : goal.returns-in_err-section
unfolding listing_at
returns-in_err-section c = simp (c.from_residual-in_err-section.ensures, sym c.in_ok-n.ensures, sym c.in_err-section.ensures.number)

pub returns-in_err-offset : goal.returns-in_err-offset
unfolding listing_at
returns-in_err-offset c =
    simp (c.from_residual-in_err-offset.ensures, sym c.in_ok-n.ensures, sym c.in_ok-section.ensures.number, sym c.in_err-offset.ensures.number)

pub returns-in_err-size : goal.returns-in_err-size
unfolding listing_at
returns-in_err-size c =
    simp (
      c.from_residual-in_err-size.ensures,
      sym c.in_ok-n.ensures,
      sym c.in_ok-section.ensures.number,
      sym c.in_ok-offset.ensures.number,
      sym c.in_err-size.ensures.number,
    )

pub returns-then-section-gt65535 : goal.returns-then-section-gt65535
returns-then-section-gt65535 c = simp (tests_left (goal.at.returns-then-section-gt65535 c).In_ok-size, lt-leb _ _ c.if-section-gt65535.true)

pub returns-then-content-offset : goal.returns-then-content-offset
returns-then-content-offset c =
    simp (
      tests_left (goal.at.returns-then-content-offset c).In_ok-size,
      le-leb _ _ c.if-section-gt65535.false,
      le-ltb 0 c.in_ok-section.section (omega arith),
      lt-leb (c.in_ok-offset.offset + c.in_ok-size.size) c.args.content (omega arith),
    )

pub returns-then-content-offset-2 : goal.returns-then-content-offset-2
returns-then-content-offset-2 c =
    simp (
      tests_left (goal.at.returns-then-content-offset-2 c).In_ok-size,
      le-leb _ _ c.if-section-gt65535.false,
      le-ltb 0 c.in_ok-section.section (omega arith),
      lt-leb (c.in_ok-offset.offset + c.in_ok-size.size) c.args.content (omega arith),
    )

pub returns-else-content-offset-2 : goal.returns-else-content-offset-2
returns-else-content-offset-2 c =
    simp (
      tests_left (goal.at.returns-else-content-offset-2 c).In_ok-size,
      le-leb _ _ c.if-section-gt65535.false,
      le-ltb 0 c.in_ok-section.section (omega arith),
      le-leb (c.in_ok-offset.offset + c.in_ok-size.size) c.args.content (omega arith),
    )

pub returns-else-section-lt1 : goal.returns-else-section-lt1
returns-else-section-lt1 c =
    simp (tests_left (goal.at.returns-else-section-lt1 c).In_ok-size, le-leb _ _ c.if-section-gt65535.false, lt-ltb 0 _ c.if-section-lt1.false)
