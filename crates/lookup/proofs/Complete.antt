-- On a book that opening accepts a lookup finds exactly what is there, and its trail is the descent: `complete`.
use Rattle.fields.proofs.Base.{◌≡◌, refl, sym, ap, ◌∙◌, ◌≢◌, List, ◌++◌, ℕ, ◌≤◌, arith, length, drop, sets, le-leb, Result, Ok, Err}
use Rattle.fields.proofs.Tests.{never}
use Rattle.refusals.specs.declared.Refusal.{Refusal}
use Rattle.entries.specs.Entry.{Entry}
use Rattle.header.specs.declared.Record.{Record}
use Rattle.header.proofs.Accepted.{header_accepted}
use Rattle.tree.specs.Descent.{Outcome, found, absent, refused, trail}
use Rattle.tree.specs.Tree.{top}
use Rattle.tree.specs.Exact.{LookupExact}
use Rattle.tree.proofs.Descended.{trail_bound}
use Rattle.tree.proofs.LookupExact.{lookup_exact}
use Rattle.book.specs.Book.{directory_of, shape_of}
use Rattle.report.specs.Report.{report_of}
use Rattle.report.specs.declared.Report.{Report}
use Rattle.opening.specs.Opened.{opened}
use Rattle.lookup.specs.Lookup.{outcome_in, trail_in, count_in, effort_in, answer_of, unless, looked_up, trail_after}
use Rattle.lookup.specs.Complete.{Complete}
use Rattle.lookup.specs.declared.Effort.{Effort}
use Rattle.lookup.specs.declared.Answer.{Answer}
use Rattle.lookup.specs.declared.Answer.TheVariants.{Found, Absent}
use Rattle.opening.proofs.Accepted.{OpenedBook, opened_book}
use Rattle.lookup.proofs.Trail.{sets_front}

-- ---- what an answer tells of the outcome that it is for

found_of : (book : Record) (n : Effort) (o : Outcome) (x : Report) (m : Effort) → answer_of book n o ≡ Ok (Found m x) → (c : ℕ) × (e : Entry) × (o ≡ found c e) × (x ≡ report_of book c e)
found_of book n (found c e) x m q = (c, e, refl, cc)
found_of book n absent x m q = never (cc)
found_of book n refused x m q = never (cc)

absent_of : (book : Record) (n : Effort) (o : Outcome) → answer_of book n o ≡ Ok (Absent n) → o ≡ absent
absent_of book n (found c e) q = never (cc)
absent_of book n absent q = refl
absent_of book n refused q = never (cc)

refused_of : (book : Record) (n : Effort) (o : Outcome) (x : Refusal) → answer_of book n o ≡ Err x → o ≡ refused
refused_of book n (found c e) x q = never (cc)
refused_of book n absent x q = never (cc)
refused_of book n refused x q = refl

changed : (r : Result Answer Refusal) (was is : List ℕ) → ((x : Refusal) → r ≢ Err x) → unless r was is ≡ is
changed (Ok (Found n x)) was is h = refl
changed (Ok (Absent n)) was is h = refl
changed (Err x) was is h = absurd (h x refl)

-- ---- an accepted book

module _ (s : List ℕ) (book : Record) (name was : List ℕ) (o : OpenedBook s book) (room : 5 ≤ length was) where
  -- every check is passed, so that the answer is the descent's
  pub answer_is : 1 ≤ length name → length name ≤ 1024
      → looked_up s book name (length was) ≡ answer_of book (effort_in s book name) (outcome_in s book name)
  unfolding looked_up
  answer_is some short = rw (le-leb 1 (length name) some, le-leb (length name) 1024 short, le-leb 5 (length was) room, o.fits) refl

  -- its chunks have room in the trail
  in_trail : count_in s book name ≤ length was
  unfolding trail
  in_trail =
      let b = trail_bound (directory_of s book) (shape_of book) name book.depth (top (shape_of book)) in
      let h = (header_accepted s book o.head).depth_high in
      omega arith

  trail_is : ((x : Refusal) → looked_up s book name (length was) ≢ Err x)
      → trail_after s book name was ≡ trail_in s book name ++ drop (count_in s book name) was
  unfolding trail_after
  trail_is h =
      changed (looked_up s book name (length was)) was (sets was 0 (trail_in s book name)) h
      ∙ sets_front (trail_in s book name) was in_trail

pub complete : (s : List ℕ) (book : Record) (name was : List ℕ) → opened s ≡ Ok book → 1 ≤ length name → length name ≤ 1024 → 5 ≤ length was
    → Complete s book name was (looked_up s book name (length was)) (trail_after s book name was)
complete s book name was accepts some short room =
    let b : OpenedBook s book = opened_book s book accepts in
    let d : LookupExact (directory_of s book) (shape_of book) name = lookup_exact (directory_of s book) (shape_of book) b.directory name in
    let n : Effort = effort_in s book name in
    let o : Outcome = outcome_in s book name in
    let a : looked_up s book name (length was) ≡ answer_of book n o = answer_is s book name was b room some short in
    let taken : (x : Refusal) → looked_up s book name (length was) ≢ Err x = λ x q. d.never_refused (refused_of book n o x (sym a ∙ q)) in
    record {
      held_found = λ c e h. a ∙ ap (answer_of book n) ((d.found_iff c e).1 h);
      found_held = λ x m q. let f = found_of book n o x m (sym a ∙ q) in (f.0, f.1, (d.found_iff f.0 f.1).0 f.2, f.3);
      only = d.only;
      absent_iff = ((λ q. d.absent_iff.0 (absent_of book n o (sym a ∙ q))), (λ h. a ∙ ap (answer_of book n) (d.absent_iff.1 h)));
      never_refused = taken;
      places = trail_is s book name was b room taken;
      count_when_below = d.trail_below;
      count_else = d.trail_else;
    }
