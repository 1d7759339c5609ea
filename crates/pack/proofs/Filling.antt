-- What one chunk takes of the entries from a cursor on: as a whole (`extent_is`), and entry by entry as a loop finds it (`fitted`, `full`).
use Rattle.fields.proofs.Base.{◌≡◌, refl, sym, ap, subst, ◌∙◌, Bool, true, false, cond, List, [], ◌∷◌, ℕ, suc, ◌+◌, ◌-◌, ◌*◌, ◌≤◌, ◌<◌, arith, add-zero, dec_le, length, take, leb-true, lt-leb, Option, Some, None, none-some, cond_some}
use Rattle.entries.specs.declared.Place.{Place}
use Rattle.entries.specs.declared.Kind.{Kind}
use Rattle.chunk_fields.specs.ChunkFields.{first_place, quick_count}
use Rattle.source.specs.Source.{item_from, end_of, rows_from}
use Rattle.entries.proofs.Laws.{on_item}
use Rattle.source.proofs.Rows.{row_of, run_none, run_spent, run_more}
use Rattle.pack.specs.Groups.{fits, taken}
use Rattle.pack.specs.Fill.{row_size, fit_of, extent_from}
use Rattle.pack.specs.declared.Extent.{Extent}
use Rattle.pack.proofs.Groups.{sizes}
use Rattle.pack.proofs.Sizes.{row_long}

module _ (k : Kind) (n c b at left : ℕ) where
  pub extent_none : (es : List Place) → es ≡ [] → extent_from k n c b at left es ≡ record { count = c; bytes = b; at = at; left = left }
  unfolding extent_from
  extent_none es h = rw h

  module _ (e : Place) (rest es : List Place) (h : es ≡ e ∷ rest) where
    pub extent_more : fits k n (c + 1) (b + row_size k e) ≡ true → extent_from k n c b at left es ≡ extent_from k n (c + 1) (b + row_size k e) e.next (left - 1) rest
    unfolding extent_from
    extent_more f = rw (h, f)

    pub extent_full : fits k n (c + 1) (b + row_size k e) ≡ false → extent_from k n c b at left es ≡ record { count = c; bytes = b; at = at; left = left }
    unfolding extent_from
    extent_full f = rw (h, f)

-- as a whole: m entries more, their bytes, and where they end
pub record Extends (k : Kind) (n c b at left : ℕ) (es : List Place) (m : ℕ) (x : Extent) : Type 0 where
  pub count : x.count ≡ c + m
  pub bytes : x.bytes ≡ b + sizes (row_size k) (take m es)
  pub ends : x.at ≡ end_of at (take m es)
  pub less : x.left ≡ left - m

pub extent_is : (k : Kind) (n c b at left : ℕ) (es : List Place) → Extends k n c b at left es (taken (row_size k) (fits k n) c b es) (extent_from k n c b at left es)
unfolding extent_from taken end_of sizes
extent_is k n c b at left [] = record { count = sym (add-zero c); bytes = sym (add-zero b); ends = refl; less = omega arith }
extent_is k n c b at left (e ∷ es) = go (fits k n (c + 1) (b + row_size k e)) (extent_is k n (c + 1) (b + row_size k e) e.next (left - 1) es)
  where
    m : ℕ
    m = taken (row_size k) (fits k n) (c + 1) (b + row_size k e) es

    go : (t : Bool) → Extends k n (c + 1) (b + row_size k e) e.next (left - 1) es m (extent_from k n (c + 1) (b + row_size k e) e.next (left - 1) es)
        → Extends k n c b at left (e ∷ es) (cond t (suc m) 0) (cond t (extent_from k n (c + 1) (b + row_size k e) e.next (left - 1) es) (record { count = c; bytes = b; at = at; left = left }))
    go true x = record { count = omega (arith, x.count); bytes = omega (arith, x.bytes); ends = x.ends; less = omega (arith, x.less) }
    go false x = record { count = sym (add-zero c); bytes = sym (add-zero b); ends = refl; less = omega arith }

-- what fits is small
pub fits_small : (k : Kind) (n c b : ℕ) → fits k n c b ≡ true → first_place k + b + (2 * quick_count n c + 2) ≤ 4096
fits_small k n c b h = leb-true _ _ h

-- ---- the entry that is next: c entries of b bytes are taken, and the cursor is at a place

pub fit_over : (k : Kind) (n c b : ℕ) (es : List Place) → 4096 < b → fit_of k n c b es ≡ None
unfolding fit_of
fit_over k n c b [] h = refl
fit_over k n c b (e ∷ es) h =
    let l : 4096 < first_place k + (b + row_size k e) + (2 * quick_count n (c + 1) + 2) = omega arith in
    rw (lt-leb (first_place k + (b + row_size k e) + (2 * quick_count n (c + 1) + 2)) 4096 l)

left_out : (t : Bool) (x : Place) (y : ℕ) → ◌≡◌ {A = Option (Place × ℕ)} (cond t (Some (x, y)) None) None → t ≡ false
left_out true x y q = absurd (none-some (x, y) (sym q))
left_out false x y q = refl

module _ (content : ℕ) (s starts : List ℕ) (k : Kind) (n c b left at : ℕ) where
  abbrev rows : ℕ → ℕ → List Place
  rows l p = rows_from content s starts k l p

  abbrev item : Option Place
  item = item_from content s starts k at

  -- there is none
  pub fit_none : rows left at ≡ [] → fit_of k n c b (rows left at) ≡ None
  unfolding fit_of
  fit_none q = rw q

  fit_is : (e : Place) → 0 < left → item ≡ Some e → fit_of k n c b (rows left at) ≡ cond (fits k n (c + 1) (b + row_size k e)) (Some (e, b + row_size k e)) None
  unfolding fit_of
  fit_is e l q = rw (run_more (item_from content s starts k) left at e l q)

  -- by a call that measures it, and one that tests whether it fits
  module _ (e : Place) (l : 0 < left) (q : item ≡ Some e) (size : ℕ) (z : size ≡ row_size k e) (t : Bool) (f : t ≡ fits k n (c + 1) (b + size)) where
    choice : fit_of k n c b (rows left at) ≡ cond t (Some (e, b + size)) None
    choice = fit_is e l q ∙ ap (λ (y : ℕ). cond (fits k n (c + 1) (b + y)) (Some (e, b + y)) None) (sym z) ∙ ap (λ (u : Bool). cond u (Some (e, b + size)) None) (sym f)

    pub fit_taken : t ≡ true → Some (e, b + size) ≡ fit_of k n c b (rows left at)
    fit_taken h = sym (choice ∙ ap (λ (u : Bool). cond u (Some (e, b + size)) None) h)

    pub fit_left : t ≡ false → None ≡ fit_of k n c b (rows left at)
    fit_left h = sym (choice ∙ ap (λ (u : Bool). cond u (Some (e, b + size)) None) h)

  -- it is e, and with it there are m bytes
  pub record Fitted (e : Place) (m : ℕ) : Type 0 where
    pub some : 0 < left
    pub here : item ≡ Some e
    pub bytes : m ≡ b + row_size k e
    pub more : b < m
    pub room : first_place k + m + (2 * quick_count n (c + 1) + 2) ≤ 4096
    pub inside : e.start + e.len ≤ length s
    pub turn : extent_from k n (c + 1) m e.next (left - 1) (rows (left - 1) e.next) ≡ extent_from k n c b at left (rows left at)

  fitted_as : (e : Place) → 0 < left → item ≡ Some e → fits k n (c + 1) (b + row_size k e) ≡ true → Fitted e (b + row_size k e)
  fitted_as e l q f =
      let r = row_of content s starts k at e q in
      record {
        some = l;
        here = q;
        bytes = refl;
        more = omega (arith, row_long k e, r.some);
        room = fits_small k n (c + 1) (b + row_size k e) f;
        inside = r.inside;
        turn = sym (extent_more k n c b at left e (rows (left - 1) e.next) (rows left at) (run_more (item_from content s starts k) left at e l q) f);
      }

  -- by whether there is one
  on_next : {P : Type 0} → (rows left at ≡ [] → P) → ((e : Place) → 0 < left → item ≡ Some e → P) → P
  on_next f g =
      elim (dec_le left 0) [
        | yes h ↦ f (run_spent (item_from content s starts k) left at h)
        | no h ↦ on_item item (λ q. f (run_none (item_from content s starts k) left at q)) (λ e q. g e (omega arith) q)
      ]

  pub fitted : (e : Place) (m : ℕ) → fit_of k n c b (rows left at) ≡ Some (e, m) → Fitted e m
  fitted e m h =
      on_next
      (λ q. absurd (none-some (e, m) (sym (fit_none q) ∙ h)))
      (λ x l q.
      let t = cond_some (fits k n (c + 1) (b + row_size k x)) (x, b + row_size k x) (e, m) (sym (fit_is x l q) ∙ h) in
      subst (λ (y : Place × ℕ). Fitted y.0 y.1) t.1 (fitted_as x l q t.0))

  -- there is none
  pub full : fit_of k n c b (rows left at) ≡ None → extent_from k n c b at left (rows left at) ≡ record { count = c; bytes = b; at = at; left = left }
  full h =
      on_next
      (λ q. extent_none k n c b at left (rows left at) q)
      (λ x l q.
      extent_full k n c b at left x (rows (left - 1) x.next) (rows left at) (run_more (item_from content s starts k) left at x l q)
      (left_out (fits k n (c + 1) (b + row_size k x)) x (b + row_size k x) (sym (fit_is x l q) ∙ h)))
