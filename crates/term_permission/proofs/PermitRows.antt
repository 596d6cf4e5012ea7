-- The parts of a row, kept one after another from its end.
use Rattle.std.specs.Prelude.{ℕ, zero, suc, ◌+◌, ◌<◌, ◌≤◌, false, List, [], ◌∷◌, ◌++◌, ◌≡◌, Option, Some, None, refl, length, take, drop, slice_get}
use Rattle.std.proofs.Common.{ap, sym, ◌∙◌, add-one, arith, get_or}
use Rattle.list_facts.proofs.Reading.{drop_suc}
use Rattle.chart_term.specs.NormalForms.{begun, has_gap}
use Rattle.chart_term.specs.Properties.{EachTurn}
use Rattle.chart_term.specs.Rows.{part_of, parts_of}
use Rattle.chart_term.specs.Tables.{Tables}
use Rattle.chart_term.specs.Terms.{Tree, Nil, Event, Join, Choice, Tied, Loop, Walk, Part, Gap, Turn}
use Rattle.chart_term.specs.declared.term.RowPart.{RowPart}
use Rattle.term_permission.specs.Ready.{IsReady, IsReadyPart, AreReadyParts}
use Rattle.term_permission.specs.RowRests.{RowRest, kept_before, keep_part, keep_first, keep_parts}
use Rattle.term_permission.proofs.Joins.{each-first, each-second}
use Rattle.term_laws.specs.Normality.{IsNormal, IsNotNil}
use Rattle.term_laws.specs.Permission.{permits_of}
use Rattle.term_laws.proofs.Identity.{put_same}
use Rattle.term_laws.proofs.Measures.{rank_in, rank_all, rank_row, rank-part}

module _ (p : List ℕ → Option Tree) (q : Tree → Option Tree) (hi : Option ℕ) (d : List ℕ) where
  pub keep-start : (ps : List Part) (n : ℕ) (r : RowRest) → length ps ≤ n → keep_parts p q hi d (drop n ps) r ≡ Some r
  keep-start ps n r h = ap (λ l. keep_parts p q hi d l r) (drop_all ps n h)
    where
      drop_all : (ps : List Part) (n : ℕ) → length ps ≤ n → drop n ps ≡ []
      drop_all [] zero h = refl
      drop_all [] (suc n) h = refl
      drop_all (t ∷ ts) zero h = absurd (omega arith)
      drop_all (t ∷ ts) (suc n) h = drop_all ts n (omega arith)

  pub keep-more : (ps : List Part) (i j : ℕ) (t : Part) (r s : RowRest) → keep_parts p q hi d (drop j ps) r ≡ Some s → i + 1 ≡ j → slice_get ps i ≡ Some t → keep_parts p q hi d (drop i ps) r ≡ keep_part p q hi d t s
  keep-more ps i j t r s h e g =
      ap (λ l. keep_parts p q hi d l r) (drop_suc ps i t g) ∙ ap (keep_first p q hi d t) ((λ k. keep_parts p q hi d (drop ((sym (add-one i) ∙ e) k) ps) r) ∙ h)

  none_below : (ps : List Part) (i : ℕ) (r : RowRest) → keep_parts p q hi d (drop i ps) r ≡ None → keep_parts p q hi d ps r ≡ None
  none_below [] zero r h = h
  none_below [] (suc i) r h = h
  none_below (t ∷ ps) zero r h = h
  none_below (t ∷ ps) (suc i) r h = ap (keep_first p q hi d t) (none_below ps i r h)

  pub keep-none : (ps : List Part) (i j : ℕ) (t : Part) (r s : RowRest) → keep_parts p q hi d (drop j ps) r ≡ Some s → i + 1 ≡ j → slice_get ps i ≡ Some t → keep_part p q hi d t s ≡ None → keep_parts p q hi d ps r ≡ None
  keep-none ps i j t r s h e g f = none_below ps i r (keep-more ps i j t r s h e g ∙ f)

  pub keep-all : (ps : List Part) (i : ℕ) (r s : RowRest) → keep_parts p q hi d (drop i ps) r ≡ Some s → i ≡ 0 → keep_parts p q hi d ps r ≡ Some s
  keep-all ps i r s h e = (λ k. keep_parts p q hi d (drop (sym e k) ps) r) ∙ h

  -- both halves of a fork
  pub keep-kept : (ps qs : List Part) (r s : RowRest) → keep_parts p q hi d qs r ≡ Some s → keep_parts p q hi d (ps ++ qs) r ≡ keep_parts p q hi d ps s
  keep-kept [] qs r s h = h
  keep-kept (t ∷ ps) qs r s h = ap (keep_first p q hi d t) (keep-kept ps qs r s h)

  pub keep-lost : (ps qs : List Part) (r : RowRest) → keep_parts p q hi d qs r ≡ None → keep_parts p q hi d (ps ++ qs) r ≡ None
  keep-lost [] qs r h = h
  keep-lost (t ∷ ps) qs r h = ap (keep_first p q hi d t) (keep-lost ps qs r h)

  -- turns that stay as they are
  pub keep-whole : (ps : List Part) (r : RowRest) → has_gap ps ≡ false → EachTurn IsNotNil ps → EachTurn (λ x. q x ≡ Some x) ps → keep_parts p q hi d ps r ≡ Some (record { parts = ps ++ r.parts; free = r.free })
  keep-whole [] r h o e = refl
  keep-whole (Gap c ∷ ps) r h o e = cc
  keep-whole (Turn x ∷ ps) r h o e =
      ap (keep_first p q hi d (Turn x)) (keep-whole ps r h o.1 e.1)
      ∙ (ap (λ u. kept_before u (record { parts = ps ++ r.parts; free = r.free })) e.0 ∙ ap (λ l. Some (record { parts = l; free = r.free })) (put_same x (ps ++ r.parts) o.0))

-- the item of a slice
pub item-at : (xs : List RowPart) (i : ℕ) (x : RowPart) → i < length xs → x ≡ get_or xs i x → slice_get (parts_of xs) i ≡ Some (part_of x)
item-at [] i x l e = absurd (omega arith)
item-at (y ∷ xs) zero x l e = ap (λ z. Some (part_of z)) (sym e)
item-at (y ∷ xs) (suc i) x l e = item-at xs i x (omega arith) e

-- halves of a row
pub ready-first : (w : Tables) (ps qs : List Part) → AreReadyParts w (ps ++ qs) → AreReadyParts w ps
ready-first w [] qs h = tt
ready-first w (t ∷ ps) qs h = (h.0, ready-first w ps qs h.1)

pub ready-second : (w : Tables) (ps qs : List Part) → AreReadyParts w (ps ++ qs) → AreReadyParts w qs
ready-second w [] qs h = h
ready-second w (t ∷ ps) qs h = ready-second w ps qs h.1

pub ready-take : (w : Tables) (ps : List Part) (i : ℕ) → AreReadyParts w ps → AreReadyParts w (take i ps)
ready-take w ps zero h = tt
ready-take w [] (suc i) h = tt
ready-take w (t ∷ ps) (suc i) h = (h.0, ready-take w ps i h.1)

pub ready-turns : (w : Tables) (ps : List Part) → AreReadyParts w ps → EachTurn (IsReady w) ps
ready-turns w [] h = tt
ready-turns w (Gap c ∷ ps) h = ready-turns w ps h.1
ready-turns w (Turn x ∷ ps) h = (h.0, ready-turns w ps h.1)

pub normal-turns : (w : Tables) (ps : List Part) → EachTurn (IsReady w) ps → EachTurn (IsNormal (permits_of w)) ps
normal-turns w [] h = tt
normal-turns w (Gap c ∷ ps) h = normal-turns w ps h
normal-turns w (Turn x ∷ ps) h = (h.0.normal, normal-turns w ps h.1)

pub turns-ready : (w : Tables) (ps : List Part) → has_gap ps ≡ false → EachTurn (IsReady w) ps → AreReadyParts w ps
turns-ready w [] h e = tt
turns-ready w (Gap c ∷ ps) h e = cc
turns-ready w (Turn x ∷ ps) h e = (e.0, turns-ready w ps h e.1)

-- ranks of rows
pub rank-positive : (w : Tables) (x : Tree) → 0 < rank_in w x
rank-positive w Nil = omega arith
rank-positive w (Event e) = omega arith
rank-positive w (Join m xs) = omega arith
rank-positive w (Choice xs) = omega arith
rank-positive w (Tied x q) = omega arith
rank-positive w (Loop x lo hi r) = omega arith
rank-positive w (Walk n f t c) = omega arith

pub rank-both : (w : Tables) (ps qs : List Part) → rank_row w (ps ++ qs) ≡ rank_row w ps + rank_row w qs
rank-both w [] qs = omega arith
rank-both w (t ∷ ps) qs = omega (arith, rank-both w ps qs)

pub rank-filled : (w : Tables) (ps : List Part) → 0 < length ps → 0 < rank_row w ps
rank-filled w [] h = absurd (omega arith)
rank-filled w (Gap c ∷ ps) h = omega arith
rank-filled w (Turn x ∷ ps) h = omega (arith, rank-positive w x)

pub rank-turns-only : (w : Tables) (ps : List Part) → has_gap ps ≡ false → rank_row w ps ≡ rank_all w (begun ps)
rank-turns-only w [] h = refl
rank-turns-only w (Gap c ∷ ps) h = cc
rank-turns-only w (Turn x ∷ ps) h = omega (arith, rank-turns-only w ps h)

pub ready-part : (w : Tables) (ps : List Part) (i : ℕ) (t : Part) → slice_get ps i ≡ Some t → AreReadyParts w ps → IsReadyPart w t
ready-part w [] i t e h = cc
ready-part w (u ∷ us) zero t e h = let p : u ≡ t = cc in rw p at h.0
ready-part w (u ∷ us) (suc i) t e h = ready-part w us i t e h.1

pub ruleset rows = (keep-start, keep-more, keep-none, keep-all, ready-part, rank-part, ready-first, ready-second, each-first, each-second)
