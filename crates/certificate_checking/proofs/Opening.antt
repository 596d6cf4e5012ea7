-- What a certificate is that begins with a line.
use Rattle.std.specs.Prelude.{ℕ, zero, suc, ◌≤◌, ◌≡◌, ◌⊎◌, List, [], ◌∷◌, ◌++◌, Option, Some, refl, length, slice_get}
use Rattle.std.proofs.Common.{ap, ap₂, sym, subst, ◌∙◌, arith, inl, inr}
use Rattle.msc_base.specs.Patterns.{Mode, empty, one, bind}
use Rattle.hmsc_graph.specs.Graphs.{Start, Goal, End}
use Rattle.chart_term.specs.TermMeanings.{NetTerms, UpTo, aim}
use Rattle.chart_term.specs.Terms.{TermEvent, Tree, Event, Join, Choice, Tied, Loop, Walk, Trees, items, gap, ends}
use Rattle.certificates.specs.Certificates.{Certificate, Empty, EventAt, Parts, Branch, Inner, Turns, Nodes, Certificates, count, PlacedShape, HasEmpty, Shows, shows_empty, shows_event, shows_parts, shows_branch, shows_inner, shows_turns, shows_nodes, ShowsParts, shows_no_part, shows_part, ShowsBranch, shows_this, shows_that}
use Rattle.certificates.specs.Lines.{Line, EmptyLine, EventLine, PartsLine, BranchLine, InnerLine, TurnsLine, WalkLine, stop_count, lines}
use Rattle.pattern_marks.specs.Marks.{Sign, stands, tie_opens, tie_closes, signs}
use Rattle.certificate_checking.specs.Showing.{IsShown, AreShown, AreTurnsShown, AreStopsShown}

-- by the first line
pub data Opened (w : NetTerms) (x : Tree) (l : Line) (ls : List Line) (ms : List Sign) : Type 0 where
  by_empty : HasEmpty w x → l ≡ EmptyLine → ls ≡ [] → ms ≡ [] → Opened w x l ls ms
  by_event : (e : TermEvent) (n : ℕ) → x ≡ Event e → l ≡ EventLine n → ls ≡ [] → ms ≡ stands e n ∷ [] → Opened w x l ls ms
  by_parts : (m : Mode) (xs : Trees) → x ≡ Join m xs → l ≡ PartsLine (length (items xs)) → AreShown w m (items xs) ls ms → Opened w x l ls ms
  by_branch : (xs : Trees) (i : ℕ) (y : Tree) → x ≡ Choice xs → l ≡ BranchLine (suc i) → slice_get (items xs) i ≡ Some y → IsShown w y ls ms → Opened w x l ls ms
  by_inner : (y : Tree) (q : List (ℕ × ℕ)) (inner : List Sign) → x ≡ Tied y q → l ≡ InnerLine → ms ≡ tie_opens ∷ (inner ++ tie_closes q ∷ []) → IsShown w y ls inner → Opened w x l ls ms
  by_turns : (y : Tree) (lo : ℕ) (hi : Option ℕ) (n : ℕ) → x ≡ Loop y lo hi (gap [] ends) → l ≡ TurnsLine n → UpTo hi n → (lo ≤ n) ⊎ HasEmpty w y → AreTurnsShown w y n ls ms → Opened w x l ls ms
  by_nodes : (k : ℕ) (t : Goal) (n : ℕ) → x ≡ Walk k Start t [] → aim t ≡ End → l ≡ WalkLine n → AreStopsShown w k Start n ls ms → Opened w x l ls ms

module _ (w : NetTerms) where
  pub parts_count : {m : Mode} {xs : List Tree} {cs : Certificates} {p : PlacedShape} → ShowsParts w m xs cs p → count cs ≡ length xs
  parts_count shows_no_part = refl
  parts_count (shows_part h r) = let e = parts_count r in omega arith

  branch_at : {xs : List Tree} {i : ℕ} {c : Certificate} {p : PlacedShape} → ShowsBranch w xs i c p → (y : Tree) × (slice_get xs i ≡ Some y) × Shows w y c p
  branch_at (shows_this {x = x} h) = (x, refl, h)
  branch_at (shows_that h) = branch_at h

  at_branch : (xs : List Tree) (i : ℕ) (y : Tree) (c : Certificate) (p : PlacedShape) → slice_get xs i ≡ Some y → Shows w y c p → ShowsBranch w xs i c p
  at_branch [] i y c p g h = cc
  at_branch (x ∷ xs) zero y c p g h = let e : y ≡ x = cc in shows_this (subst (λ (z : Tree). Shows w z c p) e h)
  at_branch (x ∷ xs) (suc i) y c p g h = shows_that (at_branch xs i y c p g h)

  opened : {x : Tree} {c : Certificate} {p : PlacedShape} → Shows w x c p → (l : Line) (ls : List Line) (ms : List Sign) → l ∷ ls ≡ lines c → ms ≡ signs p → Opened w x l ls ms
  opened (shows_empty h) l ls ms e t = by_empty h (cc) (cc) t
  opened (shows_event {e = d} {n = n}) l ls ms e t = by_event d n refl (cc) (cc) t
  opened (shows_parts {m = m} {xs = xs} {cs = cs} {p = p} h) l ls ms e t =
      let a : l ≡ PartsLine (count cs) = cc in
      by_parts m xs refl (a ∙ ap PartsLine (parts_count h)) (record { certificates = cs; pattern = p; shows = h; written = (cc); told = t })
  opened (shows_branch {xs = xs} {i = i} {c = c} {p = p} h) l ls ms e t =
      let (y, g, k) = branch_at h in
      by_branch xs i y refl (cc) g (record { certificate = c; pattern = p; shows = k; written = (cc); told = t })
  opened (shows_inner {x = x} {q = q} {c = c} {p = p} h) l ls ms e t = by_inner x q (signs p) refl (cc) t (record { certificate = c; pattern = p; shows = h; written = (cc); told = refl })
  opened (shows_turns {x = x} {lo = lo} {hi = hi} {cs = cs} {p = p} h g m) l ls ms e t =
      by_turns x lo hi (count cs) refl (cc) g m (record { certificates = cs; pattern = p; shows = h; many = refl; written = (cc); told = t })
  opened (shows_nodes {n = n} {t = t} {ss = ss} {p = p} g h) l ls ms e s =
      by_nodes n t (stop_count ss) refl g (cc) (record { stops = ss; pattern = p; shows = h; many = refl; written = (cc); told = s })

  pub open_shown : {x : Tree} {l : Line} {ls : List Line} {ms : List Sign} → IsShown w x (l ∷ ls) ms → Opened w x l ls ms
  open_shown {l = l} {ls = ls} {ms = ms} h = opened h.shows l ls ms h.written h.told

  -- there is no certificate without lines
  pub some_lines : {x : Tree} {ms : List Sign} → IsShown w x [] ms → ⊥
  some_lines h = none h.certificate h.written
    where
      none : (c : Certificate) → [] ≡ lines c → ⊥
      none Empty e = cc
      none (EventAt n) e = cc
      none (Parts cs) e = cc
      none (Branch i c) e = cc
      none (Inner c) e = cc
      none (Turns cs) e = cc
      none (Nodes ss) e = cc

  -- and back
  pub shut : {x : Tree} {l : Line} {ls : List Line} {ms : List Sign} → Opened w x l ls ms → IsShown w x (l ∷ ls) ms
  shut (by_empty h a b t) = record { certificate = Empty; pattern = empty; shows = shows_empty h; written = ap₂ (λ k ks. k ∷ ks) a b; told = t }
  shut {x = x} (by_event e n s a b t) = record {
    certificate = EventAt n;
    pattern = one (record { event = e; place = n });
    shows = subst (λ (z : Tree). Shows w z (EventAt n) (one (record { event = e; place = n }))) (sym s) shows_event;
    written = ap₂ (λ k ks. k ∷ ks) a b;
    told = t;
  }
  shut (by_parts m xs s a h) = record {
    certificate = Parts h.certificates;
    pattern = h.pattern;
    shows = subst (λ (z : Tree). Shows w z (Parts h.certificates) h.pattern) (sym s) (shows_parts h.shows);
    written = ap₂ (λ k ks. k ∷ ks) (a ∙ ap PartsLine (sym (parts_count h.shows))) h.written;
    told = h.told;
  }
  shut (by_branch xs i y s a g h) = record {
    certificate = Branch (suc i) h.certificate;
    pattern = h.pattern;
    shows = subst (λ (z : Tree). Shows w z (Branch (suc i) h.certificate) h.pattern) (sym s) (shows_branch (at_branch (items xs) i y h.certificate h.pattern g h.shows));
    written = ap₂ (λ k ks. k ∷ ks) a h.written;
    told = h.told;
  }
  shut (by_inner y q inner s a t h) = record {
    certificate = Inner h.certificate;
    pattern = bind h.pattern q;
    shows = subst (λ (z : Tree). Shows w z (Inner h.certificate) (bind h.pattern q)) (sym s) (shows_inner h.shows);
    written = ap₂ (λ k ks. k ∷ ks) a h.written;
    told = t ∙ ap (λ (m : List Sign). tie_opens ∷ (m ++ tie_closes q ∷ [])) h.told;
  }
  shut (by_turns y lo hi n s a u m h) = record {
    certificate = Turns h.certificates;
    pattern = h.pattern;
    shows = subst (λ (z : Tree). Shows w z (Turns h.certificates) h.pattern) (sym s) (shows_turns h.shows (subst (UpTo hi) (sym h.many) u) (many_turns m));
    written = ap₂ (λ k ks. k ∷ ks) (a ∙ ap TurnsLine (sym h.many)) h.written;
    told = h.told;
  }
    where
      many_turns : (lo ≤ n) ⊎ HasEmpty w y → (lo ≤ count h.certificates) ⊎ HasEmpty w y
      many_turns (inl l) = inl (subst (λ (k : ℕ). lo ≤ k) (sym h.many) l)
      many_turns (inr e) = inr e
  shut (by_nodes k t n s g a h) = record {
    certificate = Nodes h.stops;
    pattern = h.pattern;
    shows = subst (λ (z : Tree). Shows w z (Nodes h.stops) h.pattern) (sym s) (shows_nodes g h.shows);
    written = ap₂ (λ k ks. k ∷ ks) (a ∙ ap WalkLine (sym h.many)) h.written;
    told = h.told;
  }
