-- What a certificate shows are the finished patterns of a term.
use Rattle.std.specs.Prelude.{ℕ, zero, suc, true, false, List, [], ◌∷◌, ◌≡◌, ◌||◌, Option, Some, None, refl}
use Rattle.std.proofs.Common.{ap, inl, inr, get_or}
use Rattle.msc_base.specs.Patterns.{Mode, seq, Position, empty, one, join, bind}
use Rattle.hmsc_graph.specs.Graphs.{Spot, Start, Goal, End}
use Rattle.chart_term.specs.NormalForms.{only}
use Rattle.chart_term.specs.Properties.{Each}
use Rattle.chart_term.specs.TermMeanings.{NetTerms, HasPattern, has_nil, has_event, has_join, has_choice, holds_tie, holds_loop, holds_walk, HasParts, no_part, one_part, HasChoice, this_one, that_one, HasRow, gaps_end, gaps_turn, gaps_shut, gaps_more, HasWalk, walk_stop, walk_last, walk_step, aim}
use Rattle.chart_term.specs.TermPatterns.{Shape, Avoids, ◌≈◌, same, on, in_join, in_bind}
use Rattle.chart_term.specs.Terms.{Tree, Nil, Loop, Walk, Row, parts, Part, Gap, has_some, ends, gap}
use Rattle.certificates.specs.Certificates.{Certificate, Empty, EventAt, Parts, Branch, Inner, Turns, Nodes, Certificates, no_certificates, certificate_and, Stops, no_stops, stop_and, count, PlacedShape, Shows, shows_empty, shows_event, shows_parts, shows_branch, shows_inner, shows_turns, shows_nodes, ShowsParts, shows_no_part, shows_part, ShowsBranch, shows_this, shows_that, ShowsTurns, shows_no_turn, shows_turn, ShowsNodes, shows_end, shows_node}
use Rattle.certificates.specs.CertificateLaws.{IsUnbegun}
use Rattle.certificates.proofs.Padding.{none_is_empty, padded_loop}
use Rattle.certificates.proofs.PlacedShapes.{unplaced, with_places}
use Rattle.certificates.proofs.Unbegun.{rest_is, each_unbegun, as_end, empty_node, never_stops}

-- the empty block lets everything pass
pub all_avoid : (s : Shape) → Avoids (only []) s
all_avoid empty = tt
all_avoid (one e) = none_some e.also
  where
    none_some : (o : Option ℕ) → ((false || has_some [] o) || false) ≡ false
    none_some None = refl
    none_some (Some n) = refl
all_avoid (join m x y) = (all_avoid x, all_avoid y)
all_avoid (bind x q) = all_avoid x

-- a pattern of the term that is, as a pattern, the one that was shown
abbrev pub IsOne : NetTerms → Tree → PlacedShape → Type 0
IsOne w x p = (s : Shape) × HasPattern w false x s × (s ≈ unplaced p)

module _ (w : NetTerms) (over : (n m : ℕ) → get_or (w.net n).ends m false ≡ true → w.node n m ≡ Nil) where
  nil_shown : (c : Certificate) (p : PlacedShape) → Shows w Nil c p → empty ≈ unplaced p
  nil_shown c p (shows_empty h) = same

  as_nil : (x : Tree) (c : Certificate) (p : PlacedShape) → x ≡ Nil → Shows w x c p → Shows w Nil c p
  as_nil x c p e h = rw e at h

  module _ (nodes : (n m : ℕ) → IsUnbegun (w.node n m)) where
    mutual
      pub shown : {x : Tree} {c : Certificate} {p : PlacedShape} → IsUnbegun x → Shows w x c p → IsOne w x p
      shown u (shows_empty h) = (h.pattern, h.has, none_is_empty h.pattern h.none)
      shown u (shows_event {e = e}) = (one e, has_event, same)
      shown u (shows_parts {xs = xs} h) = let (s, a, e) = parts_shown (each_unbegun xs u) h in (s, has_join a, e)
      shown u (shows_branch {xs = xs} h) = let (s, a, e) = branch_shown (each_unbegun xs u) h in (s, has_choice a, e)
      shown u (shows_inner {q = q} h) = let (s, a, e) = shown u h in (bind s q, holds_tie a, in_bind e)
      shown u (shows_turns {x = x} {lo = lo} {hi = hi} {cs = cs} h g l) =
          let (s, a, e) = turns_shown u.0 h in
          let (t, i, f) = padded_loop w x lo hi (gap [] ends) u.2 (count cs) s a g (elim l [ inl v ↦ inl v | inr v ↦ inr (tt, v) ]) in
          (t, i, on f e)
      shown u (shows_nodes {t = t} g h) = let (s, a, e) = nodes_shown t g h in (s, holds_walk a, e)

      parts_shown : {m : Mode} {xs : List Tree} {cs : Certificates} {p : PlacedShape} → Each IsUnbegun xs → ShowsParts w m xs cs p → (s : Shape) × HasParts w false m xs s × (s ≈ unplaced p)
      parts_shown u shows_no_part = (empty, no_part, same)
      parts_shown u (shows_part {m = m} h r) = let (s, a, e) = shown u.0 h in let (t, b, f) = parts_shown u.1 r in (join m s t, one_part a b, in_join e f)

      branch_shown : {xs : List Tree} {i : ℕ} {c : Certificate} {p : PlacedShape} → Each IsUnbegun xs → ShowsBranch w xs i c p → (s : Shape) × HasChoice w false xs s × (s ≈ unplaced p)
      branch_shown u (shows_this h) = let (s, a, e) = shown u.0 h in (s, this_one a, e)
      branch_shown u (shows_that h) = let (s, a, e) = branch_shown u.1 h in (s, that_one a, e)

      turns_shown : {x : Tree} {cs : Certificates} {p : PlacedShape} → IsUnbegun x → ShowsTurns w x cs p → (s : Shape) × HasRow w false x (Gap [] ∷ []) (count cs) s × (s ≈ unplaced p)
      turns_shown u shows_no_turn = (empty, gaps_shut gaps_end, same)
      turns_shown u (shows_turn h r) = let (s, a, e) = shown u h in let (t, b, f) = turns_shown u r in (join seq s t, gaps_more a (all_avoid s) b, in_join e f)

      nodes_shown : {n : ℕ} {f : Spot} {ss : Stops} {p : PlacedShape} (t : Goal) → aim t ≡ End → ShowsNodes w n f ss p → (s : Shape) × HasWalk w false n f t [] s × (s ≈ unplaced p)
      nodes_shown t g (shows_end {n = n} {m = m} {c = c} {p = p} i a h) = (empty, walk_last m i (rw g a), nil_shown c p (as_nil (w.node n m) c p (over n m a) h))
      nodes_shown t g (shows_node {n = n} {m = m} i h r) =
          let (s, a, e) = shown (nodes n m) h in
          let (v, b, k) = nodes_shown t g r in
          (join seq s v, walk_step m i a (all_avoid s) b, in_join e k)

    -- each finished pattern is shown, with any places
    abbrev IsShown : Tree → PlacedShape → Type 0
    IsShown x p = (c : Certificate) × Shows w x c p

    loop_as : (x : Tree) (lo : ℕ) (hi : Option ℕ) (r : Row) (p : PlacedShape) → r ≡ gap [] ends → IsShown (Loop x lo hi (gap [] ends)) p → IsShown (Loop x lo hi r) p
    loop_as x lo hi r p e h = rw e h

    walk_as : (n : ℕ) (f : Spot) (t : Goal) (c : List ℕ) (p : PlacedShape) → f ≡ Start → c ≡ [] → IsShown (Walk n Start t []) p → IsShown (Walk n f t c) p
    walk_as n f t c p e g h = rw (e, g) h

    walk_from : (n : ℕ) (f : Spot) (p : PlacedShape) → f ≡ Start → (ss : Stops) × ShowsNodes w n f ss p → (ss : Stops) × ShowsNodes w n Start ss p
    walk_from n f p e h = rw e at h

    mutual
      pub made : {x : Tree} {s : Shape} → IsUnbegun x → HasPattern w false x s → (f : Position s → ℕ) → IsShown x (with_places s f)
      made u has_nil f = (Empty, shows_empty (record { pattern = empty; has = has_nil; none = tt }))
      made u has_event f = (EventAt (f tt), shows_event)
      made u (has_join {xs = xs} a) f = let (c, h) = parts_made (each_unbegun xs u) a f in (Parts c, shows_parts h)
      made u (has_choice {xs = xs} a) f = let (i, c, h) = branch_made (each_unbegun xs u) a f in (Branch (suc i) c, shows_branch h)
      made u (holds_tie a) f = let (c, h) = made u a f in (Inner c, shows_inner h)
      made u (holds_loop {x = x} {lo = lo} {hi = hi} {r = r} {s = s} n a l g) f =
          let (cs, h, e) = row_made (parts r) (ap parts u.1) u.0 a f in
          loop_as x lo hi r (with_places s f) u.1 (Turns cs, shows_turns h (rw e g) (inl (rw e l)))
      made u (holds_walk {n = n} {f = b} {t = t} {c = c} {s = s} a) f =
          let (ss, h) = walk_from n b (with_places s f) u.0 (walk_made t u.1 a f) in
          walk_as n b t c (with_places s f) u.0 u.2 (Nodes ss, shows_nodes u.1 h)

      parts_made : {m : Mode} {xs : List Tree} {s : Shape} → Each IsUnbegun xs → HasParts w false m xs s → (f : Position s → ℕ) → (cs : Certificates) × ShowsParts w m xs cs (with_places s f)
      parts_made u no_part f = (no_certificates, shows_no_part)
      parts_made u (one_part a r) f = let (c, h) = made u.0 a (λ i. f (inl i)) in let (cs, g) = parts_made u.1 r (λ i. f (inr i)) in (certificate_and c cs, shows_part h g)

      branch_made : {xs : List Tree} {s : Shape} → Each IsUnbegun xs → HasChoice w false xs s → (f : Position s → ℕ) → (i : ℕ) × (c : Certificate) × ShowsBranch w xs i c (with_places s f)
      branch_made u (this_one a) f = let (c, h) = made u.0 a f in (zero, c, shows_this h)
      branch_made u (that_one a) f = let (i, c, h) = branch_made u.1 a f in (suc i, c, shows_that h)

      row_made : {x : Tree} {n : ℕ} {s : Shape} (ps : List Part) → ps ≡ Gap [] ∷ [] → IsUnbegun x → HasRow w false x ps n s → (f : Position s → ℕ) → (cs : Certificates) × ShowsTurns w x cs (with_places s f) × (count cs ≡ n)
      row_made _ e u gaps_end f = cc
      row_made _ e u (gaps_turn a r) f = cc
      row_made _ e u (gaps_shut {c = c} {ps = ps} r) f = end_made ps (rest_is c ps e) r f
      row_made _ e u (gaps_more {c = c} {ps = ps} a av r) f =
          let (d, h) = made u a (λ i. f (inl i)) in
          let (cs, g, k) = row_made (Gap c ∷ ps) e u r (λ i. f (inr i)) in
          (certificate_and d cs, shows_turn h g, ap suc k)

      end_made : {x : Tree} {n : ℕ} {s : Shape} (ps : List Part) → ps ≡ [] → HasRow w false x ps n s → (f : Position s → ℕ) → (cs : Certificates) × ShowsTurns w x cs (with_places s f) × (count cs ≡ n)
      end_made _ e gaps_end f = (no_certificates, shows_no_turn, refl)
      end_made _ e (gaps_turn a r) f = cc
      end_made _ e (gaps_shut r) f = cc
      end_made _ e (gaps_more a av r) f = cc

      walk_made : {n : ℕ} {b : Spot} {c : List ℕ} {s : Shape} (t : Goal) → aim t ≡ End → HasWalk w false n b t c s → (f : Position s → ℕ) → (ss : Stops) × ShowsNodes w n b ss (with_places s f)
      walk_made t g (walk_stop h) f = absurd (never_stops t h)
      walk_made t g (walk_last {n = n} m i a) f = let e = as_end w t n m g a in (stop_and m Empty no_stops, shows_end i e (shows_empty (empty_node w (w.node n m) (over n m e))))
      walk_made t g (walk_step {n = n} m i a av r) f =
          let (c, h) = made (nodes n m) a (λ i. f (inl i)) in
          let (ss, k) = walk_made t g r (λ i. f (inr i)) in
          (stop_and m c ss, shows_node i h k)
