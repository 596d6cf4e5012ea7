-- Graphs one after another, their lines, and the earliest places of what holds in them.
use Rattle.std.specs.List.{slice_get}
use Rattle.std.specs.Borrow.{Bor}
use Rattle.std.specs.Prelude.{ℕ, zero, suc, ◌+◌, ◌<◌, ◌≤◌, ◌⊎◌, ◌↔◌, Bool, true, false, if◌then◌else◌, List, [], ◌∷◌, ◌++◌, Option, None, Some, length, map, take}
use Rattle.std.proofs.Common.{◌≡◌, ◌∙◌, refl, sym, ap, subst, inl, inr, arith, get_or}
use Rattle.std.proofs.lemmas.List.{length-map, take_all, take_more}
use Rattle.std.proofs.lemmas.Bool.{cases_lt}
use Rattle.std.proofs.lemmas.Option.{slice_get_within}
use Rattle.msc_base.specs.Lists.{IsAmong, IsIn}
use Rattle.msc_base.specs.Places.{IsLeast, IsNoLater, earliest, earliest_if, is_before}
use Rattle.msc_base.specs.declared.limits.TheConstants.Limits.{NODE_LINES}
use Rattle.msc_base.specs.declared.place.Place.{Place}
use Rattle.msc_base.proofs.PlaceFacts.{before_cases, before_or_at, never_before, no_later_through}
use Rattle.msc_rules.specs.FirstFaults.{IsBest, IsEarliest, IsFirstFault, earlier_of as earlier_fault}
use Rattle.msc_rules.specs.Rules.{group_of, number_of}
use Rattle.msc_rules.specs.declared.first_fault.Broken.{Broken}
use Rattle.msc_rules.specs.declared.rule.Rule.{Rule}
use Rattle.msc_rules.specs.declared.rule.Rule.TheVariants.{UnknownLabel}
use Rattle.msc_rules.proofs.Joining.{best_of_parts, best_same}
use Rattle.hmsc_graph.specs.Shapes.{BreaksLabels, IsFaulty, IsGraphOf}
use Rattle.hmsc_graph.specs.declared.shape.Shape.{Shape}
use Rattle.hmsc_graph.specs.declared.shape.ShapeLine.{ShapeLine}
use Rattle.msc_tree.specs.declared.graph.RawGraph.{RawGraph, out-RawGraph}
use Rattle.msc_tree.specs.declared.graph.RawLine.{RawLine}
use Rattle.msc_tree.specs.Graphs.{Graph, lines}
use Rattle.msc_tree.specs.Views.{graph_view, line_view}
use Rattle.graph_shapes.specs.GraphShapes.{shape_line, shape_lines, shape_of}
use Rattle.graph_shapes.proofs.ShapeViews.{graph_is, map_added, map_taken}
use Rattle.graph_rules.specs.GraphRules.{AreLabelled, BreakLabels, HasEndlessLine, HasFurtherLine, HaveFewLines, InGraphs, labels}
use Rattle.graph_rules.specs.GraphViews.{earlier_of, graphs_view}
use Rattle.graph_rules.specs.StuckLines.{HasLineAt, HasStuckLine, IsStuck, line_shape}

-- ---- earliest places

-- the same in other words
pub least_same : (P R : Place → Type 0) (o : Option Place) → ((q : Place) → P q → R q) → ((q : Place) → R q → P q) → IsLeast P o → IsLeast R o
least_same P R None to from h = λ q r. h q (from q r)
least_same P R (Some p) to from h = (to p h.0, λ q r. h.1 q (from q r))

-- what holds in the one or in the other
pub least_both : (P Q R : Place → Type 0) (a b : Option Place) → ((q : Place) → P q → R q) → ((q : Place) → Q q → R q) → ((q : Place) → R q → P q ⊎ Q q) → IsLeast P a → IsLeast Q b → IsLeast R (earlier_of a b)
least_both P Q R None None p_in q_in either h k = λ q r. elim (either q r) [ inl x ↦ h q x | inr y ↦ k q y ]
least_both P Q R (Some p) None p_in q_in either h k = (p_in p h.0, λ q r. elim (either q r) [ inl x ↦ h.1 q x | inr y ↦ absurd (k q y) ])
least_both P Q R None (Some p) p_in q_in either h k = (q_in p k.0, λ q r. elim (either q r) [ inl x ↦ absurd (h q x) | inr y ↦ k.1 q y ])
least_both P Q R (Some f) (Some p) p_in q_in either h k = elim (before_cases p f) [
  | inl lt ↦ subst (IsLeast R) (ap (λ (b : Bool). if b then Some p else Some f) (sym lt.0)) (q_in p k.0, λ q r. elim (either q r) [ inl x ↦ inl (before_or_at p f q lt.1 (h.1 q x)) | inr y ↦ k.1 q y ])
  | inr ge ↦ subst (IsLeast R) (ap (λ (b : Bool). if b then Some p else Some f) (sym ge.0)) (p_in f h.0, λ q r. elim (either q r) [ inl x ↦ h.1 q x | inr y ↦ no_later_through f p q ge.1 (k.1 q y) ])
]

-- ---- lines

lines_are : (ls : List RawLine) → shape_lines (lines (map line_view ls)) ≡ map line_shape ls
lines_are [] = refl
lines_are (l ∷ ls) = ap (λ (r : List ShapeLine). line_shape l ∷ r) (lines_are ls)

pub graph_lines : (g : RawGraph) → (shape_of (graph_view g)).lines ≡ map line_shape (out-RawGraph g).lines.items
graph_lines g = ap (λ (d : Graph). (shape_of d).lines) (graph_is g) ∙ lines_are (out-RawGraph g).lines.items

at_up : (ls : List RawLine) (i : ℕ) (l : RawLine) → slice_get ls i ≡ Some l → slice_get (map line_shape ls) i ≡ Some (line_shape l)
at_up [] i l e = absurd cc
at_up (k ∷ ls) zero l e = let same : k ≡ l = cc in ap (λ (m : RawLine). Some (line_shape m)) same
at_up (k ∷ ls) (suc i) l e = at_up ls i l e

at_down : (ls : List RawLine) (i : ℕ) (s : ShapeLine) → slice_get (map line_shape ls) i ≡ Some s → (l : RawLine) × (slice_get ls i ≡ Some l) × (line_shape l ≡ s)
at_down [] i s e = absurd cc
at_down (k ∷ ls) zero s e = let same : line_shape k ≡ s = cc in (k, refl, same)
at_down (k ∷ ls) (suc i) s e = at_down ls i s e

pub few_lines : (g : RawGraph) (ls : List RawLine) → ls ≡ (out-RawGraph g).lines.items → length (shape_of (graph_view g)).lines ≤ NODE_LINES → length ls ≤ NODE_LINES
few_lines g ls e h = let n : length (shape_of (graph_view g)).lines ≡ length ls = ap (λ (l : List ShapeLine). length l) (graph_lines g) ∙ (length-map (out-RawGraph g).lines.items line_shape ∙ ap (λ (l : List RawLine). length l) (sym e)) in omega (arith, h, n)

-- the first line above the limit
pub further_here : (g : RawGraph) (ls : List RawLine) (o : Option Place) → ls ≡ (out-RawGraph g).lines.items → IsLeast (HasLineAt ls NODE_LINES) o → IsLeast (HasFurtherLine (shape_of (graph_view g))) o
further_here g ls o e h = least_same (HasLineAt ls NODE_LINES) (HasFurtherLine (shape_of (graph_view g))) o to from h
  where
    are : (shape_of (graph_view g)).lines ≡ map line_shape ls
    are = graph_lines g ∙ ap (map line_shape) (sym e)

    to : (q : Place) → HasLineAt ls NODE_LINES q → HasFurtherLine (shape_of (graph_view g)) q
    to q k = record { line = line_shape k.line; at = ap (λ (l : List ShapeLine). slice_get l NODE_LINES) are ∙ at_up ls NODE_LINES k.line k.at; here = k.here }

    from : (q : Place) → HasFurtherLine (shape_of (graph_view g)) q → HasLineAt ls NODE_LINES q
    from q k =
        let (l, at, is) = at_down ls NODE_LINES k.line (sym (ap (λ (l : List ShapeLine). slice_get l NODE_LINES) are) ∙ k.at) in
        record { line = l; at = at; here = ap (λ (s : ShapeLine). s.place) is ∙ k.here }

pub line_here : (ls : List RawLine) (n : ℕ) (l : RawLine) (p : Place) → n < length ls → l ≡ get_or ls n l → p ≡ (line_shape l).place → HasLineAt ls n p × ((q : Place) → HasLineAt ls n q → IsNoLater p q)
line_here ls n l p low is e = (record { line = l; at = at ls n low is; here = sym e }, λ q h. inr (e ∙ (ap (λ (m : RawLine). (line_shape m).place) (one ls n l h.line (at ls n low is) h.at) ∙ h.here)))
  where
    at : (ls : List RawLine) (n : ℕ) → n < length ls → l ≡ get_or ls n l → slice_get ls n ≡ Some l
    at [] n low is = absurd (omega arith)
    at (k ∷ ls) zero low is = ap Some (sym is)
    at (k ∷ ls) (suc n) low is = at ls n (omega (arith, low)) is

    one : (ls : List RawLine) (n : ℕ) (a b : RawLine) → slice_get ls n ≡ Some a → slice_get ls n ≡ Some b → a ≡ b
    one ls n a b e f = let g : Some a ≡ Some b = sym e ∙ f in cc

pub no_line : (ls : List RawLine) (n : ℕ) → length ls ≤ n → (q : Place) → HasLineAt ls n q → ⊥
no_line ls n all q h = let low = slice_get_within ls n h.line h.at in omega (arith, all, low)

-- ---- endless lines

pub stuck_none : (ls : List RawLine) (nodes : List ℕ) (q : Place) → HasStuckLine ls 0 nodes q → ⊥
stuck_none ls nodes q h = omega (arith, h.low)

pub stuck_step : (ls : List RawLine) (i : ℕ) (nodes : List ℕ) (l : RawLine) (p : Place) (b : Bool) (found : Option Place) → i < length ls → l ≡ get_or ls i l → p ≡ (line_shape l).place → (b ≡ true → IsIn i nodes) → (IsIn i nodes → b ≡ true)
    → IsLeast (HasStuckLine ls i nodes) found → IsLeast (HasStuckLine ls (i + 1) nodes) (earliest_if b found p)
stuck_step ls i nodes l p false found low is e to from h = least_same (HasStuckLine ls i nodes) (HasStuckLine ls (i + 1) nodes) found (λ q k. record { node = k.node; low = omega (arith, k.low); among = k.among; line = k.line }) back h
  where
    back : (q : Place) → HasStuckLine ls (i + 1) nodes q → HasStuckLine ls i nodes q
    back q k = record { node = k.node; low = by k.node k.low k.among; among = k.among; line = k.line }
      where
        by : (n : ℕ) → n < i + 1 → IsIn n nodes → n < i
        by n m a = elim (decide n m) [ inl lt ↦ lt | inr same ↦ let f : false ≡ true = from (subst (λ j. IsIn j nodes) same a) in absurd cc ]
          where
            decide : (n : ℕ) → n < i + 1 → (n < i) ⊎ (n ≡ i)
            decide n m = elim (cases_lt n i) [ inl lt ↦ inl lt | inr ge ↦ inr (omega (arith, ge, m)) ]
stuck_step ls i nodes l p true found low is e to from h = subst (IsLeast (HasStuckLine ls (i + 1) nodes)) refl
    (least_both (HasStuckLine ls i nodes) (HasLineAt ls i) (HasStuckLine ls (i + 1) nodes) found (Some p)
    (λ q k. record { node = k.node; low = omega (arith, k.low); among = k.among; line = k.line })
    (λ q k. record { node = i; low = omega arith; among = to refl; line = k })
    split h (line_here ls i l p low is e))
  where
    split : (q : Place) → HasStuckLine ls (i + 1) nodes q → HasStuckLine ls i nodes q ⊎ HasLineAt ls i q
    split q k = elim (decide k.node k.low) [ inl lt ↦ inl (record { node = k.node; low = lt; among = k.among; line = k.line }) | inr same ↦ inr (subst (λ j. HasLineAt ls j q) same k.line) ]
      where
        decide : (n : ℕ) → n < i + 1 → (n < i) ⊎ (n ≡ i)
        decide n m = elim (cases_lt n i) [ inl lt ↦ inl lt | inr ge ↦ inr (omega (arith, ge, m)) ]

pub endless_here : (g : RawGraph) (s : Shape) (ls : List RawLine) (nodes : List ℕ) (o : Option Place) → s ≡ shape_of (graph_view g) → ls ≡ (out-RawGraph g).lines.items → ((n : ℕ) → IsIn n nodes ↔ IsStuck s n)
    → IsLeast (HasStuckLine ls (length ls) nodes) o → IsLeast (HasEndlessLine (shape_of (graph_view g))) o
endless_here g s ls nodes o same e stuck h = least_same (HasStuckLine ls (length ls) nodes) (HasEndlessLine (shape_of (graph_view g))) o to from h
  where
    are : (shape_of (graph_view g)).lines ≡ map line_shape ls
    are = graph_lines g ∙ ap (map line_shape) (sym e)

    to : (q : Place) → HasStuckLine ls (length ls) nodes q → HasEndlessLine (shape_of (graph_view g)) q
    to q k =
        let t = (stuck k.node).0 k.among in
        record {
          net = t.net;
          drawn = subst (λ (x : Shape). IsGraphOf x t.net) same t.drawn;
          node = k.node;
          endless = t.endless;
          line = line_shape k.line.line;
          at = ap (λ (l : List ShapeLine). slice_get l k.node) are ∙ at_up ls k.node k.line.line k.line.at;
          here = k.line.here;
        }

    from : (q : Place) → HasEndlessLine (shape_of (graph_view g)) q → HasStuckLine ls (length ls) nodes q
    from q k =
        let (l, at, is) = at_down ls k.node k.line (sym (ap (λ (l : List ShapeLine). slice_get l k.node) are) ∙ k.at) in
        record {
          node = k.node;
          low = slice_get_within ls k.node l at;
          among = (stuck k.node).1 (record { net = k.net; drawn = subst (λ (x : Shape). IsGraphOf x k.net) (sym same) k.drawn; endless = k.endless });
          line = record { line = l; at = at; here = ap (λ (s : ShapeLine). s.place) is ∙ k.here };
        }

-- ---- labels

pub no_fault : (s : Shape) → ((p : Place) → IsFaulty s p → ⊥) → (r : Rule) (p : Place) → BreaksLabels s r p → ⊥
no_fault s h r p (inl x) = h p (inl x.1)
no_fault s h r p (inr y) = h p (inr y.1)

-- ---- one graph more

module _ (Has : Shape → Place → Type 0) where
  in_left : (gs : List Graph) (g : Graph) (q : Place) → InGraphs Has gs q → InGraphs Has (gs ++ g ∷ []) q
  in_left [] g q h = absurd h
  in_left (d ∷ gs) g q (inl h) = inl h
  in_left (d ∷ gs) g q (inr h) = inr (in_left gs g q h)

  in_last : (gs : List Graph) (g : Graph) (q : Place) → Has (shape_of g) q → InGraphs Has (gs ++ g ∷ []) q
  in_last [] g q h = inl h
  in_last (d ∷ gs) g q h = inr (in_last gs g q h)

  in_either : (gs : List Graph) (g : Graph) (q : Place) → InGraphs Has (gs ++ g ∷ []) q → InGraphs Has gs q ⊎ Has (shape_of g) q
  in_either [] g q (inl h) = inr h
  in_either [] g q (inr h) = absurd h
  in_either (d ∷ gs) g q (inl h) = inl (inl h)
  in_either (d ∷ gs) g q (inr h) = elim (in_either gs g q h) [ inl x ↦ inl (inr x) | inr y ↦ inr y ]

graphs_taken : (gs : List (Bor RawGraph)) (i : ℕ) (g : Bor RawGraph) → i < length gs → g ≡ get_or gs i g → graphs_view (take (i + 1) gs) ≡ graphs_view (take i gs) ++ graph_view g.now ∷ []
graphs_taken gs i g low is = map_taken (λ (b : Bor RawGraph). graph_view b.now) gs i g low is

pub graphs_more : (Has : Shape → Place → Type 0) (gs : List (Bor RawGraph)) (i : ℕ) (g : Bor RawGraph) (found here next : Option Place) → i < length gs → g ≡ get_or gs i g → IsLeast (InGraphs Has (graphs_view (take i gs))) found
    → IsLeast (Has (shape_of (graph_view g.now))) here → next ≡ earlier_of found here → IsLeast (InGraphs Has (graphs_view (take (i + 1) gs))) next
graphs_more Has gs i g found here next low is h k e =
    subst (λ (l : List Graph). IsLeast (InGraphs Has l) next) (sym (graphs_taken gs i g low is))
    (subst (IsLeast (InGraphs Has (graphs_view (take i gs) ++ graph_view g.now ∷ []))) (sym e)
    (least_both (InGraphs Has (graphs_view (take i gs))) (Has (shape_of (graph_view g.now))) (InGraphs Has (graphs_view (take i gs) ++ graph_view g.now ∷ [])) found here
    (in_left Has (graphs_view (take i gs)) (graph_view g.now)) (in_last Has (graphs_view (take i gs)) (graph_view g.now)) (in_either Has (graphs_view (take i gs)) (graph_view g.now)) h k))

pub graphs_all : (Has : Shape → Place → Type 0) (gs : List (Bor RawGraph)) (i : ℕ) (found : Option Place) → length gs ≤ i → IsLeast (InGraphs Has (graphs_view (take i gs))) found → IsLeast (InGraphs Has (graphs_view gs)) found
graphs_all Has gs i found all h = subst (λ (l : List (Bor RawGraph)). IsLeast (InGraphs Has (graphs_view l)) found) (take_all i gs all) h

pub labels_more : (gs : List (Bor RawGraph)) (i : ℕ) (g : Bor RawGraph) (found here next : Option (Broken Rule)) → i < length gs → g ≡ get_or gs i g → IsBest number_of (BreakLabels (graphs_view (take i gs))) labels found
    → IsBest number_of (BreaksLabels (shape_of (graph_view g.now))) labels here → next ≡ earlier_fault number_of found here → IsBest number_of (BreakLabels (graphs_view (take (i + 1) gs))) labels next
labels_more gs i g found here next low is h k e =
    subst (λ (l : List Graph). IsBest number_of (BreakLabels l) labels next) (sym (graphs_taken gs i g low is))
    (subst (IsBest number_of (BreakLabels (graphs_view (take i gs) ++ graph_view g.now ∷ [])) labels) (sym e)
    (best_same number_of (λ r p. BreakLabels (graphs_view (take i gs)) r p ⊎ BreaksLabels (shape_of (graph_view g.now)) r p) (BreakLabels (graphs_view (take i gs) ++ graph_view g.now ∷ [])) labels (earlier_fault number_of found here)
    (λ r p m b. elim b [ inl x ↦ in_left (λ s. BreaksLabels s r) (graphs_view (take i gs)) (graph_view g.now) p x | inr y ↦ in_last (λ s. BreaksLabels s r) (graphs_view (take i gs)) (graph_view g.now) p y ])
    (λ r p m b. in_either (λ s. BreaksLabels s r) (graphs_view (take i gs)) (graph_view g.now) p b)
    (best_of_parts number_of (BreakLabels (graphs_view (take i gs))) (BreaksLabels (shape_of (graph_view g.now))) labels found here h k)))

pub labels_all : (gs : List (Bor RawGraph)) (i : ℕ) (found : Option (Broken Rule)) → length gs ≤ i → IsBest number_of (BreakLabels (graphs_view (take i gs))) labels found → IsBest number_of (BreakLabels (graphs_view gs)) labels found
labels_all gs i found all h = subst (λ (l : List (Bor RawGraph)). IsBest number_of (BreakLabels (graphs_view l)) labels found) (take_all i gs all) h

pub few_at : (gs : List (Bor RawGraph)) (i : ℕ) (g : Bor RawGraph) → i < length gs → g ≡ get_or gs i g → HaveFewLines (graphs_view gs) → length (shape_of (graph_view g.now)).lines ≤ NODE_LINES
few_at [] i g low is h = absurd (omega arith)
few_at (d ∷ gs) zero g low is h = subst (λ (b : Bor RawGraph). length (shape_of (graph_view b.now)).lines ≤ NODE_LINES) (sym is) h.0
few_at (d ∷ gs) (suc i) g low is h = few_at gs i g (omega (arith, low)) is h.1

pub labelled_at : (gs : List (Bor RawGraph)) (i : ℕ) (g : Bor RawGraph) → i < length gs → g ≡ get_or gs i g → AreLabelled (graphs_view gs) → (p : Place) → IsFaulty (shape_of (graph_view g.now)) p → ⊥
labelled_at [] i g low is h = absurd (omega arith)
labelled_at (d ∷ gs) zero g low is h = subst (λ (b : Bor RawGraph). (p : Place) → IsFaulty (shape_of (graph_view b.now)) p → ⊥) (sym is) h.0
labelled_at (d ∷ gs) (suc i) g low is h = labelled_at gs i g (omega (arith, low)) is h.1

-- both rules of labels are of one group
of_one_group : (r : Rule) → IsAmong labels r → group_of r ≡ group_of UnknownLabel
of_one_group r (inl is) = ap group_of is
of_one_group r (inr (inl is)) = ap group_of is
of_one_group r (inr (inr none)) = absurd none

pub first_of_labels : (s : Shape) (f : Broken Rule) → IsAmong labels f.rule → IsFirstFault number_of group_of (BreaksLabels s) f → IsEarliest number_of (BreaksLabels s) labels f
first_of_labels s f mine h = record {
  mine = mine;
  broken = h.broken;
  earliest = λ r p m b. elim (h.first r p b) [
    | inl lt ↦ absurd (omega (arith, lt, of_one_group f.rule mine, of_one_group r m))
    | inr (e, inl before) ↦ inl before
    | inr (e, inr at) ↦ inr at.0
  ];
  lowest = λ r m b. elim (h.first r f.place b) [
    | inl lt ↦ absurd (omega (arith, lt, of_one_group f.rule mine, of_one_group r m))
    | inr (e, inl before) ↦ absurd (never_before f.place before)
    | inr (e, inr at) ↦ at.1
  ];
}

pub least_is : (P : Place → Type 0) (o : Option Place) {m : Option Place} → o ≡ m → IsLeast P m → IsLeast P o
least_is P o e h = subst (IsLeast P) (sym e) h

-- behind the last line there is none
pub stuck_all : (ls : List RawLine) (nodes : List ℕ) (i : ℕ) (found : Option Place) → length ls ≤ i → IsLeast (HasStuckLine ls i nodes) found → IsLeast (HasStuckLine ls (length ls) nodes) found
stuck_all ls nodes i found all h = least_same (HasStuckLine ls i nodes) (HasStuckLine ls (length ls) nodes) found
    (λ q k. record { node = k.node; low = slice_get_within ls k.node k.line.line k.line.at; among = k.among; line = k.line })
    (λ q k. record { node = k.node; low = omega (arith, all, k.low); among = k.among; line = k.line }) h
