-- Over ready tables the tables that are made are ready, and so is the term; what was ready stays so.
use Rattle.std.specs.Prelude.{ℕ, Bool, true, false, not, ◌&&◌, List, [], ◌∷◌, Option, Some, length}
use Rattle.std.proofs.Common.{◌≡◌, ◌∙◌, refl, sym, subst, arith}
use Rattle.msc_base.specs.Patterns.{seq, par}
use Rattle.hmsc_graph.specs.declared.shape.Shape.{Shape}
use Rattle.hmsc_graph.specs.Graphs.{Goal, To, End, Any}
use Rattle.chart_term.specs.NormalForms.{choice_of, is_nil}
use Rattle.chart_term.specs.Properties.{Each}
use Rattle.chart_term.specs.Tables.{Tables, net_count, nodes_of}
use Rattle.chart_term.specs.Terms.{Tree}
use Rattle.chart_term.specs.Views.{pairs_of}
use Rattle.term_laws.specs.FullSoundness.{fresh_walk}
use Rattle.term_laws.specs.Normality.{IsNormal}
use Rattle.term_laws.specs.Permission.{permits_of}
use Rattle.term_tables.specs.NetValues.{NetsValue}
use Rattle.term_permission.specs.Ready.{AreReadyTables, IsGoalWithin, IsReady, IsWithin}
use Rattle.term_permission.proofs.ReadyTerms.{ready_is_kept}
use Rattle.term_permission.proofs.Within.{trail-ready}
use Rattle.expansion_tree.specs.Expansions.{Event, InRow, Aside, OneOf, Exception, Turns, Tied, Walk, no_parts, part_and, is_exception}
use Rattle.expansion_tree.specs.Numbered.{Expansion, Expansions}
use Rattle.expansion_terms.specs.Constructors.{leave_turn, placed, turns_if}
use Rattle.expansion_terms.specs.MadeTerms.{Made, HasWholeGraphs, IsWholeGraph, in_row, judged, made, made_all, net_of_shape, newest_walk, parts_count, side_by_side, walked}
use Rattle.expansion_terms.specs.PartTerms.{AreNormal, HaveWholeGraphs, one_net_more}
use Rattle.expansion_terms.proofs.Kept.{IsKept, normal_kept, there}
use Rattle.expansion_terms.proofs.NetShapes.{net_sized}

-- ---- the constructors keep what is ready

module _ (w : Tables) where
  turns_within : (b : Bool) (lower : ℕ) (upper : Option ℕ) (x : Tree) → IsWithin w x → IsWithin w (turns_if b lower upper x)
  turns_within true lower upper x h = (h, tt, tt)
  turns_within false lower upper x h = tt

  pub ready_kept : IsKept (IsReady w)
  ready_kept = record {
    nothing = ready_is_kept.nil w;
    both = λ m x y h i. ready_is_kept.join w m (x ∷ y ∷ []) (h, (i, tt));
    some = λ xs h. there (IsReady w) (choice_of xs) (ready_is_kept.nil w) (ready_is_kept.choice w xs h);
    tied = λ x q h. ready_is_kept.tied w x q h;
    turns = λ lower upper x h. record {
      within = turns_within (leave_turn lower upper && not (is_nil (Some x))) lower upper x h.within;
      normal = (normal_kept (permits_of w)).turns lower upper x h.normal;
    };
  }

module _ (P : Tree → Type 0) (keep : IsKept P) where
  placed_kept : (b : Bool) (x y : Tree) → P x → P y → P (placed b x y)
  placed_kept true x y h i = keep.some (x ∷ y ∷ []) (h, (i, tt))
  placed_kept false x y h i = keep.both seq x y h i

  row_kept : (xs : Expansions) (ys : List Tree) → Each P ys → P (in_row xs ys)
  row_kept no_parts ys h = keep.nothing
  row_kept (part_and x xs) [] h = keep.nothing
  row_kept (part_and x xs) (y ∷ ys) h = placed_kept (is_exception x) y (in_row xs ys) h.0 (row_kept xs ys h.1)

  side_kept : (ys : List Tree) → Each P ys → P (side_by_side ys)
  side_kept [] h = keep.nothing
  side_kept (y ∷ ys) h = keep.both par y (side_by_side ys) h.0 (side_kept ys h.1)

-- ---- terms as they are made

-- behind these tables others, which are ready, and so is the term; what was ready is
pub record IsReadyBehind (t w : Tables) (x : Tree) : Type 0 where
  pub tables : AreReadyTables w
  pub term : IsReady w x
  pub kept : (y : Tree) → IsReady t y → IsReady w y

pub record AreReadyBehind (t w : Tables) (xs : List Tree) : Type 0 where
  pub tables : AreReadyTables w
  pub terms : Each (IsReady w) xs
  pub kept : (y : Tree) → IsReady t y → IsReady w y

-- as many terms as parts
pub counted : (t : Tables) (xs : Expansions) → length (made_all t xs).terms ≡ parts_count xs
counted t no_parts = refl
counted t (part_and x xs) = let rest = counted (made t x).tables xs in omega (arith, rest)

goal_within : (size : ℕ) (goal : Goal) → IsGoalWithin 0 goal → IsGoalWithin size goal
goal_within size (To m) h = absurd (omega (arith, h))
goal_within size End h = tt
goal_within size Any h = tt

-- the tables with the net of a graph
pub more_ready : (g : Shape) (nodes : List Tree) (w : Tables) → AreReadyTables w → Each (IsReady w) nodes → length nodes ≡ length g.lines → AreReadyTables (one_net_more g nodes w)
more_ready g nodes w tables ready each = (tables, ready, net_sized g ∙ sym each)

newest_ready : (goal : Goal) (g : Shape) (nodes : List Tree) (w : Tables) → IsGoalWithin 0 goal → IsReady (one_net_more g nodes w) (newest_walk goal (one_net_more g nodes w))
newest_ready goal g nodes w h =
    let u = one_net_more g nodes w in
    there (IsReady u) (fresh_walk u (net_count w) goal) (ready_is_kept.nil u) (trail-ready u (net_count w) goal (fresh_walk u (net_count w) goal) (omega arith) (goal_within (length (nodes_of u (net_count w))) goal h) refl)

-- the walk, and the net of its graph
walked_ready : (goal : Goal) (n : ℕ) (s : Shape) (xs : Expansions) (t : Tables) → IsGoalWithin 0 goal → IsWholeGraph s xs → AreReadyBehind t (made_all t xs).tables (made_all t xs).terms
    → IsReadyBehind t (walked goal n s (made_all t xs)).tables (walked goal n s (made_all t xs)).term
walked_ready goal n s xs t i g l =
    let w = (made_all t xs).tables in
    let nodes = (made_all t xs).terms in
    record {
      tables = more_ready s nodes w l.tables l.terms (counted t xs ∙ g.each);
      term = newest_ready goal s nodes w i;
      kept = λ y j. ready_is_kept.later w (record { net = net_of_shape s; nodes = nodes }) y (l.kept y j);
    }

mutual
  pub made_ready : (t : Tables) (x : Expansion) → HasWholeGraphs x → AreReadyTables t → IsReadyBehind t (made t x).tables (made t x).term
  made_ready t (Event e) g h = record { tables = h; term = record { within = tt; normal = tt }; kept = λ y i. i }
  made_ready t (InRow xs) g h = let l = all_ready t xs g h in record { tables = l.tables; term = row_kept (IsReady (made_all t xs).tables) (ready_kept (made_all t xs).tables) xs (made_all t xs).terms l.terms; kept = l.kept }
  made_ready t (Aside xs) g h = let l = all_ready t xs g h in record { tables = l.tables; term = side_kept (IsReady (made_all t xs).tables) (ready_kept (made_all t xs).tables) (made_all t xs).terms l.terms; kept = l.kept }
  made_ready t (OneOf xs) g h = let l = all_ready t xs g h in record { tables = l.tables; term = (ready_kept (made_all t xs).tables).some (made_all t xs).terms l.terms; kept = l.kept }
  made_ready t (Exception x) g h = made_ready t x g h
  made_ready t (Turns n lower upper x) g h = let m = made_ready t x g h in record { tables = m.tables; term = (ready_kept (made t x).tables).turns lower upper (made t x).term m.term; kept = m.kept }
  made_ready t (Tied x ps) g h = let m = made_ready t x g h in record { tables = m.tables; term = (ready_kept (made t x).tables).tied (made t x).term (pairs_of ps) m.term; kept = m.kept }
  made_ready t (Walk n s xs) g h = walked_ready End n s xs t tt g.0 (all_ready t xs g.1 h)

  pub all_ready : (t : Tables) (xs : Expansions) → HaveWholeGraphs xs → AreReadyTables t → AreReadyBehind t (made_all t xs).tables (made_all t xs).terms
  all_ready t no_parts g h = record { tables = h; terms = tt; kept = λ y i. i }
  all_ready t (part_and x xs) g h =
      let m = made_ready t x g.0 h in
      let l = all_ready (made t x).tables xs g.1 m.tables in
      record { tables = l.tables; terms = (l.kept (made t x).term m.term, l.terms); kept = λ y i. l.kept y (m.kept y i) }

pub judged_ready : (t : Tables) (x : Expansion) → HasWholeGraphs x → AreReadyTables t → IsReadyBehind t (judged t x).tables (judged t x).term
judged_ready t (Walk n s xs) g h = walked_ready Any n s xs t tt g.0 (all_ready t xs g.1 h)
judged_ready t (Event e) g h = made_ready t (Event e) g h
judged_ready t (InRow xs) g h = made_ready t (InRow xs) g h
judged_ready t (Aside xs) g h = made_ready t (Aside xs) g h
judged_ready t (OneOf xs) g h = made_ready t (OneOf xs) g h
judged_ready t (Exception x) g h = made_ready t (Exception x) g h
judged_ready t (Turns n lower upper x) g h = made_ready t (Turns n lower upper x) g h
judged_ready t (Tied x ps) g h = made_ready t (Tied x ps) g h

-- the terms of parts are in normal form
pub all_normal : (t : Tables) (xs : Expansions) → HaveWholeGraphs xs → AreReadyTables t → AreNormal (made_all t xs).terms
all_normal t xs g h = let l = all_ready t xs g h in record { permits = permits_of (made_all t xs).tables; each = normal_each (made_all t xs).terms l.terms }
  where
    normal_each : (ys : List Tree) → Each (IsReady (made_all t xs).tables) ys → Each (IsNormal (permits_of (made_all t xs).tables)) ys
    normal_each [] i = tt
    normal_each (y ∷ ys) i = (i.0.normal, normal_each ys i.1)

-- where the tables are those that were made, and the term is
pub ready_now : (v u : NetsValue) (m : Made) (x : Tree) → x ≡ m.term → u ≡ record v { tables = m.tables } → IsReadyBehind v.tables m.tables m.term → IsReadyBehind v.tables u.tables x
ready_now v u m x is nets h = subst (λ (w : NetsValue). IsReadyBehind v.tables w.tables x) (sym nets) (subst (λ (y : Tree). IsReadyBehind v.tables m.tables y) (sym is) h)
