-- What the expansion of a chart is, by its content: a walk, or a tied part.
use Rattle.std.specs.Prelude.{ℕ, suc, List, [], ◌∷◌, Some}
use Rattle.std.proofs.Common.{◌≡◌, ◌∙◌, refl, sym, ap, subst}
use Rattle.msc_base.specs.declared.label.LabelRef.{LabelRef}
use Rattle.msc_base.specs.declared.label.Pair.{Pair}
use Rattle.msc_tree.specs.Graphs.{Graph, graph, Lines}
use Rattle.graph_shapes.specs.GraphShapes.{shape_of}
use Rattle.msc_meaning.specs.Bodies.{Body, level, WovenItems}
use Rattle.msc_meaning.specs.FarEnds.{GateMap}
use Rattle.msc_meaning.specs.InnerEvents.{GateEnd}
use Rattle.msc_meaning.specs.Tables.{Table, ChartEntry, chart_at, Woven, Basic, HighLevel, Refinement, refinements}
use Rattle.expansion_tree.specs.Expansions.{Expansion, Tied, Walk}
use Rattle.expanded_charts.specs.Expanding.{Charts, Expanded, NumberedEvent, expand_charts, expand_entry, expand_graph, expand_lines, expand_woven}
use Rattle.node_ranks.specs.NamedCharts.{LinesNameOnly, WovenNamesOnly}
use Rattle.expanded_terms.specs.WholeCharts.{AreWholeLines, IsWholeWoven}

pub record IsTiedPart (x : Expansion NumberedEvent) : Type 0 where
  pub inner : Expansion NumberedEvent
  pub pairs : List Pair
  pub is : x ≡ Tied inner pairs

module _ (ends_of : WovenItems → List GateEnd) (table : Table) (gates : GateMap) (n : ℕ) where
  graph_is : (chart : Charts) (rs : List Refinement) (drawn : Graph) → expand_woven chart ends_of table gates n rs (HighLevel drawn) ≡ expand_graph chart ends_of n drawn
  graph_is chart [] drawn = refl
  graph_is chart (r ∷ rs) drawn = refl

  body_tied : (chart : Charts) (rs : List Refinement) (b : Body) → IsTiedPart (expand_woven chart ends_of table gates n rs (Basic b)).part
  body_tied chart [] (level cover held pairs) = record { inner = _; pairs = _; is = refl }
  body_tied chart (r ∷ rs) (level cover held pairs) = record { inner = _; pairs = _; is = refl }

  module _ (depth : ℕ) (name : List ℕ) (c : ChartEntry) (is : chart_at table name ≡ Some c) where
    entry_is : expand_charts ends_of table (suc depth) name gates n ≡ expand_woven (expand_charts ends_of table depth) ends_of table gates n (refinements c.decls) c.content
    entry_is = ap (expand_entry ends_of table (expand_charts ends_of table depth) gates n) is

    pub walk_is : (starts : List LabelRef) (lines : Lines) → c.content ≡ HighLevel (graph starts lines)
        → (expand_charts ends_of table (suc depth) name gates n).part ≡ Walk n (shape_of (graph starts lines)) (expand_lines (expand_charts ends_of table depth) ends_of (suc n) lines).parts
    walk_is starts lines high =
        ap (λ (e : Expanded). e.part) entry_is
        ∙ ap (λ (w : Woven). (expand_woven (expand_charts ends_of table depth) ends_of table gates n (refinements c.decls) w).part) high
        ∙ ap (λ (e : Expanded). e.part) (graph_is (expand_charts ends_of table depth) (refinements c.decls) (graph starts lines))

    pub tied_is : (b : Body) → c.content ≡ Basic b → IsTiedPart (expand_charts ends_of table (suc depth) name gates n).part
    tied_is b basic = subst (λ (e : Expanded). IsTiedPart e.part) (sym entry_is)
        (subst (λ (w : Woven). IsTiedPart (expand_woven (expand_charts ends_of table depth) ends_of table gates n (refinements c.decls) w).part) (sym basic) (body_tied (expand_charts ends_of table depth) (refinements c.decls) b))

-- ---- what is said of a graph's lines

pub line_names : (P : List ℕ → Type 0) (table : Table) (rs : List Refinement) (starts : List LabelRef) (lines : Lines) → WovenNamesOnly P table rs (HighLevel (graph starts lines)) → LinesNameOnly P lines
line_names P table [] starts lines h = h
line_names P table (r ∷ rs) starts lines h = h

pub whole_lines : (table : Table) (ends_of : WovenItems → List GateEnd) (Whole : List ℕ → Type 0) (rs : List Refinement) (starts : List LabelRef) (lines : Lines) → IsWholeWoven table ends_of Whole rs (HighLevel (graph starts lines)) → AreWholeLines table ends_of Whole lines
whole_lines table ends_of Whole [] starts lines h = h
whole_lines table ends_of Whole (r ∷ rs) starts lines h = h
