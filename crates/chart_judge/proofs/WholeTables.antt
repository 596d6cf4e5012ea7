-- The charts of an accepted table are whole: the called gates of their levels have one end, and they have as many operands as their forms
-- take, parts of alternatives, and named charts that are there.
use Rattle.std.specs.Prelude.{ℕ, zero, suc, Bool, true, false, List, [], ◌∷◌, ◌++◌, Option, None, Some, if◌then◌else◌}
use Rattle.std.proofs.Common.{◌≡◌, sym, subst}
use Rattle.chart_forms.specs.BuiltBodies.{AreBuiltBodies, AreBuiltItems, IsBuiltBody, IsBuiltItem}
use Rattle.chart_text.specs.WellFormed.{are_several, has_parts, have_parts}
use Rattle.expanded_terms.specs.FitBodies.{AreEndsOf, HasParts}
use Rattle.expanded_terms.specs.GateTies.{IsQuietLevel, IsQuietTable, IsQuietWoven}
use Rattle.expanded_terms.specs.WholeCharts.{AreWholeExpressions, AreWholeFrames, AreWholeItems, AreWholeLines, AreWholeOperands, AreWholeRefinings, IsWholeExpression, IsWholeItem, IsWholeLevel, IsWholeNode, IsWholeTo, IsWholeWoven}
use Rattle.gate_ends.specs.EndLaws.{EndsAreFound}
use Rattle.gate_ends.specs.FoundEnds.{AreAll, GoesTo, item_names, items_names, level_names, operands_names, table_ends}
use Rattle.gate_rules.specs.GateLaws.{HasGates}
use Rattle.msc_acceptance.proofs.HeldGates.{there_goes}
use Rattle.msc_acceptance.specs.AcceptedCharts.{EachChart, IsAcceptedBody, IsAcceptedChart, IsAcceptedContent, IsThereTo, content_levels, content_names, used_refinements}
use Rattle.chart_lists.specs.Listing.{cover_of}
use Rattle.msc_meaning.specs.Bodies.{Body, level, WovenItems, no_items, item_and, WovenItem, Single, Coregion, Inline, Refer, Bodies, no_bodies, body_and}
use Rattle.msc_base.specs.Orders.{Among, first, later}
use Rattle.msc_base.specs.declared.limits.TheConstants.Limits.{EXPANDED_NESTING}
use Rattle.msc_meaning.proofs.LevelLaws.{each_left, each_right}
use Rattle.msc_meaning.specs.BodyLevels.{BodyLevel, EachLevel, body_levels, item_levels, items_levels, levels_from, operands_levels}
use Rattle.msc_meaning.specs.InnerEvents.{charts_in, charts_in_all}
use Rattle.msc_tree.specs.declared.reference.InlineForm.{InlineForm}
use Rattle.msc_meaning.specs.Refinements.{Refining, refining_by, refinings, is_decomposed, without_decomposed}
use Rattle.msc_meaning.specs.Tables.{ChartEntry, Table, body_at, body_in, Woven, Basic, HighLevel, Refinement, refinements}
use Rattle.msc_base.specs.declared.label.LabelRef.{LabelRef}
use Rattle.formed_graphs.specs.FormedGraphs.{AreFormedFrames, AreFormedLines, IsFormedNode}
use Rattle.msc_tree.specs.declared.chart.Decl.{Decl}
use Rattle.msc_tree.specs.Graphs as graphs
use Rattle.msc_tree.specs.Graphs.{graph, Lines, no_lines, line_and, line, Node, Ends, Connect, Condition, Frames, Graphs, no_graphs, graph_and}
use Rattle.woven_laws.specs.GraphNames.{frames_names, lines_names, node_names}
use Rattle.msc_tree.specs.Expressions.{Expression, Empty, Chart, Alt, Par, Seq, Opt, Loop, Expressions, none, more}
use Rattle.std.proofs.lemmas.Bool.{and_parts}
use Rattle.chart_judge.proofs.NamedBodies.{HasContent, IsGatedLevel, all_left, all_right, all_turned, content_body, has_content, refining_names, there_content}
use Rattle.chart_judge.proofs.TableEntries.{name_has}

-- ---- gates

module _ (table : Table) where
  gated_ends : EndsAreFound → (held : WovenItems) → AreAll (GoesTo table EXPANDED_NESTING) (items_names held) → HasGates table held → AreEndsOf table (table_ends table) held
  gated_ends law held deep h = record { there = law.ends table EXPANDED_NESTING held deep h.there; one = h.one }

-- ---- a body, where each chart that it names is there, and so whole

some_parts : (xs : Expressions) → are_several xs ≡ true → HasParts xs
some_parts none e = absurd cc
some_parts (more x xs) e = tt

-- the body of a chart, where it is there
abbrev IsWholeBody : Table → (List ℕ → Type 0) → Option Body → Type 0
IsWholeBody table Whole None = Unit {0}
IsWholeBody table Whole (Some b) = IsWholeLevel table (table_ends table) Whole b

module _ (law : EndsAreFound) (table : Table) (Is : List ℕ → Type 0) (Whole : List ℕ → Type 0) (known : (name : List ℕ) → Is name → Whole name) (deep : (name : List ℕ) → Is name → GoesTo table EXPANDED_NESTING name) where
  mutual
    expression_whole : (e : Expression) → has_parts e ≡ true → AreAll Is (charts_in e) → IsWholeExpression table (table_ends table) Whole e
    expression_whole Empty p h = tt
    expression_whole (Chart name) p h = known name h.0
    expression_whole (Alt parts) p h = let (some, each) = and_parts (are_several parts) (have_parts parts) p in (some_parts parts some, expressions_whole parts each h)
    expression_whole (Par parts) p h = let (some, each) = and_parts (are_several parts) (have_parts parts) p in expressions_whole parts each h
    expression_whole (Seq parts) p h = let (some, each) = and_parts (are_several parts) (have_parts parts) p in expressions_whole parts each h
    expression_whole (Opt part) p h = expression_whole part p h
    expression_whole (Loop lower upper part) p h = expression_whole part p h

    expressions_whole : (xs : Expressions) → have_parts xs ≡ true → AreAll Is (charts_in_all xs) → AreWholeExpressions table (table_ends table) Whole xs
    expressions_whole none p h = tt
    expressions_whole (more x xs) p h =
        let (one, others) = and_parts (has_parts x) (have_parts xs) p in
        (expression_whole x one (all_left Is (charts_in x) (charts_in_all xs) h), expressions_whole xs others (all_right Is (charts_in x) (charts_in_all xs) h))

  module _ (names : List (List ℕ)) where
    mutual
      level_whole : (f : Option InlineForm) (b : Body) → IsBuiltBody names b → EachLevel (IsGatedLevel table) (levels_from f b) → AreAll Is (level_names b) → IsWholeLevel table (table_ends table) Whole b
      level_whole f (level cover held pairs) p g h = (gated_ends table law held (all_turned Is (GoesTo table EXPANDED_NESTING) deep (items_names held) h) g.0, items_whole held p g.1 h)

      items_whole : (xs : WovenItems) → AreBuiltItems names xs → EachLevel (IsGatedLevel table) (items_levels xs) → AreAll Is (items_names xs) → AreWholeItems table (table_ends table) Whole xs
      items_whole no_items p g h = tt
      items_whole (item_and x xs) p g h = (
        item_whole x p.0 (each_left (IsGatedLevel table) (item_levels x) (items_levels xs) g) (all_left Is (item_names x) (items_names xs) h),
        items_whole xs p.1 (each_right (IsGatedLevel table) (item_levels x) (items_levels xs) g) (all_right Is (item_names x) (items_names xs) h),
      )

      item_whole : (x : WovenItem) → IsBuiltItem names x → EachLevel (IsGatedLevel table) (item_levels x) → AreAll Is (item_names x) → IsWholeItem table (table_ends table) Whole x
      item_whole (Single n) p g h = tt
      item_whole (Coregion ns) p g h = tt
      item_whole (Inline form part operands) p g h = (p.0, operands_whole form operands p.1 g h)
      item_whole (Refer part) p g h = expression_whole part.expression p h

      operands_whole : (f : InlineForm) (bs : Bodies) → AreBuiltBodies names bs → EachLevel (IsGatedLevel table) (operands_levels f bs) → AreAll Is (operands_names bs) → AreWholeOperands table (table_ends table) Whole bs
      operands_whole f no_bodies p g h = tt
      operands_whole f (body_and b bs) p g h = (
        level_whole (Some f) b p.0 (each_left (IsGatedLevel table) (levels_from (Some f) b) (operands_levels f bs) g) (all_left Is (level_names b) (operands_names bs) h),
        operands_whole f bs p.1 (each_right (IsGatedLevel table) (levels_from (Some f) b) (operands_levels f bs) g) (all_right Is (level_names b) (operands_names bs) h),
      )

  body_whole : (b : Body) → IsAcceptedBody b → EachLevel (IsGatedLevel table) (body_levels b) → AreAll Is (level_names b) → IsWholeLevel table (table_ends table) Whole b
  body_whole b a gated named = level_whole (cover_of b) None b a.built gated named

  -- the body of a chart, where it has one
  given_whole : (name : List ℕ) (decls : List Decl) (w : Woven) → IsAcceptedContent w → EachLevel (IsGatedLevel table) (content_levels w) → AreAll Is (content_names w) → IsWholeBody table Whole (content_body name decls w)
  given_whole name decls (Basic b) a g n = body_whole b a g n
  given_whole name decls (HighLevel drawn) a g n = tt

  -- graphs
  mutual
    lines_whole : (lines : Lines) → AreFormedLines lines → AreAll Is (lines_names lines) → AreWholeLines table (table_ends table) Whole lines
    lines_whole no_lines f h = tt
    lines_whole (line_and (line label place node next) rest) f h = (node_whole node f.0 (all_left Is (node_names node) (lines_names rest) h), lines_whole rest f.1 (all_right Is (node_names node) (lines_names rest) h))

    node_whole : (node : Node) → IsFormedNode node → AreAll Is (node_names node) → IsWholeNode table (table_ends table) Whole node
    node_whole Ends f h = tt
    node_whole Connect f h = tt
    node_whole (Condition names) f h = tt
    node_whole (graphs.Refer expression) f h = expression_whole expression f h
    node_whole (Frames held) f h = frames_whole held f h

    frames_whole : (held : Graphs) → AreFormedFrames held → AreAll Is (frames_names held) → AreWholeFrames table (table_ends table) Whole held
    frames_whole no_graphs f h = tt
    frames_whole (graph_and (graph starts lines) rest) f h = (lines_whole lines f.0.1 (all_left Is (lines_names lines) (frames_names rest) h), frames_whole rest f.1 (all_right Is (lines_names lines) (frames_names rest) h))

  graph_whole : (rs : List Refinement) (starts : List LabelRef) (lines : Lines) → AreWholeLines table (table_ends table) Whole lines → IsWholeWoven table (table_ends table) Whole rs (HighLevel (graph starts lines))
  graph_whole [] starts lines h = h
  graph_whole (r ∷ rs) starts lines h = h

  -- what is left of whole items without those of decomposed instances
  left_whole : (rs : List Refinement) (xs : WovenItems) → AreWholeItems table (table_ends table) Whole xs → AreWholeItems table (table_ends table) Whole (without_decomposed rs xs)
  left_whole rs no_items h = tt
  left_whole rs (item_and (Single n) xs) h = by (is_decomposed rs n) (left_whole rs xs h.1)
    where
      by : (t : Bool) → AreWholeItems table (table_ends table) Whole (without_decomposed rs xs) → AreWholeItems table (table_ends table) Whole (if t then without_decomposed rs xs else item_and (Single n) (without_decomposed rs xs))
      by true g = g
      by false g = (tt, g)
  left_whole rs (item_and (Coregion ns) xs) h = (tt, left_whole rs xs h.1)
  left_whole rs (item_and (Inline form part operands) xs) h = (h.0, left_whole rs xs h.1)
  left_whole rs (item_and (Refer part) xs) h = (h.0, left_whole rs xs h.1)

  refining_whole : (i : List ℕ) (held : WovenItems) (o : Option Body) (others : List Refining) → IsWholeBody table Whole o → AreWholeRefinings table (table_ends table) Whole others
      → AreWholeRefinings table (table_ends table) Whole (refining_by i held o ++ others)
  refining_whole i held None others h g = g
  refining_whole i held (Some (level cover inner pairs)) others h g = (h, g)

  module _ (contents : (name : List ℕ) → Is name → HasContent table Is name) where
    refinings_whole : (held : WovenItems) (rs : List Refinement) → AreAll Is (refining_names rs) → AreWholeRefinings table (table_ends table) Whole (refinings table held rs)
    refinings_whole held [] h = tt
    refinings_whole held (r ∷ rs) h =
        let c = contents r.chart h.0 in
        refining_whole r.instance held (body_at table r.chart) (refinings table held rs)
        (subst (λ (o : Option ChartEntry). IsWholeBody table Whole (body_in o)) (sym c.is) (given_whole c.chart.name c.chart.decls c.chart.content c.accepted c.gated c.named)) (refinings_whole held rs h.1)

    woven_whole : (rs : List Refinement) (b : Body) → IsWholeLevel table (table_ends table) Whole b → AreAll Is (refining_names rs) → IsWholeWoven table (table_ends table) Whole rs (Basic b)
    woven_whole [] b h g = h
    woven_whole (r ∷ rs) (level cover held pairs) h g = (h.0, left_whole (r ∷ rs) held h.1, refinings_whole held (r ∷ rs) g)

    content_whole : (decls : List Decl) (w : Woven) → IsAcceptedContent w → EachLevel (IsGatedLevel table) (content_levels w) → AreAll Is (content_names w) → AreAll Is (refining_names (used_refinements decls w))
        → IsWholeWoven table (table_ends table) Whole (refinements decls) w
    content_whole decls (Basic b) a g n r = woven_whole (refinements decls) b (body_whole b a g n) r
    content_whole decls (HighLevel (graph starts lines)) a g n r = graph_whole (refinements decls) starts lines (lines_whole lines a.formed.1 n)

-- each chart that is there goes no deeper than the limit
pub goes_deep : (table : Table) → EachChart (λ c. IsThereTo table EXPANDED_NESTING c.name) table → (depth : ℕ) (name : List ℕ) → IsThereTo table depth name → GoesTo table EXPANDED_NESTING name
goes_deep table there zero name h = absurd h
goes_deep table there (suc depth) name h = there_goes table EXPANDED_NESTING name (name_has (IsThereTo table EXPANDED_NESTING) table name h.chart there h.is)

pub whole_to : EndsAreFound → (table : Table) → EachChart IsAcceptedChart table → EachChart (λ c. EachLevel (IsGatedLevel table) (content_levels c.content)) table → EachChart (λ c. IsThereTo table EXPANDED_NESTING c.name) table
    → (depth : ℕ) (name : List ℕ) → IsThereTo table depth name → IsWholeTo table (table_ends table) depth name
whole_to law table charts gates there zero name h = absurd h
whole_to law table charts gates there (suc depth) name h =
    let c = has_content table charts gates (IsThereTo table depth) name h in
    record {
      entry = c.chart;
      is = c.is;
      whole = content_whole law table (IsThereTo table depth) (IsWholeTo table (table_ends table) depth) (whole_to law table charts gates there depth) (goes_deep table there depth) (there_content table charts gates depth) c.chart.decls c.chart.content c.accepted c.gated c.named c.refining;
    }

-- no inner event of a called gate stands in a loop
quiet_levels : (table : Table) (ls : List BodyLevel) → EachLevel (IsGatedLevel table) ls → EachLevel (IsQuietLevel table) ls
quiet_levels table [] h = tt
quiet_levels table (l ∷ ls) h = (h.0.outside, quiet_levels table ls h.1)

quiet_woven : (table : Table) (w : Woven) → EachLevel (IsGatedLevel table) (content_levels w) → IsQuietWoven table w
quiet_woven table (Basic b) g = quiet_levels table (body_levels b) g
quiet_woven table (HighLevel drawn) g = tt

of_each : (P : ChartEntry → Type 0) (table : Table) → EachChart P table → (c : ChartEntry) → Among c table → P c
of_each P (d ∷ table) h _ first = h.0
of_each P (d ∷ table) h c (later i) = of_each P table h.1 c i
of_each P [] h c i = elim i [ ]

pub all_quiet : (table : Table) → EachChart (λ c. EachLevel (IsGatedLevel table) (content_levels c.content)) table → EachChart (λ c. IsThereTo table EXPANDED_NESTING c.name) table → IsQuietTable table
all_quiet table gates there c i = record {
  deep = there_goes table EXPANDED_NESTING c.name (of_each (λ c. IsThereTo table EXPANDED_NESTING c.name) table there c i);
  quiet = quiet_woven table c.content (of_each (λ c. EachLevel (IsGatedLevel table) (content_levels c.content)) table gates c i);
}
