-- The charts of an accepted table are nested in each other less deep than the limit, and the graphs of those that are named are ending.
use Rattle.std.specs.Prelude.{ℕ, zero, suc, ◌<◌, Bool, true, false, List, [], ◌∷◌, ◌++◌, Option, None, Some, if◌then◌else◌}
use Rattle.std.specs.List.{flat_map}
use Rattle.std.specs.Str.{bytes_eq}
use Rattle.std.proofs.Common.{◌≡◌, ◌∙◌, inl, inr, refl, sym, ap, subst}
use Rattle.std.proofs.lemmas.Slice.Eq.{bytes_eq-Decides}
use Rattle.chart_cycles.specs.Cycles.{IsOrdered}
use Rattle.expansion_order.specs.Ranks.{CanBeRanked}
use Rattle.gate_ends.specs.FoundEnds.{AreAll, item_names, items_names, level_names, operands_names}
use Rattle.made_terms.specs.DrawnWalks.{AreEnding, IsEndingTo, woven_graphs}
use Rattle.msc_acceptance.specs.AcceptedCharts.{EachChart, HasNamed, IsAcceptedChart, IsAcceptedContent, IsThereTo, content_levels, content_names, is_named, named_charts, used_refinements, woven_ending}
use Rattle.msc_base.specs.declared.limits.TheConstants.Limits.{EXPANDED_NESTING}
use Rattle.msc_meaning.specs.Bodies.{Body, level, WovenItems, no_items, item_and, WovenItem, Single, Coregion, Inline, Refer, Bodies, no_bodies, body_and}
use Rattle.msc_meaning.specs.BodyLevels.{EachLevel}
use Rattle.msc_meaning.specs.InnerEvents.{charts_in, charts_in_all}
use Rattle.msc_meaning.specs.Refinements.{Refining, refining_by, refinings, is_decomposed, without_decomposed}
use Rattle.msc_meaning.specs.Tables.{ChartEntry, Table, body_at, body_in, chart_at, Woven, Basic, HighLevel, Refinement, refinements}
use Rattle.expanded_terms.specs.GraphWalks.{NetsAreWhole}
use Rattle.graph_rules.specs.EndingGraphs.{WalksEnd}
use Rattle.graph_rules.specs.GraphRules.{HasEndlessLine, InGraphs}
use Rattle.msc_base.specs.declared.label.LabelRef.{LabelRef}
use Rattle.msc_base.specs.declared.place.Place.{Place}
use Rattle.msc_base.specs.Lists.{IsAmong}
use Rattle.msc_base.specs.Orders.{first}
use Rattle.msc_base.proofs.NameFacts.{any_from_one}
use Rattle.msc_tree.specs.declared.chart.Decl.{Decl}
use Rattle.msc_tree.specs.Graphs as graphs
use Rattle.msc_tree.specs.Graphs.{graph, Lines, no_lines, line_and, line, Node, Ends, Connect, Condition, Frames, Graphs, no_graphs, graph_and}
use Rattle.woven_laws.specs.GraphNames.{frames_names, lines_names, node_names}
use Rattle.msc_tree.specs.Expressions.{Expression, Empty, Chart, Alt, Par, Seq, Opt, Loop, Expressions, none, more}
use Rattle.node_ranks.specs.NamedCharts.{NameOnly, NamesOnly, LevelNamesOnly, ItemNamesOnly, ItemsNameOnly, OperandsNameOnly, RefiningsNameOnly, LinesNameOnly, NodeNamesOnly, FramesNameOnly, WovenNamesOnly, HasEntry, IsNestedTo}
use Rattle.table_terms.specs.SoundGraphs.{HasSoundGraphs, IsJudgedContent, IsJudgedTo}
use Rattle.table_terms.specs.TableTerms.{numbered_chart}
use Rattle.chart_judge.proofs.NamedBodies.{HasContent, IsGatedLevel, all_left, all_right, all_turned, content_body, has_content, refining_names, there_content, there_deeper}
use Rattle.chart_judge.proofs.EndingGraphs.{frames_ending, graphs_ending, whole_shape}
use Rattle.chart_judge.proofs.TableEntries.{entry_has, name_has}

-- ---- what each name of a body has, is said of each place where the expansion looks a name up

module _ (P : List ℕ → Type 0) where
  mutual
    expression_only : (e : Expression) → AreAll P (charts_in e) → NamesOnly P e
    expression_only Empty h = tt
    expression_only (Chart name) h = h.0
    expression_only (Alt parts) h = expressions_only parts h
    expression_only (Par parts) h = expressions_only parts h
    expression_only (Seq parts) h = expressions_only parts h
    expression_only (Opt part) h = expression_only part h
    expression_only (Loop lower upper part) h = expression_only part h

    expressions_only : (xs : Expressions) → AreAll P (charts_in_all xs) → NameOnly P xs
    expressions_only none h = tt
    expressions_only (more x xs) h = (expression_only x (all_left P (charts_in x) (charts_in_all xs) h), expressions_only xs (all_right P (charts_in x) (charts_in_all xs) h))

  mutual
    level_only : (b : Body) → AreAll P (level_names b) → LevelNamesOnly P b
    level_only (level cover held pairs) h = items_only held h

    items_only : (xs : WovenItems) → AreAll P (items_names xs) → ItemsNameOnly P xs
    items_only no_items h = tt
    items_only (item_and x xs) h = (item_only x (all_left P (item_names x) (items_names xs) h), items_only xs (all_right P (item_names x) (items_names xs) h))

    item_only : (x : WovenItem) → AreAll P (item_names x) → ItemNamesOnly P x
    item_only (Single n) h = tt
    item_only (Coregion ns) h = tt
    item_only (Inline form part operands) h = operands_only operands h
    item_only (Refer part) h = expression_only part.expression h

    operands_only : (bs : Bodies) → AreAll P (operands_names bs) → OperandsNameOnly P bs
    operands_only no_bodies h = tt
    operands_only (body_and b bs) h = (level_only b (all_left P (level_names b) (operands_names bs) h), operands_only bs (all_right P (level_names b) (operands_names bs) h))

  -- without the items of decomposed instances
  left_only : (rs : List Refinement) (xs : WovenItems) → ItemsNameOnly P xs → ItemsNameOnly P (without_decomposed rs xs)
  left_only rs no_items h = tt
  left_only rs (item_and (Single n) xs) h = by (is_decomposed rs n) (left_only rs xs h.1)
    where
      by : (t : Bool) → ItemsNameOnly P (without_decomposed rs xs) → ItemsNameOnly P (if t then without_decomposed rs xs else item_and (Single n) (without_decomposed rs xs))
      by true g = g
      by false g = (tt, g)
  left_only rs (item_and (Coregion ns) xs) h = (tt, left_only rs xs h.1)
  left_only rs (item_and (Inline form part operands) xs) h = (h.0, left_only rs xs h.1)
  left_only rs (item_and (Refer part) xs) h = (h.0, left_only rs xs h.1)

  -- the body of a refining chart, where it is there
  abbrev BodyNamesOnly : Option Body → Type 0
  BodyNamesOnly None = Unit {0}
  BodyNamesOnly (Some b) = LevelNamesOnly P b

  mutual
    lines_only : (lines : Lines) → AreAll P (lines_names lines) → LinesNameOnly P lines
    lines_only no_lines h = tt
    lines_only (line_and (line label place node next) rest) h = (node_only node (all_left P (node_names node) (lines_names rest) h), lines_only rest (all_right P (node_names node) (lines_names rest) h))

    node_only : (node : Node) → AreAll P (node_names node) → NodeNamesOnly P node
    node_only Ends h = tt
    node_only Connect h = tt
    node_only (Condition names) h = tt
    node_only (graphs.Refer expression) h = expression_only expression h
    node_only (Frames held) h = frames_only held h

    frames_only : (held : Graphs) → AreAll P (frames_names held) → FramesNameOnly P held
    frames_only no_graphs h = tt
    frames_only (graph_and (graph starts lines) rest) h = (lines_only lines (all_left P (lines_names lines) (frames_names rest) h), frames_only rest (all_right P (lines_names lines) (frames_names rest) h))

  graph_only : (table : Table) (rs : List Refinement) (starts : List LabelRef) (lines : Lines) → LinesNameOnly P lines → WovenNamesOnly P table rs (HighLevel (graph starts lines))
  graph_only table [] starts lines h = h
  graph_only table (r ∷ rs) starts lines h = h

  refining_only : (i : List ℕ) (held : WovenItems) (o : Option Body) (others : List Refining) → BodyNamesOnly o → RefiningsNameOnly P others → RefiningsNameOnly P (refining_by i held o ++ others)
  refining_only i held None others h g = g
  refining_only i held (Some (level cover inner pairs)) others h g = (h, g)

-- ---- a chart that is there, whose names have something else

module _ (table : Table) (Is P : List ℕ → Type 0) (known : (name : List ℕ) → Is name → P name) (contents : (name : List ℕ) → Is name → HasContent table Is name) where
  given_only : (name : List ℕ) (decls : List Decl) (w : Woven) → AreAll Is (content_names w) → BodyNamesOnly P (content_body name decls w)
  given_only name decls (Basic b) h = level_only P b (all_turned Is P known (level_names b) h)
  given_only name decls (HighLevel drawn) h = tt

  refinings_only : (held : WovenItems) (rs : List Refinement) → AreAll Is (refining_names rs) → RefiningsNameOnly P (refinings table held rs)
  refinings_only held [] h = tt
  refinings_only held (r ∷ rs) h =
      let c = contents r.chart h.0 in
      refining_only P r.instance held (body_at table r.chart) (refinings table held rs) (subst (λ (o : Option ChartEntry). BodyNamesOnly P (body_in o)) (sym c.is) (given_only c.chart.name c.chart.decls c.chart.content c.named)) (refinings_only held rs h.1)

  woven_only : (rs : List Refinement) (b : Body) → LevelNamesOnly P b → AreAll Is (refining_names rs) → WovenNamesOnly P table rs (Basic b)
  woven_only [] b h g = h
  woven_only (r ∷ rs) (level cover held pairs) h g = (left_only P (r ∷ rs) held h, refinings_only held (r ∷ rs) g)

  content_only : (decls : List Decl) (w : Woven) → AreAll Is (content_names w) → AreAll Is (refining_names (used_refinements decls w)) → WovenNamesOnly P table (refinements decls) w
  content_only decls (Basic b) n r = woven_only (refinements decls) b (level_only P b (all_turned Is P known (level_names b) n)) r
  content_only decls (HighLevel (graph starts lines)) n r = graph_only P table (refinements decls) starts lines (lines_only P lines (all_turned Is P known (lines_names lines) n))

  entry_only : (name : List ℕ) → HasContent table Is name → HasEntry table P name
  entry_only name c = record { entry = c.chart; is = c.is; names = content_only c.chart.decls c.chart.content c.named c.refining }

-- ---- names of charts

both_all : (P Q : List ℕ → Type 0) (names : List (List ℕ)) → AreAll P names → ((n : List ℕ) → IsAmong names n → Q n) → AreAll (λ n. P n × Q n) names
both_all P Q [] h q = tt
both_all P Q (n ∷ names) h q = ((h.0, q n (inl refl)), both_all P Q names h.1 (λ m i. q m (inr i)))

in_left : (xs ys : List (List ℕ)) (m : List ℕ) → IsAmong xs m → IsAmong (xs ++ ys) m
in_left [] ys m h = absurd h
in_left (x ∷ xs) ys m (inl e) = inl e
in_left (x ∷ xs) ys m (inr h) = inr (in_left xs ys m h)

in_right : (xs ys : List (List ℕ)) (m : List ℕ) → IsAmong ys m → IsAmong (xs ++ ys) m
in_right [] ys m h = h
in_right (x ∷ xs) ys m h = inr (in_right xs ys m h)

-- what a chart of the table names is named
named_in : (table : Table) (name : List ℕ) (c : ChartEntry) → chart_at table name ≡ Some c → (m : List ℕ) → IsAmong (named_charts c) m → IsAmong (flat_map named_charts table) m
named_in [] name c e m h = absurd cc
named_in (d ∷ table) name c e m h = by (bytes_eq d.name name) e (λ f. named_in table name c f m h)
  where
    by : (b : Bool) → (if b then Some d else chart_at table name) ≡ Some c → (chart_at table name ≡ Some c → IsAmong (flat_map named_charts table) m) → IsAmong (named_charts d ++ flat_map named_charts table) m
    by true f behind = let same : d ≡ c = cc in in_left (named_charts d) (flat_map named_charts table) m (subst (λ (x : ChartEntry). IsAmong (named_charts x) m) (sym same) h)
    by false f behind = in_right (named_charts d) (flat_map named_charts table) m (behind f)

-- a chart is found by its own name
own_name : (table : Table) (name : List ℕ) (c : ChartEntry) → chart_at table name ≡ Some c → c.name ≡ name
own_name [] name c e = absurd cc
own_name (d ∷ table) name c e = by (bytes_eq d.name name) refl e (own_name table name c)
  where
    by : (b : Bool) → bytes_eq d.name name ≡ b → (if b then Some d else chart_at table name) ≡ Some c → (chart_at table name ≡ Some c → c.name ≡ name) → c.name ≡ name
    by true s f behind = let same : d ≡ c = cc in ap (λ (x : ChartEntry). x.name) (sym same) ∙ (bytes_eq-Decides d.name name).0 s
    by false s f behind = behind f

-- ---- charts of a table

module _ (table : Table) (charts : EachChart IsAcceptedChart table) (gates : EachChart (λ c. EachLevel (IsGatedLevel table) (content_levels c.content)) table) where
  pub nested_to : (depth : ℕ) (name : List ℕ) → IsThereTo table depth name → IsNestedTo table depth name
  nested_to zero name h = absurd h
  nested_to (suc depth) name h = entry_only table (IsThereTo table depth) (IsNestedTo table depth) (nested_to depth) (there_content table charts gates depth) name (has_content table charts gates (IsThereTo table depth) name h)

  -- there so deep, and named
  abbrev IsNamedTo : ℕ → List ℕ → Type 0
  IsNamedTo depth name = IsThereTo table depth name × (is_named table name ≡ true)

  with_named : (depth : ℕ) (name : List ℕ) → IsThereTo table (suc depth) name → HasNamed table (IsNamedTo depth) name
  with_named depth name h = record {
    chart = h.chart;
    is = h.is;
    named = both_all (IsThereTo table depth) (λ n. is_named table n ≡ true) (named_charts h.chart) h.named (λ n i. any_from_one (flat_map named_charts table) n (named_in table name h.chart h.is n i));
  }

  named_content : (depth : ℕ) (name : List ℕ) → IsNamedTo depth name → HasContent table (IsNamedTo depth) name
  named_content depth name h = has_content table charts gates (IsNamedTo depth) name (with_named depth name (there_deeper table depth name h.0))

  module _ (nets : NetsAreWhole) (ends : WalksEnd) (ending : EachChart (λ c. (p : Place) → InGraphs HasEndlessLine (woven_ending (is_named table c.name) c.content) p → ⊥) table) where
    content_ending : (w : Woven) → IsAcceptedContent w → ((p : Place) → InGraphs HasEndlessLine (woven_ending true w) p → ⊥) → AreEnding (woven_graphs w)
    content_ending (Basic b) a no_end g i = elim i [ ]
    content_ending (HighLevel drawn) a no_end g i = graphs_ending nets ends drawn a no_end g i

    content_judged : (named : Bool) (w : Woven) → IsAcceptedContent w → ((p : Place) → InGraphs HasEndlessLine (woven_ending named w) p → ⊥) → IsJudgedContent w
    content_judged named (Basic b) a no_end = tt
    content_judged named (HighLevel (graph starts lines)) a no_end = (whole_shape nets ends (graph starts lines) a (graph starts lines) first, frames_ending nets ends (graph starts lines) a named no_end starts lines refl)

    none_endless : (name : List ℕ) (c : ChartEntry) → chart_at table name ≡ Some c → (p : Place) → InGraphs HasEndlessLine (woven_ending (is_named table name) c.content) p → ⊥
    none_endless name c is = subst (λ (n : List ℕ). (p : Place) → InGraphs HasEndlessLine (woven_ending (is_named table n) c.content) p → ⊥) (own_name table name c is)
        (entry_has (λ c. (p : Place) → InGraphs HasEndlessLine (woven_ending (is_named table c.name) c.content) p → ⊥) table name c ending is)

    ending_to : (depth : ℕ) (name : List ℕ) → IsNamedTo depth name → IsEndingTo table depth name
    ending_to zero name h = absurd h.0
    ending_to (suc depth) name h =
        let c = has_content table charts gates (IsNamedTo depth) name (with_named depth name h.0) in
        record {
          has = record { entry = c.chart; is = c.is; names = content_only table (IsNamedTo depth) (IsEndingTo table depth) (ending_to depth) (named_content depth) c.chart.decls c.chart.content c.named c.refining };
          graphs = content_ending c.chart.content c.accepted (subst (λ (b : Bool). (p : Place) → InGraphs HasEndlessLine (woven_ending b c.chart.content) p → ⊥) h.1 (none_endless name c.chart c.is));
        }

    judged_to : (depth : ℕ) (name : List ℕ) → IsThereTo table depth name → IsJudgedTo table depth name
    judged_to zero name h = absurd h
    judged_to (suc depth) name h =
        let c = has_content table charts gates (IsNamedTo depth) name (with_named depth name h) in
        record {
          has = record { entry = c.chart; is = c.is; names = content_only table (IsNamedTo depth) (IsEndingTo table depth) (ending_to depth) (named_content depth) c.chart.decls c.chart.content c.named c.refining };
          content = content_judged (is_named table name) c.chart.content c.accepted (none_endless name c.chart c.is);
        }

    pub sound_graphs : EachChart (λ c. IsOrdered table EXPANDED_NESTING c.name) table → (name : List ℕ) → IsThereTo table EXPANDED_NESTING name → HasSoundGraphs table name
    sound_graphs ordered name h = record {
      judged = judged_to EXPANDED_NESTING name h;
      nested = nested_to EXPANDED_NESTING name h;
      ranked = ranked;
    }
      where
        ranked : (depth : ℕ) (other : List ℕ) → depth < EXPANDED_NESTING → IsNestedTo table depth other → CanBeRanked (numbered_chart table other)
        ranked zero other l w = absurd w
        ranked (suc depth) other l w = name_has (IsOrdered table EXPANDED_NESTING) table other w.entry ordered w.is
