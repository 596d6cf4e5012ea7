-- From what the charts mean that a chart names to what it means itself, as deep as references stand in each other; and the chart as a
-- whole.
use Rattle.std.specs.Prelude.{ℕ, zero, suc, ◌+◌, ◌≤◌, Bool, true, false, List, [], Option, Some, length}
use Rattle.std.proofs.Common.{◌≡◌, sym, subst, inl, inr, arith}
use Rattle.msc_base.specs.Orders.{Once}
use Rattle.msc_unfolding.specs.Unfoldings.{Happening, Unfolding}
use Rattle.chart_term.specs.Tables.{terms_over}
use Rattle.chart_term.specs.TermMeanings.{HasPattern}
use Rattle.chart_term.specs.TermPatterns.{Both}
use Rattle.chart_term.specs.Terms.{Tree}
use Rattle.hmsc_graph.specs.declared.shape.Shape.{Shape}
use Rattle.hmsc_graph.specs.Graphs.{Any}
use Rattle.chart_term.specs.Tables.{Tables}
use Rattle.term_laws.specs.ConstructorLaws.{NormalFormsKeepPatterns}
use Rattle.term_laws.specs.FullSoundness.{AreSoundNets, ConstructorsKeepSoundness, FreshTermsAreSound}
use Rattle.term_laws.specs.LaterTables.{LaterTablesAgree}
use Rattle.term_laws.proofs.FullSound.{tidy_tables}
use Rattle.sound_terms.specs.FormLaws.{WalksStayWithin}
use Rattle.term_meaning.proofs.PortionRules.{portion_means}
use Rattle.graph_shapes.specs.GraphShapes.{shape_of}
use Rattle.graph_walks.specs.GraphLaws.{TextWalksNet}
use Rattle.graph_walks.proofs.GraphMade.{begun_set, finished_set as finished_walks}
use Rattle.expansion_terms.specs.MadeTerms.{newest_walk}
use Rattle.term_laws.specs.Soundness.{AreTidyTables}
use Rattle.term_tables.specs.NetValues.{NetsValue}
use Rattle.term_meaning.specs.Meanings.{MeansUnfoldings, Means}
use Rattle.term_meaning.specs.Naming.{IsNamed}
use Rattle.term_meaning.specs.Portions.{Shown, IsPortion, shown_at, tags_in}
use Rattle.term_meaning.specs.UnfoldingSets.{OnlyEvent}
use Rattle.term_meaning.proofs.MeaningRules.{mean_sets}
use Rattle.term_meaning.proofs.SeenRules.{mean_named}
use Rattle.msc_base.specs.declared.label.LabelRef.{LabelRef}
use Rattle.msc_tree.specs.Expressions.{Chart}
use Rattle.msc_tree.specs.Graphs.{graph, Lines}
use Rattle.msc_meaning.specs.Bodies.{WovenItems}
use Rattle.msc_meaning.specs.ChartUnfoldings.{OfExpression, chart, OfWalk, OfWoven}
use Rattle.msc_meaning.specs.FarEnds.{GateMap, no_gates}
use Rattle.msc_meaning.specs.InnerEvents.{GateEnd}
use Rattle.msc_meaning.specs.Meanings.{Finished, Open, Begun}
use Rattle.msc_meaning.specs.Tables.{Table, ChartEntry, chart_at, HighLevel, refinements}
use Rattle.expanded_terms.specs.ExpandedTerms.{Leaves, Charts, charts_to, entry_count, entry_shown, entry_term, lines_count, lines_terms, woven_count, woven_shown, woven_term}
use Rattle.expanded_terms.specs.ExpandedLaws.{ExpandedTermsMean, IsBasicChart, IsJudgedGraph}
use Rattle.expanded_terms.specs.FitBodies.{AreFitLines, HasFitEntry, IsFitTo}
use Rattle.expanded_terms.specs.NamedEvents.{IsNameable, named_leaves}
use Rattle.expanded_terms.specs.GraphWalks.{IsGraphWalk}
use Rattle.expanded_terms.specs.Parts.{IsPartFor}
use Rattle.expanded_terms.proofs.ChartSets.{chart_set}
use Rattle.expanded_terms.proofs.EventParts.{event_part}
use Rattle.expanded_terms.proofs.Expanded.{lines_are, woven_is}
use Rattle.expanded_terms.proofs.WalkParts.{AreNodeParts, judged_portion, walk_part}
use Rattle.expanded_terms.proofs.PartRules.{part_sets}

module _ (keep : NormalFormsKeepPatterns) (v : NetsValue) (m : List (List ℕ)) (once : Once m) (tidy : AreTidyTables v.tables) (table : Table) (ends_of : WovenItems → List GateEnd) (leaves : Leaves)
    (Named : Happening → Type 0) (named : (n : ℕ) (h : Happening) → Named h → IsPartFor v m n (n + 1) (shown_at n h.tags) (leaves.event n h) (OnlyEvent h)) (IsWalk : ℕ → Shape → List Tree → Type 0)
    (walk_known : (n hi : ℕ) (starts : List LabelRef) (lines : Lines) (ys : List Tree) → n ≤ hi → IsWalk n (shape_of (graph starts lines)) ys → AreNodeParts table v m n hi ys lines → IsPartFor v m n hi [] (leaves.walk n) (OfWalk table false lines starts)) where
  -- what a chart comes to means the chart
  abbrev IsMeant : Charts → List ℕ → GateMap → ℕ → Type 0
  IsMeant charts name gates n = IsPartFor v m n (n + charts.count name) (charts.shown name n) (charts.term name gates n) (OfExpression table gates (Chart name))

  abbrev EntryMeant : Charts → List ℕ → GateMap → ℕ → Option ChartEntry → Type 0
  EntryMeant charts name gates n o = IsPartFor v m n (n + entry_count charts table o) (entry_shown charts table n o) (entry_term leaves ends_of table charts gates n o) (OfExpression table gates (Chart name))

  -- one level of references
  one_deeper : (charts : Charts) (IsFitChart : List ℕ → GateMap → ℕ → Type 0) → ((name : List ℕ) (gates : GateMap) (n : ℕ) → IsFitChart name gates n → IsMeant charts name gates n)
      → (name : List ℕ) (gates : GateMap) (n : ℕ) → HasFitEntry table ends_of leaves Named IsWalk charts IsFitChart name gates n → EntryMeant charts name gates n (chart_at table name)
  one_deeper charts IsFitChart known name gates n h = subst (λ (o : Option ChartEntry). EntryMeant charts name gates n o) (sym h.is)
      (part_sets keep v m once tidy n (n + woven_count charts table (refinements h.entry.decls) h.entry.content) (woven_shown charts table n (refinements h.entry.decls) h.entry.content)
      (woven_term charts leaves ends_of table gates n (refinements h.entry.decls) h.entry.content) (OfWoven table gates (refinements h.entry.decls) h.entry.content) (OfExpression table gates (Chart name))
      (λ u. let s = chart_set table gates name h.entry h.is u in record { to = s.from; from = s.to })
      (woven_is keep v m once tidy table ends_of leaves Named named IsWalk charts IsFitChart walk_known known gates n (refinements h.entry.decls) h.entry.content h.fit))

  pub charts_are : (depth : ℕ) (name : List ℕ) (gates : GateMap) (n : ℕ) → IsFitTo table ends_of leaves Named IsWalk depth name gates n → IsMeant (charts_to leaves ends_of table depth) name gates n
  charts_are zero name gates n h = absurd h
  charts_are (suc depth) name gates n h = one_deeper (charts_to leaves ends_of table depth) (IsFitTo table ends_of leaves Named IsWalk depth) (charts_are depth) name gates n h

  -- the nodes of a graph, which have these numbers
  pub nodes_are : (depth lo hi n : ℕ) (lines : Lines) → lo ≤ n → n + lines_count (charts_to leaves ends_of table depth) lines ≤ hi
      → AreFitLines table ends_of leaves Named IsWalk (charts_to leaves ends_of table depth) (IsFitTo table ends_of leaves Named IsWalk depth) n lines
      → AreNodeParts table v m lo hi (lines_terms (charts_to leaves ends_of table depth) leaves ends_of n lines) lines
  nodes_are depth lo hi n lines l k h =
      lines_are keep v m once tidy table ends_of leaves Named named IsWalk (charts_to leaves ends_of table depth) (IsFitTo table ends_of leaves Named IsWalk depth) walk_known (charts_are depth) lo hi n lines l k h

-- ---- the chart as a whole

module _ (table : Table) (name : List ℕ) where
  finished_set : (u : Unfolding) → Both (OfExpression table no_gates (Chart name) u) (Finished table name u)
  finished_set u = record { to = λ h. to u h; from = λ h. chart h.is h.unfolds }
    where
      to : (u : Unfolding) → OfExpression table no_gates (Chart name) u → Finished table name u
      to u (chart {entry = c} e w) = record { chart = c; is = e; unfolds = w }

  unfolds_set : ((u : Unfolding) → Open table name u → ⊥) → (u : Unfolding) → Both (OfExpression table no_gates (Chart name) u) (Begun table name u)
  unfolds_set never u = let b = finished_set u in record { to = λ h. inl (b.to h); from = λ h. elim h [ inl i ↦ b.from i | inr i ↦ absurd (never u i) ] }

  as_whole : (v : NetsValue) (names : List (List ℕ)) (lo hi : ℕ) (sh : Shown) (x : Tree) → Once v.labels → ((u : Unfolding) → Open table name u → ⊥) → IsPartFor v names lo hi sh x (OfExpression table no_gates (Chart name))
      → Means v names x (Finished table name) (Begun table name)
  as_whole v names lo hi sh x once never p = record {
    once = once;
    finished_ones = mean_sets (IsNamed v.labels names) (HasPattern (terms_over v.tables) false x) (OfExpression table no_gates (Chart name)) (Finished table name) finished_set (part_means false);
    all_ones = mean_sets (IsNamed v.labels names) (HasPattern (terms_over v.tables) true x) (OfExpression table no_gates (Chart name)) (Begun table name) (unfolds_set never) (part_means true);
  }
    where
      part_means : (o : Bool) → MeansUnfoldings v names o x (OfExpression table no_gates (Chart name))
      part_means o = mean_named v.labels names (HasPattern (terms_over v.tables) o x) (OfExpression table no_gates (Chart name)) (tags_in sh) (p.portion o).mean

module _ (keep : NormalFormsKeepPatterns) (agree : LaterTablesAgree) (fresh : FreshTermsAreSound) (constructors : ConstructorsKeepSoundness) (stays : WalksStayWithin) (walks : TextWalksNet)
    (v : NetsValue) (names : List (List ℕ)) (once : Once names) (nets : AreSoundNets (length v.labels) v.tables) (walk : ℕ → Tree) (table : Table) (ends_of : WovenItems → List GateEnd) where
  abbrev leaves : Leaves
  leaves = named_leaves names v.labels walk

  abbrev IsWalk : ℕ → Shape → List Tree → Type 0
  IsWalk m g nodes = IsGraphWalk v.tables g nodes (walk m)

  tidy : AreTidyTables v.tables
  tidy = tidy_tables (length v.labels) v.tables nets

  walk_known : (n hi : ℕ) (starts : List LabelRef) (lines : Lines) (ys : List Tree) → n ≤ hi → IsWalk n (shape_of (graph starts lines)) ys → AreNodeParts table v names n hi ys lines → IsPartFor v names n hi [] (walk n) (OfWalk table false lines starts)
  walk_known n hi starts lines ys l h parts = walk_part keep agree fresh constructors stays walks table v names once nets n hi l starts lines ys (walk n) parts h

  basic_means : (depth : ℕ) (name : List ℕ) → Once v.labels → IsFitTo table ends_of leaves (IsNameable names v.labels) IsWalk depth name no_gates 0 → IsBasicChart table name
      → Means v names ((charts_to leaves ends_of table depth).term name no_gates 0) (Finished table name) (Begun table name)
  basic_means depth name labels_once h basic =
      let charts = charts_to leaves ends_of table depth in
      as_whole table name v names 0 (0 + charts.count name) (charts.shown name 0) (charts.term name no_gates 0) labels_once
      (λ u o. basic o.chart o.starts o.lines o.is o.drawn)
      (charts_are keep v names once tidy table ends_of leaves (IsNameable names v.labels) (event_part v names) IsWalk walk_known depth name no_gates 0 h)

  judged_means : (depth : ℕ) (name : List ℕ) (entry : ChartEntry) (starts : List LabelRef) (lines : Lines) → Once v.labels → chart_at table name ≡ Some entry → entry.content ≡ HighLevel (graph starts lines)
      → IsJudgedGraph v names walk table ends_of depth starts lines → Means v names (newest_walk Any v.tables) (Finished table name) (Begun table name)
  judged_means depth name entry starts lines labels_once is drawn h = record {
    once = labels_once;
    finished_ones = mean_sets (IsNamed v.labels names) (HasPattern (terms_over v.tables) false (newest_walk Any v.tables)) (OfWalk table false lines starts) (Finished table name) (finished_walks table name entry starts lines is drawn) (now false);
    all_ones = mean_sets (IsNamed v.labels names) (HasPattern (terms_over v.tables) true (newest_walk Any v.tables)) (OfWalk table true lines starts) (Begun table name) (begun_set table name entry starts lines is drawn) (now true);
  }
    where
      charts : Charts
      charts = charts_to leaves ends_of table depth

      hi : ℕ
      hi = 1 + lines_count charts lines

      parts : AreNodeParts table v names 1 hi (lines_terms charts leaves ends_of 1 lines) lines
      parts = nodes_are keep v names once tidy table ends_of leaves (IsNameable names v.labels) (event_part v names) IsWalk walk_known depth 1 hi 1 lines (omega arith) (omega arith) h.fit

      now : (o : Bool) → MeansUnfoldings v names o (newest_walk Any v.tables) (OfWalk table o lines starts)
      now o = portion_means v.labels names 1 hi [] (HasPattern (terms_over v.tables) o (newest_walk Any v.tables)) (OfWalk table o lines starts)
          (subst (λ (w : Tables). IsPortion v.labels names 1 hi [] (HasPattern (terms_over v.tables) o (newest_walk Any w)) (OfWalk table o lines starts)) (sym h.newest)
          (judged_portion keep walks table v names once tidy 1 hi (omega arith) starts lines (lines_terms charts leaves ends_of 1 lines) parts h.whole h.older h.newest o))

pub expanded_terms_mean : NormalFormsKeepPatterns → LaterTablesAgree → FreshTermsAreSound → ConstructorsKeepSoundness → WalksStayWithin → TextWalksNet → ExpandedTermsMean
expanded_terms_mean keep agree fresh constructors stays walks = record {
  means = λ v names walk table ends_of depth name once labels_once nets h basic. basic_means keep agree fresh constructors stays walks v names once nets walk table ends_of depth name labels_once h basic;
  judged = λ v names walk table ends_of depth name entry starts lines once labels_once nets is drawn h. judged_means keep agree fresh constructors stays walks v names once nets walk table ends_of depth name entry starts lines labels_once is drawn h;
}
