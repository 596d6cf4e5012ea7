-- The term of items of a level where they stand means their unfoldings, tied as the level is.
use Rattle.std.specs.Prelude.{ℕ, ◌+◌, ◌≤◌, false, true, List, [], length}
use Rattle.std.proofs.Common.{◌≡◌, sym, subst}
use Rattle.msc_base.specs.declared.label.LabelRef.{LabelRef}
use Rattle.msc_base.specs.declared.label.Pair.{Pair}
use Rattle.msc_base.specs.Orders.{Among, Once}
use Rattle.msc_unfolding.specs.Unfoldings.{Tag, Unfolding, level_tie, past_level}
use Rattle.chart_term.specs.NormalForms.{tie_of}
use Rattle.chart_term.specs.Tables.{terms_over}
use Rattle.chart_term.specs.TermMeanings.{HasPattern}
use Rattle.chart_term.specs.Terms.{Tree}
use Rattle.hmsc_graph.specs.declared.shape.Shape.{Shape}
use Rattle.graph_shapes.specs.GraphShapes.{shape_of}
use Rattle.graph_walks.specs.GraphLaws.{TextWalksNet}
use Rattle.sound_terms.specs.FormLaws.{WalksStayWithin}
use Rattle.sound_terms.specs.Intervals.{IsBeyond}
use Rattle.term_laws.specs.ConstructorLaws.{NormalFormsKeepPatterns}
use Rattle.term_laws.specs.FullSoundness.{AreSoundNets, ConstructorsKeepSoundness, FreshTermsAreSound}
use Rattle.term_laws.specs.LaterTables.{LaterTablesAgree}
use Rattle.term_laws.specs.Soundness.{AreTidyTables, Lacks, NetLacks}
use Rattle.term_laws.proofs.FullSound.{tidy_tables}
use Rattle.term_meaning.specs.Meanings.{MeansUnfoldings}
use Rattle.term_meaning.specs.Portions.{Shown, past_shown, tags_in}
use Rattle.term_meaning.specs.UnfoldingSets.{AreTied}
use Rattle.term_meaning.proofs.SeenRules.{mean_named}
use Rattle.term_tables.specs.NetValues.{NetsValue}
use Rattle.msc_tree.specs.Graphs.{Lines, graph}
use Rattle.msc_meaning.specs.Bodies.{WovenItems}
use Rattle.msc_meaning.specs.Calls.{calls}
use Rattle.msc_meaning.specs.ChartUnfoldings.{OfItems, OfWalk, gates_of}
use Rattle.msc_meaning.specs.FarEnds.{Around, Gates}
use Rattle.msc_meaning.specs.InnerEvents.{GateEnd}
use Rattle.msc_meaning.specs.Tables.{Table}
use Rattle.msc_meaning.specs.Ties.{ties}
use Rattle.expansion_tree.specs.Expansions.{events_in}
use Rattle.expansion_tree.specs.Walks.{EachWalk}
use Rattle.expanded_charts.specs.Expanding as expanding
use Rattle.expanded_charts.specs.Expanding.{Expanded, ExpandedParts, NumberedEvent, expand_charts, expand_items, in_row}
use Rattle.expansion_terms.specs.ExpansionTerms.{expansion_term, part_terms}
use Rattle.expanded_terms.specs.ExpandedTerms.{Charts, Leaves, charts_to, items_count, items_shown, items_term}
use Rattle.expanded_terms.specs.ExpansionLaws.{event_by}
use Rattle.expanded_terms.specs.FitBodies.{AreEndsOf, AreFitItems, IsFitTo}
use Rattle.expanded_terms.specs.GraphWalks.{IsGraphWalk}
use Rattle.expanded_terms.specs.NamedEvents.{IsNameable, named_leaves}
use Rattle.expanded_terms.specs.OperandTerms.{IsTermOfTaken, TakenItemsMean, expand_taken}
use Rattle.expanded_terms.specs.Parts.{IsPartFor}
use Rattle.expanded_terms.specs.TagNumbers.{tied_numbers}
use Rattle.expanded_terms.specs.WholeCharts.{AreWholeItems, IsWholeTo}
use Rattle.expanded_terms.proofs.ChartParts as parts
use Rattle.expanded_terms.proofs.EventParts.{event_part}
use Rattle.expanded_terms.proofs.Expanded.{items_are}
use Rattle.expanded_terms.proofs.ExpansionTerms as terms
use Rattle.expanded_terms.proofs.PartRules.{part_below}
use Rattle.expanded_terms.proofs.WalkParts.{AreNodeParts, walk_part}
use Rattle.expanded_terms.proofs.WholeCharts.{charts_fit, items_fit}

module _ (keep : NormalFormsKeepPatterns) (agree : LaterTablesAgree) (fresh : FreshTermsAreSound) (constructors : ConstructorsKeepSoundness) (stays : WalksStayWithin) (walks : TextWalksNet)
    (v : NetsValue) (names : List (List ℕ)) (walk : ℕ → Tree) (table : Table) (ends_of : WovenItems → List GateEnd) (depth : ℕ) (around : Around) (n : ℕ) (held : WovenItems) (pairs : List Pair) (taken : WovenItems)
    (once : Once names) (nets : AreSoundNets (length v.labels) v.tables) where
  abbrev leaves : Leaves
  leaves = named_leaves names v.labels walk

  abbrev IsWalk : ℕ → Shape → List Tree → Type 0
  IsWalk m g nodes = IsGraphWalk v.tables g nodes (walk m)

  abbrev charts : Charts
  charts = charts_to leaves ends_of table depth

  abbrev gates : Gates
  gates = gates_of held (ends_of held)

  abbrev tags : List (Tag × Tag)
  tags = ties held pairs (calls held) (ends_of held)

  abbrev row : ExpandedParts
  row = expand_items (expand_charts ends_of table depth) ends_of gates around n taken

  abbrev Items : Unfolding → Type 0
  Items = OfItems table gates around taken

  tidy : AreTidyTables v.tables
  tidy = tidy_tables (length v.labels) v.tables nets

  walk_known : (m hi : ℕ) (starts : List LabelRef) (lines : Lines) (ys : List Tree) → m ≤ hi → IsWalk m (shape_of (graph starts lines)) ys → AreNodeParts table v names m hi ys lines → IsPartFor v names m hi [] (walk m) (OfWalk table false lines starts)
  walk_known m hi starts lines ys l h ps = walk_part keep agree fresh constructors stays walks table v names once nets m hi l starts lines ys (walk m) ps h

  known : terms.AreOf leaves (terms.row leaves) row (items_term charts leaves ends_of gates around n taken) (items_shown charts gates.calls n taken) (n + items_count charts taken)
  known = terms.items_of leaves ends_of (expand_charts ends_of table depth) charts (terms.charts_are leaves ends_of table depth) gates around n taken

  module _ (whole : AreWholeItems table ends_of (IsWholeTo table ends_of depth) taken) (named : (e : NumberedEvent) → Among e (events_in (in_row row).part) → IsNameable names v.labels e.happening)
      (graphs : EachWalk (λ m g xs. IsGraphWalk v.tables g (part_terms (event_by leaves) walk xs) (walk m)) (in_row row).part) where
    fit : AreFitItems table ends_of leaves (IsNameable names v.labels) IsWalk charts (IsFitTo table ends_of leaves (IsNameable names v.labels) IsWalk depth) gates around n taken
    fit = items_fit table ends_of leaves (IsNameable names v.labels) IsWalk (expand_charts ends_of table depth) charts (terms.charts_are leaves ends_of table depth) (IsWholeTo table ends_of depth)
        (IsFitTo table ends_of leaves (IsNameable names v.labels) IsWalk depth) (charts_fit table ends_of leaves (IsNameable names v.labels) IsWalk depth) gates around n taken whole (named, graphs)

    part : IsPartFor v names n (n + items_count charts taken) (items_shown charts gates.calls n taken) (items_term charts leaves ends_of gates around n taken) Items
    part = items_are keep v names once tidy table ends_of leaves (IsNameable names v.labels) (event_part v names) IsWalk charts (IsFitTo table ends_of leaves (IsNameable names v.labels) IsWalk depth) walk_known
        (parts.charts_are keep v names once tidy table ends_of leaves (IsNameable names v.labels) (event_part v names) IsWalk walk_known depth) gates around n taken fit

    below : IsPartFor v names n (n + items_count charts taken) (past_shown past_level (items_shown charts gates.calls n taken)) (tie_of (items_term charts leaves ends_of gates around n taken) (tied_numbers (items_shown charts gates.calls n taken) tags))
        (AreTied Items (level_tie tags))
    below = part_below keep v names once tidy n (n + items_count charts taken) (items_shown charts gates.calls n taken) (items_term charts leaves ends_of gates around n taken) (level_tie tags) Items part

    term_is : expansion_term (event_by leaves) walk (expand_taken ends_of table depth around n held pairs taken).part ≡ tie_of (items_term charts leaves ends_of gates around n taken) (tied_numbers (items_shown charts gates.calls n taken) tags)
    term_is = (terms.tied_items leaves ends_of (expand_charts ends_of table depth) charts (terms.charts_are leaves ends_of table depth) around n taken gates tags past_level known).term

    taken_mean : IsTermOfTaken v names walk table ends_of depth around n held pairs taken
    taken_mean = record {
      means = subst (λ (x : Tree). MeansUnfoldings v names true x (AreTied Items (level_tie tags))) (sym term_is)
          (mean_named v.labels names (HasPattern (terms_over v.tables) true (tie_of (items_term charts leaves ends_of gates around n taken) (tied_numbers (items_shown charts gates.calls n taken) tags))) (AreTied Items (level_tie tags))
          (tags_in (past_shown past_level (items_shown charts gates.calls n taken))) (below.portion true).mean);
      beyond = λ j b. subst (λ (x : Tree). Lacks (NetLacks v.tables) j x) (sym known.is) (part.beyond j (subst (λ (m : ℕ). IsBeyond n m j) known.next_is b));
    }

pub taken_items_mean : NormalFormsKeepPatterns → LaterTablesAgree → FreshTermsAreSound → ConstructorsKeepSoundness → WalksStayWithin → TextWalksNet → TakenItemsMean
taken_items_mean keep agree fresh constructors stays walks = record {
  is = λ v names walk table ends_of depth around n held pairs taken once nets ends whole named graphs.
      taken_mean keep agree fresh constructors stays walks v names walk table ends_of depth around n held pairs taken once nets whole named graphs;
}
