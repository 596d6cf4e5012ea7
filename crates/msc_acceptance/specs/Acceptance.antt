-- Which documents are accepted, as which table of charts, and the first rule that another document breaks.
use Rattle.std.specs.Prelude.{◌⊎◌, [], List, map}
use Rattle.msc_base.specs.declared.place.Place.{Place}
use Rattle.msc_tree.specs.Charts.{Chart, Document}
use Rattle.msc_rules.specs.declared.rule.Rule.{Rule}
use Rattle.msc_rules.specs.declared.rule.Rule.TheVariants.{Bytes, BadByte, OpenString, OpenNote, LongName, Syntax, Unsupported, TooDeep, Charts, Instances, Nodes, LoopBound, NamedTwice, Undeclared, MissingChart, Recursive, Uncovered, ExpandedNesting, Size, Total, NotShared, OperandsDiffer, ExcPlace, Crossed, Unmatched, NoGate, GateTwice, GateWays, GateSplit, GateOnLoop, DecompositionMismatch, SharedPart, Inside, LocalEvent, UnknownEvent, EventNamedTwice, Cyclic, UnknownLabel, LabelNamedTwice, Endless, CreatePlace, CreateTwice, AfterStop}
use Rattle.msc_rules.specs.FirstFaults.{IsFirstFault, IsFaultless}
use Rattle.msc_rules.specs.Rules.{group_of, number_of}
use Rattle.chart_extents.specs.ExtentRules.{AreTooLarge, IsTooDeep, IsTooLarge}
use Rattle.chart_forms.specs.LoopBounds.{HasHighBound}
use Rattle.chart_links.specs.References.{LeavesUncovered, MissesChart, Recurs}
use Rattle.chart_links.specs.Summaries.{summary_of}
use Rattle.creation_rules.specs.Creating.{ChartCreatesTwice}
use Rattle.creation_rules.specs.Placing.{ChartPlacesCreation}
use Rattle.creation_rules.specs.Stopping.{ChartGoesOn}
use Rattle.graph_rules.specs.GraphRules.{BreakLabels, HasEndlessLine, HasFurtherLine, InGraphs}
use Rattle.level_weaving.specs.Exceptions.{IsMisplaced}
use Rattle.shared_parts.specs.PartRules.{ChartBreaksPartRule}
use Rattle.shared_parts.specs.declared.faults.PartRule.TheVariants as part
use Rattle.msc_meaning.specs.Tables.{Table}
use Rattle.msc_meaning.specs.WovenTables.{IsTableOf}
use Rattle.msc_acceptance.specs.ChartFaults.{BreaksGatesAt, BreaksRefinementAt, CrossesAt, IsAloneAt, IsCyclicAt, IsMisnamedAt}
use Rattle.gate_rules.specs.declared.faults.GateRule.TheVariants as gate
use Rattle.general_ordering.specs.EventNames.{Unknown, Twice}
use Rattle.refinement_rules.specs.Coregions.{HasLocalCoregion}
use Rattle.refinement_rules.specs.declared.faults.RefinementRule.TheVariants as refinement
use Rattle.msc_instances.specs.Instances.{instances}
use Rattle.msc_instances.specs.NameFaults.{ChartNamesOther, ChartNamesTwice}
use Rattle.msc_acceptance.specs.GraphFaults.{charts_graphs, graphs_ending, is_referred}
use Rattle.msc_acceptance.specs.Rules.{InOne, IsFurther, HasFurther, IsNamedAgain}
use Rattle.msc_acceptance.specs.SizedCharts.{OfSizes}

-- the charts break the rule at that place
abbrev pub BreaksOf : List Chart → Rule → Place → Type 0
BreaksOf charts Charts place = IsFurther charts place
BreaksOf charts Instances place = HasFurther [] charts place
BreaksOf charts Nodes place = InGraphs HasFurtherLine (charts_graphs charts) place
BreaksOf charts LoopBound place = InOne HasHighBound charts place
BreaksOf charts NamedTwice place = IsNamedAgain [] charts place ⊎ InOne ChartNamesTwice charts place
BreaksOf charts Undeclared place = InOne ChartNamesOther charts place
BreaksOf charts MissingChart place = MissesChart (map summary_of charts) place
BreaksOf charts Recursive place = Recurs (map summary_of charts) place
BreaksOf charts Uncovered place = LeavesUncovered (map summary_of charts) place
BreaksOf charts ExpandedNesting place = OfSizes charts (λ sized. IsTooDeep sized place)
BreaksOf charts Size place = OfSizes charts (λ sized. IsTooLarge sized place)
BreaksOf charts Total place = OfSizes charts (λ sized. AreTooLarge sized place)
BreaksOf charts NotShared place = InOne (ChartBreaksPartRule part.NotShared) charts place
BreaksOf charts OperandsDiffer place = InOne (ChartBreaksPartRule part.OperandsDiffer) charts place
BreaksOf charts ExcPlace place = InOne IsMisplaced charts place
BreaksOf charts CreatePlace place = InOne ChartPlacesCreation charts place
BreaksOf charts CreateTwice place = InOne ChartCreatesTwice charts place
BreaksOf charts AfterStop place = InOne ChartGoesOn charts place
BreaksOf charts Crossed place = InOne CrossesAt charts place
BreaksOf charts Unmatched place = InOne IsAloneAt charts place
BreaksOf charts NoGate place = BreaksGatesAt gate.NoGate charts place
BreaksOf charts GateTwice place = BreaksGatesAt gate.GateTwice charts place
BreaksOf charts GateWays place = BreaksGatesAt gate.GateWays charts place
BreaksOf charts GateSplit place = BreaksGatesAt gate.GateSplit charts place
BreaksOf charts GateOnLoop place = BreaksGatesAt gate.GateOnLoop charts place
BreaksOf charts DecompositionMismatch place = BreaksRefinementAt refinement.DecompositionMismatch charts place
BreaksOf charts SharedPart place = BreaksRefinementAt refinement.SharedPart charts place
BreaksOf charts Inside place = BreaksRefinementAt refinement.Inside charts place
BreaksOf charts LocalEvent place = InOne HasLocalCoregion charts place ⊎ BreaksRefinementAt refinement.LocalEvent charts place
BreaksOf charts UnknownEvent place = InOne (IsMisnamedAt Unknown) charts place
BreaksOf charts EventNamedTwice place = InOne (IsMisnamedAt Twice) charts place
BreaksOf charts Cyclic place = IsCyclicAt charts place
BreaksOf charts UnknownLabel place = BreakLabels (charts_graphs charts) UnknownLabel place
BreaksOf charts LabelNamedTwice place = BreakLabels (charts_graphs charts) LabelNamedTwice place
BreaksOf charts Endless place = InGraphs HasEndlessLine (graphs_ending (is_referred charts) charts) place
-- rules on bytes, tokens and the grammar, which the reader of a text decides
BreaksOf charts Bytes place = ⊥
BreaksOf charts BadByte place = ⊥
BreaksOf charts OpenString place = ⊥
BreaksOf charts OpenNote place = ⊥
BreaksOf charts LongName place = ⊥
BreaksOf charts Syntax place = ⊥
BreaksOf charts (Unsupported form) place = ⊥
BreaksOf charts TooDeep place = ⊥

-- the document breaks the rule at that place
abbrev pub Breaks : Document → Rule → Place → Type 0
Breaks document = BreaksOf document.charts

-- the first rule that the document breaks, by group, then by place, then by number
pub record HasFault (document : Document) (broken : Rule) (place : Place) : Type 0 where
  pub first : IsFirstFault number_of group_of (Breaks document) (record { rule = broken; place = place })

-- the document breaks no rule, and its text is woven to this table
pub record IsAccepted (document : Document) (table : Table) : Type 0 where
  pub faultless : IsFaultless (Breaks document)
  pub woven : IsTableOf instances document table
