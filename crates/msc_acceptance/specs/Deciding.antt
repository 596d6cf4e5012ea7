-- Serves private contracts alone.
-- What a document comes to: its table, or its first fault.
use Rattle.std.specs.Prelude.{◌≡◌, ◌⊎◌, ⊤, Bool, true, List, [], ◌∷◌, ◌++◌, Option, None, Some, map}
use Rattle.msc_base.specs.Lists.{IsAmong}
use Rattle.msc_base.specs.Places.{IsLeast, earliest}
use Rattle.msc_base.specs.declared.limits.TheConstants.Limits.{EXPANDED_NESTING}
use Rattle.msc_base.specs.declared.place.Place.{Place}
use Rattle.msc_tree.specs.Charts.{Chart}
use Rattle.msc_tree.specs.Charts as tree
use Rattle.msc_tree.specs.Statements.{Statement, statements}
use Rattle.msc_rules.specs.FirstFaults.{Keeps, IsFirst}
use Rattle.msc_rules.specs.Rules.{number_of}
use Rattle.msc_rules.specs.declared.rule.Rule.{Rule}
use Rattle.msc_rules.specs.declared.rule.Rule.TheVariants.{Charts, Instances, Nodes, LoopBound, NamedTwice, Undeclared, MissingChart, Recursive, Uncovered, ExpandedNesting, Size, Total, NotShared, OperandsDiffer, ExcPlace, CreatePlace, CreateTwice, AfterStop, Crossed, Unmatched, NoGate, GateTwice, GateWays, GateSplit, GateOnLoop, DecompositionMismatch, SharedPart, Inside, LocalEvent, UnknownEvent, EventNamedTwice, Cyclic, Endless}
use Rattle.msc_meaning.specs.Bodies.{Body}
use Rattle.msc_meaning.specs.Pieces.{statements_pieces}
use Rattle.msc_meaning.specs.Tables.{Table}
use Rattle.msc_meaning.specs.Views.{entry_view, table_view}
use Rattle.msc_meaning.specs.WovenTables.{AreEntriesOf, IsEntryOf}
use Rattle.msc_acceptance.specs.ChartFaults.{CrossesAt, IsAloneAt, IsMisnamedAt}
use Rattle.gate_rules.specs.GateRules.{BreaksGateRule}
use Rattle.gate_rules.specs.declared.faults.GatePlaces.{GatePlaces}
use Rattle.gate_rules.specs.declared.faults.GateRule.TheVariants as gate
use Rattle.general_ordering.specs.EventNames.{Unknown, Twice}
use Rattle.msc_acceptance.specs.declared.tables.BodyFaults.{BodyFaults}
use Rattle.msc_instances.specs.NameFaults.{ChartNamesOther, ChartNamesTwice}
use Rattle.msc_instances.specs.Instances.{instances}
use Rattle.chart_cycles.specs.Cycles.{AreOrdered, TellCycles}
use Rattle.chart_extents.specs.Extents.{IsExtentOf, Sized}
use Rattle.chart_extents.specs.declared.extent.Extent.{Extent}
use Rattle.chart_forms.specs.LoopBounds.{HasHighBound}
use Rattle.chart_forms.specs.TiedTexts.{is_tied_text}
use Rattle.chart_text.specs.Texts.{chart_text}
use Rattle.creation_rules.specs.Creating.{ChartCreatesTwice}
use Rattle.creation_rules.specs.Placing.{ChartPlacesCreation}
use Rattle.creation_rules.specs.Stopping.{ChartGoesOn}
use Rattle.graph_rules.specs.GraphRules.{labels}
use Rattle.level_weaving.specs.Exceptions.{IsMisplaced}
use Rattle.level_weaving.specs.WeaveFaults.{IsLevelFault, IsLevelWoven}
use Rattle.level_weaving.specs.declared.weaving.WeaveFault.{WeaveFault}
use Rattle.shared_parts.specs.PartRules.{ChartBreaksPartRule}
use Rattle.shared_parts.specs.declared.faults.PartRule.TheVariants as part
use Rattle.msc_rules.specs.declared.first_fault.Broken.{Broken}
use Rattle.msc_acceptance.specs.declared.parts.PartPlaces.{PartPlaces}
use Rattle.msc_acceptance.specs.declared.deciding.Decision.{Decision}
use Rattle.msc_acceptance.specs.declared.deciding.Decision.TheVariants as decision
use Rattle.msc_acceptance.specs.declared.tables.Weaving.{Weaving}
use Rattle.msc_acceptance.specs.declared.tables.ChartResult.{ChartResult}
use Rattle.msc_acceptance.specs.declared.tables.ChartResult.TheVariants as one
use Rattle.msc_acceptance.specs.declared.reading.Reading.{Reading}
use Rattle.msc_acceptance.specs.declared.reading.TextPlaces.{TextPlaces}
use Rattle.msc_acceptance.specs.SingleItems.{is_single_chart}
use Rattle.msc_acceptance.specs.Acceptance.{BreaksOf}
use Rattle.msc_acceptance.specs.RefinedTexts.{is_refined_chart}
use Rattle.msc_acceptance.specs.Rules.{InOne}
use Rattle.refinement_rules.specs.Coregions.{HasLocalCoregion}
use Rattle.msc_acceptance.specs.SizedCharts.{OfSizes}

-- ---- groups of rules

abbrev pub limits : List Rule
limits = Charts ∷ Instances ∷ Nodes ∷ LoopBound ∷ []

abbrev pub names : List Rule
names = NamedTwice ∷ Undeclared ∷ []

abbrev pub references : List Rule
references = MissingChart ∷ Recursive ∷ Uncovered ∷ []

abbrev pub sizes : List Rule
sizes = ExpandedNesting ∷ Size ∷ Total ∷ []

abbrev pub creations : List Rule
creations = CreatePlace ∷ CreateTwice ∷ AfterStop ∷ []

abbrev pub parts : List Rule
parts = NotShared ∷ OperandsDiffer ∷ ExcPlace ∷ creations

abbrev pub columns : List Rule
columns = Crossed ∷ []

abbrev pub messages : List Rule
messages = Unmatched ∷ []

abbrev pub gates : List Rule
gates = NoGate ∷ GateTwice ∷ GateWays ∷ GateSplit ∷ GateOnLoop ∷ []

abbrev pub decompositions : List Rule
decompositions = DecompositionMismatch ∷ SharedPart ∷ Inside ∷ LocalEvent ∷ []

abbrev pub event_names : List Rule
event_names = UnknownEvent ∷ EventNamedTwice ∷ []

abbrev pub cycles : List Rule
cycles = Cyclic ∷ []

abbrev pub endings : List Rule
endings = Endless ∷ []

-- the rules on the text
abbrev pub text_groups : List (List Rule)
text_groups = limits ∷ names ∷ references ∷ sizes ∷ parts ∷ []

-- of these, the rules on what charts name
abbrev pub link_groups : List (List Rule)
link_groups = references ∷ sizes ∷ []

-- the rules on what charts are woven to, one by one
abbrev pub body_groups : List (List Rule)
body_groups = columns ∷ messages ∷ []

-- and together: up to the names of events
abbrev pub gate_groups : List (List Rule)
gate_groups = gates ∷ decompositions ∷ event_names ∷ []

-- and the order
abbrev pub table_groups : List (List Rule)
table_groups = gate_groups ++ (cycles ∷ [])

-- the rules on graphs, behind all others
abbrev pub graph_groups : List (List Rule)
graph_groups = labels ∷ endings ∷ []

abbrev pub all_groups : List (List Rule)
all_groups = text_groups ++ (body_groups ++ (table_groups ++ graph_groups))

abbrev pub AllKept : (Rule → Place → Type 0) → List (List Rule) → Type 0
AllKept Breaks [] = ⊤
AllKept Breaks (rules ∷ others) = Keeps Breaks rules × AllKept Breaks others

-- the first fault by these groups, or none
abbrev pub IsFirstOf : List Chart → List (List Rule) → Option (Broken Rule) → Type 0
IsFirstOf charts groups None = AllKept (BreaksOf charts) groups
IsFirstOf charts groups (Some fault) = IsFirst number_of (BreaksOf charts) groups fault

-- ---- rules that a chart breaks by itself

-- the earlier of two places
abbrev pub earlier_of : Option Place → Option Place → Option Place
earlier_of a None = a
earlier_of a (Some p) = earliest a p

-- the earliest places at which a chart breaks the rules that are read with its instances
pub record AreOwnTexts (chart : Chart) (places : TextPlaces) : Type 0 where
  pub high_bound : IsLeast (HasHighBound chart) places.high_bound
  pub twice : IsLeast (ChartNamesTwice chart) places.twice
  pub undeclared : IsLeast (ChartNamesOther chart) places.undeclared
  pub creation : IsLeast (ChartPlacesCreation chart) places.creation
  pub child : IsLeast (ChartCreatesTwice chart) places.child
  pub behind : IsLeast (ChartGoesOn chart) places.behind
  pub coregion : IsLeast (HasLocalCoregion chart) places.coregion

-- the earliest places at which one of the charts breaks them
pub record AreTextPlaces (charts : List Chart) (places : TextPlaces) : Type 0 where
  pub high_bound : IsLeast (InOne HasHighBound charts) places.high_bound
  pub twice : IsLeast (InOne ChartNamesTwice charts) places.twice
  pub undeclared : IsLeast (InOne ChartNamesOther charts) places.undeclared
  pub creation : IsLeast (InOne ChartPlacesCreation charts) places.creation
  pub child : IsLeast (InOne ChartCreatesTwice charts) places.child
  pub behind : IsLeast (InOne ChartGoesOn charts) places.behind
  pub coregion : IsLeast (InOne HasLocalCoregion charts) places.coregion

-- that is read of the charts
pub record IsReading (charts : List Chart) (reading : Reading) : Type 0 where
  pub lists : reading.lists ≡ map instances charts
  pub stands : reading.stands ≡ map (λ (c : Chart). c.place) charts
  pub singles : reading.singles ≡ map is_single_chart charts
  pub tied : reading.tied ≡ map (λ (c : Chart). is_tied_text (chart_text c)) charts
  pub refined : reading.refined ≡ map is_refined_chart charts
  pub places : AreTextPlaces charts reading.places

-- the earliest places at which a chart breaks the rules on parts
pub record AreOwnPlaces (chart : Chart) (places : PartPlaces) : Type 0 where
  pub unshared : IsLeast (ChartBreaksPartRule part.NotShared chart) places.unshared
  pub differing : IsLeast (ChartBreaksPartRule part.OperandsDiffer chart) places.differing
  pub misplaced : IsLeast (IsMisplaced chart) places.misplaced

-- the earliest places at which one of the charts breaks them
pub record ArePartPlaces (charts : List Chart) (places : PartPlaces) : Type 0 where
  pub unshared : IsLeast (InOne (ChartBreaksPartRule part.NotShared) charts) places.unshared
  pub differing : IsLeast (InOne (ChartBreaksPartRule part.OperandsDiffer) charts) places.differing
  pub misplaced : IsLeast (InOne IsMisplaced charts) places.misplaced

-- ---- the table

-- the chart has these statements, and is woven to the body: no columns cross, and each message has both ends
pub record IsWovenTo (chart : Chart) (body : Body) : Type 0 where
  pub held : List Statement
  pub is : chart.content ≡ tree.Basic held
  pub woven : IsLevelWoven (instances chart) (statements_pieces (instances chart) 0 (statements held)) body

-- it has these statements, and that is why they aren't woven
pub record IsWeaveFault (chart : Chart) (fault : WeaveFault) : Type 0 where
  pub held : List Statement
  pub is : chart.content ≡ tree.Basic held
  pub fault_is : IsLevelFault (instances chart) (statements_pieces (instances chart) 0 (statements held)) fault

-- no columns cross, and no message lacks a partner
abbrev pub IsWhole : BodyFaults → Type 0
IsWhole faults = (faults.crossed ≡ None) × (faults.alone ≡ None)

-- the earliest places at which a chart breaks the rules on what it is woven to: where columns cross it has no body, and where a message
-- lacks its partner its other rules aren't looked at
pub record AreFaultsOf (chart : Chart) (faults : BodyFaults) : Type 0 where
  pub crossed : IsLeast (CrossesAt chart) faults.crossed
  pub alone : faults.crossed ≡ None → IsLeast (IsAloneAt chart) faults.alone
  pub unknown : IsWhole faults → IsLeast (IsMisnamedAt Unknown chart) faults.unknown
  pub twice : IsWhole faults → IsLeast (IsMisnamedAt Twice chart) faults.twice

-- it has no entry, and that is why
abbrev pub IsBarred : Chart → BodyFaults → Type 0
IsBarred chart faults = (IsWhole faults → ⊥) × AreFaultsOf chart faults

-- what one chart is woven to: its entry, with the places where this breaks a rule; or where it breaks a rule so that
-- it has none
abbrev pub IsNextWoven : Chart → ChartResult → Type 0
IsNextWoven chart (one.Entry entry faults) = IsEntryOf (instances chart) chart (entry_view entry) × AreFaultsOf chart faults
IsNextWoven chart (one.Barred faults) = IsBarred chart faults

-- the earlier places of both
pub record AreEarlier (a b c : BodyFaults) : Type 0 where
  pub crossed : c.crossed ≡ earlier_of a.crossed b.crossed
  pub alone : c.alone ≡ earlier_of a.alone b.alone
  pub unknown : c.unknown ≡ earlier_of a.unknown b.unknown
  pub twice : c.twice ≡ earlier_of a.twice b.twice

-- what a chart is woven to is taken in
abbrev pub IsTakenIn : Weaving → ChartResult → Weaving → Type 0
IsTakenIn old (one.Entry entry found) new = AreEarlier old.faults found new.faults × (new.entries.items ≡ old.entries.items ++ entry ∷ [])
IsTakenIn old (one.Barred found) new = AreEarlier old.faults found new.faults

-- the earliest places at which one of the charts breaks these rules
pub record AreFaultsIn (charts : List Chart) (faults : BodyFaults) : Type 0 where
  pub crossed : IsLeast (InOne CrossesAt charts) faults.crossed
  pub alone : faults.crossed ≡ None → IsLeast (InOne IsAloneAt charts) faults.alone
  pub unknown : IsWhole faults → IsLeast (InOne (IsMisnamedAt Unknown) charts) faults.unknown
  pub twice : IsWhole faults → IsLeast (InOne (IsMisnamedAt Twice) charts) faults.twice

-- what the charts are woven to: the earliest places at which they break a rule, and where each has a body their entries
pub record AreWoven (charts : List Chart) (made : Weaving) : Type 0 where
  pub faults : AreFaultsIn charts made.faults
  pub entries : IsWhole made.faults → AreEntriesOf instances charts (table_view made.entries.items)

-- ---- charts that name others

-- each comes to so much
abbrev pub HaveExtents : List Sized → Type 0
HaveExtents charts = (chart : Sized) → IsAmong charts chart → (all : Extent) × IsExtentOf charts chart all

-- the flag is set of a chart that stands there
abbrev pub IsFlagged : List Place → List Bool → Place → Type 0
IsFlagged [] flags place = ⊥
IsFlagged (p ∷ stands) [] place = ⊥
IsFlagged (p ∷ stands) (flag ∷ flags) place = ((p ≡ place) × (flag ≡ true)) ⊎ IsFlagged stands flags place

-- of these charts the earliest whose order is cyclic stands there, or none is
pub record TellsEarliest (table : Table) (stands : List Place) (place : Option Place) : Type 0 where
  pub flags : List Bool
  pub told : TellCycles table EXPANDED_NESTING table flags
  pub least : IsLeast (IsFlagged stands flags) place

-- the earliest places at which the charts of the table break the rules on gates
pub record AreGatePlaces (table : Table) (places : GatePlaces) : Type 0 where
  pub no_gate : IsLeast (BreaksGateRule table gate.NoGate) places.no_gate
  pub twice : IsLeast (BreaksGateRule table gate.GateTwice) places.twice
  pub ways : IsLeast (BreaksGateRule table gate.GateWays) places.ways
  pub split : IsLeast (BreaksGateRule table gate.GateSplit) places.split
  pub on_loop : IsLeast (BreaksGateRule table gate.GateOnLoop) places.on_loop

-- the charts are these entries, which keep the rules of these groups; or their first fault by these
abbrev pub IsSettled : List (List Rule) → List Chart → Table → Decision → Type 0
IsSettled groups charts table (decision.Accepted accepted) = (table_view accepted ≡ table) × AreOrdered table EXPANDED_NESTING table × AllKept (BreaksOf charts) groups
IsSettled groups charts table (decision.Faulty fault) = IsFirst number_of (BreaksOf charts) groups fault

-- ---- the document

-- of charts that keep all rules the entries, whose events can happen in an order, and what each chart comes to; or their first fault
abbrev pub IsDecided : List Chart → Decision → Type 0
IsDecided charts (decision.Accepted accepted) =
    AllKept (BreaksOf charts) all_groups × AreEntriesOf instances charts (table_view accepted) × AreOrdered (table_view accepted) EXPANDED_NESTING (table_view accepted) × OfSizes charts HaveExtents
IsDecided charts (decision.Faulty fault) = IsFirst number_of (BreaksOf charts) all_groups fault
