-- Where decomposed instances and the charts that refine them break a rule (Z.120, clause 7.4). What the charts' texts say of each other gives
-- their expanded instances.
use Rattle.std.specs.Prelude.{◌≡◌, ◌⊎◌, true, ℕ, List, [], ◌∷◌, ◌++◌, Option, None, Some}
use Rattle.msc_base.specs.Lists.{IsAmong}
use Rattle.msc_base.specs.declared.label.Kind.{Kind}
use Rattle.msc_base.specs.declared.place.Place.{Place}
use Rattle.msc_tree.specs.declared.chart.Decl.{Decl}
use Rattle.msc_meaning.specs.Bodies.{EventNode, Body, level, WovenItems, no_items, item_and, WovenItem, Single, Coregion, Inline, Refer, events, item_list}
use Rattle.msc_meaning.specs.Refinements.{is_env}
use Rattle.msc_meaning.specs.Tables.{Table, ChartEntry, chart_at, body_at, Woven, Basic, HighLevel, refined_as, refinements}
use Rattle.chart_forms.specs.BodyEvents.{events_within, operands_within}
use Rattle.chart_links.specs.References.{HaveCommon, IsExpanded, Leads}
use Rattle.chart_links.specs.Summaries.{Summary}
use Rattle.gate_ends.specs.FoundEnds.{level_names}
use Rattle.gate_ends.specs.LevelGates.{items_in}
use Rattle.refined_events.specs.Mismatches.{Mismatches}
use Rattle.refinement_rules.specs.PlainEvents.{is_plain}
use Rattle.refinement_rules.specs.declared.faults.RefinementRule.{RefinementRule}
use Rattle.refinement_rules.specs.declared.faults.RefinementRule.TheVariants as rule

-- the instances that a body covers
abbrev pub covered : Body → List (List ℕ)
covered (level cover held pairs) = cover

-- the events of its outermost level
abbrev pub own_events : Option Body → List EventNode
own_events None = []
own_events (Some b) = events (items_in b)

-- ---- decomposed instance shared

-- the instances that an inline expression or a reference covers
abbrev pub item_cover : WovenItem → List (List ℕ)
item_cover (Single n) = []
item_cover (Coregion ns) = []
item_cover (Inline form part operands) = part.cover
item_cover (Refer part) = part.cover

-- one of the items covers the instance and another
pub record IsShared (held : WovenItems) (instance : List ℕ) : Type 0 where
  pub item : WovenItem
  pub among : IsAmong (item_list held) item
  pub own : IsAmong (item_cover item) instance
  pub other : List ℕ
  pub besides : IsAmong (item_cover item) other
  pub differs : other ≡ instance → ⊥

-- an item covers the instance and another; or an expanded instance of the refining chart is one of the chart's own instances that isn't
-- decomposed, an expanded instance of a chart that it references, or one of the chart that refines another of its instances
pub data SharesPart (charts : List Summary) (c : ChartEntry) (body : Body) (instance chart : List ℕ) : Type 0 where
  by_item : IsShared (items_in body) instance → SharesPart charts c body instance chart
  by_own : (own : List ℕ) → IsAmong (covered body) own → refined_as c.decls own ≡ None → IsExpanded charts chart own → SharesPart charts c body instance chart
  by_reference : (name : List ℕ) → IsAmong (level_names body) name → HaveCommon charts chart name → SharesPart charts c body instance chart
  by_other : (decl : Decl) (name : List ℕ) → IsAmong c.decls decl → (decl.name ≡ instance → ⊥) → decl.refined ≡ Some name → HaveCommon charts chart name → SharesPart charts c body instance chart

-- ---- decomposition inside

-- the events in the operands of items
abbrev pub operand_events : WovenItems → List EventNode
operand_events no_items = []
operand_events (item_and (Single n) xs) = operand_events xs
operand_events (item_and (Coregion ns) xs) = operand_events xs
operand_events (item_and (Inline form part operands) xs) = operands_within operands ++ operand_events xs
operand_events (item_and (Refer part) xs) = operand_events xs

-- one of the events is written with the environment as its other end
pub record HasEnv (ns : List EventNode) : Type 0 where
  pub event : EventNode
  pub among : IsAmong ns event
  pub env : is_env event.event.target ≡ true

-- the chart is no basic chart, has a decomposed instance, or has in its expansion an event with the environment that isn't at its outermost
-- level
pub data IsInside (charts : List Summary) (table : Table) (chart : List ℕ) : Type 0 where
  is_graph : body_at table chart ≡ None → IsInside charts table chart
  is_refined : (entry : ChartEntry) → chart_at table chart ≡ Some entry → (refinements entry.decls ≡ [] → ⊥) → IsInside charts table chart
  in_operand : (body : Body) → body_at table chart ≡ Some body → HasEnv (operand_events (items_in body)) → IsInside charts table chart
  in_other : (other : List ℕ) (body : Body) → (other ≡ chart → ⊥) → Leads charts chart other → body_at table other ≡ Some body → HasEnv (events_within body) → IsInside charts table chart

-- ---- local event

-- at that place a single event of the instance stands that is no plain message event
pub record IsLocalEvent (held : WovenItems) (instance : List ℕ) (place : Place) : Type 0 where
  pub event : EventNode
  pub among : IsAmong (item_list held) (Single event)
  pub own : event.at ≡ instance
  pub plain : is_plain event.event ≡ true → ⊥
  pub stands : event.event.place ≡ place

abbrev pub item_place : WovenItem → Option Place
item_place (Single n) = None
item_place (Coregion ns) = None
item_place (Inline form part operands) = Some part.place
item_place (Refer part) = Some part.place

-- or an inline expression or a reference that covers it
pub record IsLocalPart (held : WovenItems) (instance : List ℕ) (place : Place) : Type 0 where
  pub item : WovenItem
  pub among : IsAmong (item_list held) item
  pub own : IsAmong (item_cover item) instance
  pub stands : item_place item ≡ Some place

-- ---- rules

-- so it is of the instance, which the chart refines, as is said at the first place
abbrev pub BreaksAt : List Summary → Table → RefinementRule → ChartEntry → Body → List ℕ → List ℕ → Place → Place → Type 0
BreaksAt charts table rule.DecompositionMismatch c body instance chart stands place = (stands ≡ place) × Mismatches instance (events (items_in body)) (own_events (body_at table chart))
BreaksAt charts table rule.SharedPart c body instance chart stands place = (stands ≡ place) × SharesPart charts c body instance chart
BreaksAt charts table rule.Inside c body instance chart stands place = (stands ≡ place) × IsInside charts table chart
BreaksAt charts table rule.LocalEvent c body instance chart stands place = IsLocalEvent (items_in body) instance place ⊎ IsLocalPart (items_in body) instance place

-- at that place a decomposition of a basic chart of the table breaks the rule
pub record BreaksRefinementRule (charts : List Summary) (table : Table) (rule : RefinementRule) (place : Place) : Type 0 where
  pub chart : ChartEntry
  pub among : IsAmong table chart
  pub body : Body
  pub is : chart.content ≡ Basic body
  pub decl : Decl
  pub declares : IsAmong chart.decls decl
  pub refining : List ℕ
  pub refines : decl.refined ≡ Some refining
  pub breaks : BreaksAt charts table rule chart body decl.name refining decl.place place
