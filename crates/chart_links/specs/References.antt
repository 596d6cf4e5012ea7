-- Which charts lead to which, the expanded instances of a chart, and the places at which references and decompositions break a rule.
-- A name that no chart has leads nowhere, and has no expanded instances.
use Rattle.std.specs.Prelude.{◌≡◌, ◌⊎◌, ℕ, List, [], ◌∷◌}
use Rattle.chart_text.specs.Texts.{Scope, Whole, Within}
use Rattle.msc_base.specs.Lists.{IsAmong}
use Rattle.msc_base.specs.declared.place.Place.{Place}
use Rattle.chart_links.specs.Links.{Link, Refers, Refines, linked, place_of}
use Rattle.chart_links.specs.Summaries.{Summary, IsOwn}

-- one of the charts has that name
pub record IsCalled (charts : List Summary) (name : List ℕ) : Type 0 where
  pub chart : Summary
  pub among : IsAmong charts chart
  pub called : chart.name ≡ name

-- a chart of the first name names the second
pub record Names (charts : List Summary) (from to : List ℕ) : Type 0 where
  pub chart : Summary
  pub among : IsAmong charts chart
  pub called : chart.name ≡ from
  pub link : Link
  pub says : IsAmong chart.links link
  pub is : linked link ≡ to

-- from one name to the next, from the first to the second, which may be the same
pub data Leads (charts : List Summary) : List ℕ → List ℕ → Type 0 where
  there : {name : List ℕ} → Leads charts name name
  onward : {from next to : List ℕ} → Names charts from next → Leads charts next to → Leads charts from to

-- the least sets such that a chart has its own instances, without those that are refined, and those of the charts that it names
pub data IsExpanded (charts : List Summary) : List ℕ → List ℕ → Type 0 where
  own : {name instance : List ℕ} (chart : Summary) → IsAmong charts chart → chart.name ≡ name → IsOwn chart instance → IsExpanded charts name instance
  of_named : {name next instance : List ℕ} → Names charts name next → IsExpanded charts next instance → IsExpanded charts name instance

-- both charts have an expanded instance
pub record HaveCommon (charts : List Summary) (a b : List ℕ) : Type 0 where
  pub instance : List ℕ
  pub first : IsExpanded charts a instance
  pub second : IsExpanded charts b instance

-- the instance is covered
abbrev pub Covers : Scope → List ℕ → Type 0
Covers Whole instance = Unit {0}
Covers (Within names) instance = IsAmong names instance

-- an expanded instance of the chart of that name is an instance of the caller, and not covered
pub record Uncovers (charts : List Summary) (caller : Summary) (name : List ℕ) (cover : Scope) : Type 0 where
  pub instance : List ℕ
  pub expanded : IsExpanded charts name instance
  pub mine : IsAmong caller.instances instance
  pub outside : Covers cover instance → ⊥

-- ---- rules on one link of a chart

-- no chart has the name
abbrev pub LinkMisses : List Summary → Summary → Link → Type 0
LinkMisses charts caller link = IsCalled charts (linked link) → ⊥

-- the chart leads back to the one in which the link stands
abbrev pub LinkRecurs : List Summary → Summary → Link → Type 0
LinkRecurs charts caller link = Leads charts (linked link) caller.name

-- a reference leaves an instance uncovered
abbrev pub LinkUncovers : List Summary → Summary → Link → Type 0
LinkUncovers charts caller (Refers chart place scope depth) = Uncovers charts caller chart scope
LinkUncovers charts caller (Refines instance chart place) = ⊥

-- ---- where rules are broken

-- at that place a link stands of which it holds
abbrev pub AtLink : (Link → Type 0) → List Link → Place → Type 0
AtLink Holds [] place = ⊥
AtLink Holds (link ∷ links) place = ((place_of link ≡ place) × Holds link) ⊎ AtLink Holds links place

-- in one of the charts
abbrev pub AtLinks : (Summary → Link → Type 0) → List Summary → Place → Type 0
AtLinks Holds [] place = ⊥
AtLinks Holds (chart ∷ charts) place = AtLink (Holds chart) chart.links place ⊎ AtLinks Holds charts place

abbrev pub MissesChart : List Summary → Place → Type 0
MissesChart charts place = AtLinks (LinkMisses charts) charts place

abbrev pub Recurs : List Summary → Place → Type 0
Recurs charts place = AtLinks (LinkRecurs charts) charts place

abbrev pub LeavesUncovered : List Summary → Place → Type 0
LeavesUncovered charts place = AtLinks (LinkUncovers charts) charts place
