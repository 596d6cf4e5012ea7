-- Serves private contracts alone.
-- Where decompositions break a rule, by the numbers of charts and instances.
use Rattle.std.specs.Prelude.{◌≡◌, ◌⊎◌, ℕ, Bool, true, false, not, ◌&&◌, ◌||◌, List, [], ◌∷◌, Option, None, Some}
use Rattle.std.specs.List.{list_any}
use Rattle.std.specs.Option.{is_some}
use Rattle.std.specs.Str.{bytes_eq}
use Rattle.bit_sets.specs.Blocks.{has_bit}
use Rattle.chart_forms.specs.BodyEvents.{events_within, operands_within}
use Rattle.chart_links.specs.Rows.{RowHas}
use Rattle.chart_links.specs.Sets.{HasExpanded}
use Rattle.chart_links.specs.Tables.{IsNumber}
use Rattle.gate_ends.specs.FoundEnds.{level_names}
use Rattle.gate_ends.specs.LevelGates.{items_in}
use Rattle.msc_base.specs.Lists.{IsAmong}
use Rattle.msc_base.specs.declared.place.Place.{Place}
use Rattle.msc_meaning.specs.Bodies.{EventNode, Body, WovenItems, no_items, item_and, WovenItem, Single, Coregion, Inline, Refer, events, item_list}
use Rattle.msc_meaning.specs.Refinements.{is_env}
use Rattle.msc_meaning.specs.Tables.{Table, ChartEntry, Woven, Basic, HighLevel, body_at, chart_at}
use Rattle.msc_tree.specs.declared.chart.Decl.{Decl}
use Rattle.refined_events.specs.Mismatches.{Mismatches}
use Rattle.refinement_rules.specs.PlainEvents.{is_plain}
use Rattle.refinement_rules.specs.RefinementRules.{IsShared, covered, own_events}
use Rattle.refinement_rules.specs.Walks.{OneHolds}
use Rattle.refinement_rules.specs.declared.faults.RefinementRule.{RefinementRule}
use Rattle.refinement_rules.specs.declared.faults.RefinementRule.TheVariants as rule

-- ---- declarations

-- it holds of the chart that refines, where one does
abbrev pub OfRefining : (List ℕ → Type 0) → Option (List ℕ) → Type 0
OfRefining Holds None = ⊥
OfRefining Holds (Some chart) = Holds chart

-- the declaration says that the instance is decomposed
abbrev pub Decomposes : Decl → List ℕ → Type 0
Decomposes d name = OfRefining (λ chart. Unit {0}) d.refined × (d.name ≡ name)

-- at that place the declaration says that a chart refines an instance of which it holds
abbrev pub DeclHolds : (List ℕ → List ℕ → Type 0) → Decl → Place → Type 0
DeclHolds Holds d place = (d.place ≡ place) × OfRefining (Holds d.name) d.refined

-- one of the declarations does
abbrev pub some_refined : List Decl → Bool
some_refined decls = list_any (λ (d : Decl). is_some d.refined) decls

abbrev pub some_chart_refined : Table → Bool
some_chart_refined table = list_any (λ (c : ChartEntry). some_refined c.decls) table

-- ---- mismatch

abbrev pub MismatchBy : Table → WovenItems → List ℕ → List ℕ → Type 0
MismatchBy table held instance chart = Mismatches instance (events held) (own_events (body_at table chart))

-- ---- shared

-- two of the names differ
abbrev pub has_two : List (List ℕ) → Bool
has_two [] = false
has_two (n ∷ ns) = list_any (λ m. not (bytes_eq n m)) ns

-- the instance has the number, and isn't decomposed
abbrev pub OwnNumber : List (List ℕ) → (List ℕ → Type 0) → List ℕ → ℕ → Type 0
OwnNumber known Refined own n = (Refined own → ⊥) × IsNumber known own n

-- two rows have the number
pub record IsTwice (rows : List (List ℕ)) (n : ℕ) : Type 0 where
  pub one : ℕ
  pub other : ℕ
  pub differs : one ≡ other → ⊥
  pub first : RowHas rows one n
  pub second : RowHas rows other n

-- the declared instance has the first number, and the chart that refines it the second
abbrev pub DeclNumber : List (List ℕ) → List (List ℕ) → List (List ℕ) → Decl → (ℕ × ℕ) → Type 0
DeclNumber names expanded refined d p = OfRefining (λ chart. IsNumber refined d.name p.0 × HasExpanded names expanded chart p.1) d.refined

-- charts that refine two instances have it
pub record IsDouble (names expanded : List (List ℕ)) (decls : List Decl) (n : ℕ) : Type 0 where
  pub one : Decl
  pub other : Decl
  pub one_among : IsAmong decls one
  pub other_among : IsAmong decls other
  pub differs : one.name ≡ other.name → ⊥
  pub first : OfRefining (λ chart. HasExpanded names expanded chart n) one.refined
  pub second : OfRefining (λ chart. HasExpanded names expanded chart n) other.refined

-- the number is that of an instance that takes part elsewhere in the chart than in one refining chart alone
abbrev pub IsTaken : List (List ℕ) → List (List ℕ) → List (List ℕ) → List Decl → Body → ℕ → Type 0
IsTaken names known expanded decls body n =
    OneHolds (OwnNumber known (OneHolds Decomposes decls)) (covered body) n ⊎ (OneHolds (HasExpanded names expanded) (level_names body) n ⊎ IsDouble names expanded decls n)

-- the chart has one
pub record HasTaken (names known expanded : List (List ℕ)) (decls : List Decl) (body : Body) (chart : List ℕ) : Type 0 where
  pub number : ℕ
  pub there : HasExpanded names expanded chart number
  pub taken : IsTaken names known expanded decls body number

abbrev pub SharedBy : List (List ℕ) → List (List ℕ) → List (List ℕ) → List Decl → Body → List ℕ → List ℕ → Type 0
SharedBy names known expanded decls body instance chart = IsShared (items_in body) instance ⊎ HasTaken names known expanded decls body chart

-- an item covers the instance, which is decomposed, and another
abbrev pub PartShares : (List ℕ → Type 0) → List (List ℕ) → List ℕ → Type 0
PartShares Refined cover name = IsAmong cover name × Refined name × (has_two cover ≡ true)

abbrev pub ItemShares : (List ℕ → Type 0) → WovenItem → List ℕ → Type 0
ItemShares Refined (Single n) name = ⊥
ItemShares Refined (Coregion ns) name = ⊥
ItemShares Refined (Inline form part operands) name = PartShares Refined part.cover name
ItemShares Refined (Refer part) name = PartShares Refined part.cover name

-- ---- inside

-- one of the events is written with the environment as its other end
abbrev pub some_env : List EventNode → Bool
some_env ns = list_any (λ (n : EventNode). is_env n.event.target) ns

abbrev pub env_within : Option Body → Bool
env_within None = false
env_within (Some b) = some_env (events_within b)

-- the chart has the number, and such an event at any depth
abbrev pub EnvNumber : Table → List (List ℕ) → ChartEntry → ℕ → Type 0
EnvNumber table names c n = (env_within (body_at table c.name) ≡ true) × IsNumber names c.name n

-- an operand of an item has one
abbrev pub operand_env : WovenItem → Bool
operand_env (Single n) = false
operand_env (Coregion ns) = false
operand_env (Inline form part operands) = some_env (operands_within operands)
operand_env (Refer part) = false

abbrev pub operands_env : WovenItems → Bool
operands_env no_items = false
operands_env (item_and x xs) = operand_env x || operands_env xs

-- what a chart is, is a graph, or has such an event in an operand
abbrev pub inside_content : Woven → Bool
inside_content (Basic body) = operands_env (items_in body)
inside_content (HighLevel drawn) = true

-- there is no chart, or it is one such, or has a decomposed instance
abbrev pub inside_entry : Option ChartEntry → Bool
inside_entry None = true
inside_entry (Some c) = some_refined c.decls || inside_content c.content

-- it leads to another that has an event with the environment
pub record LeadsToEnv (table : Table) (names reach : List (List ℕ)) (chart : List ℕ) : Type 0 where
  pub from : ℕ
  pub from_is : IsNumber names chart from
  pub number : ℕ
  pub other : number ≡ from → ⊥
  pub there : RowHas reach from number
  pub env : OneHolds (EnvNumber table names) table number

abbrev pub InsideBy : Table → List (List ℕ) → List (List ℕ) → List ℕ → Type 0
InsideBy table names reach chart = (inside_entry (chart_at table chart) ≡ true) ⊎ LeadsToEnv table names reach chart

-- the chart has the name, and is one such
abbrev pub EntryInside : Table → List (List ℕ) → List (List ℕ) → ChartEntry → List ℕ → Type 0
EntryInside table names reach c name = (c.name ≡ name) × InsideBy table names reach name

-- the table has no chart of the name, or it is among those
abbrev pub InsideIn : List (List ℕ) → List (List ℕ) → List ℕ → List ℕ → Type 0
InsideIn names inside instance chart = (IsAmong names chart → ⊥) ⊎ IsAmong inside chart

-- ---- local

-- one of the names is among those
abbrev pub some_among : List (List ℕ) → List (List ℕ) → Bool
some_among refined names = list_any (λ n. list_any (bytes_eq n) refined) names

-- an item in the column of an instance that is decomposed is no plain message event
pub record CoversRefined (Refined : List ℕ → Type 0) (cover : List (List ℕ)) : Type 0 where
  pub name : List ℕ
  pub among : IsAmong cover name
  pub refined : Refined name

abbrev pub ItemLocal : (List ℕ → Type 0) → WovenItem → Place → Type 0
ItemLocal Refined (Single n) place = (n.event.place ≡ place) × (Refined n.at × (is_plain n.event ≡ false))
ItemLocal Refined (Coregion ns) place = ⊥
ItemLocal Refined (Inline form part operands) place = (part.place ≡ place) × CoversRefined Refined part.cover
ItemLocal Refined (Refer part) place = (part.place ≡ place) × CoversRefined Refined part.cover

-- ---- charts

-- where a basic chart of these declarations breaks the rules
module _ (table : Table) (names known reach expanded : List (List ℕ)) where
  abbrev pub BodyBreaks : RefinementRule → List Decl → Body → Place → Type 0
  BodyBreaks rule.DecompositionMismatch decls body place = OneHolds (DeclHolds (MismatchBy table (items_in body))) decls place
  BodyBreaks rule.SharedPart decls body place = OneHolds (DeclHolds (SharedBy names known expanded decls body)) decls place
  BodyBreaks rule.Inside decls body place = OneHolds (DeclHolds (λ instance. InsideBy table names reach)) decls place
  BodyBreaks rule.LocalEvent decls body place = OneHolds (ItemLocal (OneHolds Decomposes decls)) (item_list (items_in body)) place

  abbrev pub ContentBreaks : RefinementRule → List Decl → Woven → Place → Type 0
  ContentBreaks r decls (Basic body) place = BodyBreaks r decls body place
  ContentBreaks r decls (HighLevel drawn) place = ⊥

  abbrev pub EntryBreaks : RefinementRule → ChartEntry → Place → Type 0
  EntryBreaks r c place = ContentBreaks r c.decls c.content place

  abbrev pub TableBreaks : RefinementRule → Place → Type 0
  TableBreaks r place = OneHolds (EntryBreaks r) table place
