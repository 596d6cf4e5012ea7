-- Charts and instances by numbers, and what is known of all charts: which lead to which, and the expanded instances of each.
use Rattle.std.specs.Prelude.{◌≡◌, ◌↔◌, ◌⊎◌, ◌<◌, ℕ, true, List, [], ◌∷◌, Some, length, slice_index_or}
use Rattle.std.specs.List.{position}
use Rattle.std.specs.Str.{bytes_eq}
use Rattle.bit_sets.specs.Blocks.{has_bit}
use Rattle.msc_base.specs.Lists.{IsAmong}
use Rattle.chart_text.specs.Texts.{Scope}
use Rattle.chart_links.specs.Links.{Link, Refers, Refines, IsRefined, linked}
use Rattle.chart_links.specs.References.{Covers, IsCalled, IsExpanded, Leads}
use Rattle.chart_links.specs.Rows.{RowHas}
use Rattle.chart_links.specs.Summaries.{Summary}

-- the number of the name in a table of names
abbrev pub IsNumber : List (List ℕ) → List ℕ → ℕ → Type 0
IsNumber table name n = position (bytes_eq name) table ≡ Some n

-- one of the links names the chart of that number
abbrev pub LinksTo : List (List ℕ) → List Link → ℕ → Type 0
LinksTo names [] n = ⊥
LinksTo names (link ∷ links) n = IsNumber names (linked link) n ⊎ LinksTo names links n

-- one of the charts has the first number, and names that of the second
abbrev pub HaveEdge : List (List ℕ) → List Summary → ℕ → ℕ → Type 0
HaveEdge names [] u v = ⊥
HaveEdge names (chart ∷ charts) u v = (IsNumber names chart.name u × LinksTo names chart.links v) ⊎ HaveEdge names charts u v

-- one of the instances has that number, and no chart refines it
abbrev pub OwnAmong : List (List ℕ) → List Link → List (List ℕ) → ℕ → Type 0
OwnAmong known links [] n = ⊥
OwnAmong known links (instance ∷ instances) n = ((IsRefined links instance → ⊥) × IsNumber known instance n) ⊎ OwnAmong known links instances n

-- one of the charts has the first number, and an own instance of the second
abbrev pub HaveOwn : List (List ℕ) → List (List ℕ) → List Summary → ℕ → ℕ → Type 0
HaveOwn names known [] u n = ⊥
HaveOwn names known (chart ∷ charts) u n = (IsNumber names chart.name u × OwnAmong known chart.links chart.instances n) ⊎ HaveOwn names known charts u n

-- the row of the name's number has the numbers of a set besides
abbrev pub IsAdded : List (List ℕ) → List ℕ → List ℕ → List (List ℕ) → List (List ℕ) → Type 0
IsAdded names name set old new = (u n : ℕ) → RowHas new u n ↔ (RowHas old u n ⊎ (IsNumber names name u × (has_bit set n ≡ true)))

-- each chart has its own number, and those that it names
abbrev pub AreEdges : List (List ℕ) → List Summary → List (List ℕ) → Type 0
AreEdges names charts rows = (u v : ℕ) → RowHas rows u v ↔ (((u < length names) × (v ≡ u)) ⊎ HaveEdge names charts u v)

-- each chart has the numbers of its own instances
abbrev pub AreOwnRows : List (List ℕ) → List (List ℕ) → List Summary → List (List ℕ) → Type 0
AreOwnRows names known charts rows = (u n : ℕ) → RowHas rows u n ↔ HaveOwn names known charts u n

-- the table has the names of all charts, and no others
abbrev pub AreChartNames : List Summary → List (List ℕ) → Type 0
AreChartNames charts names = (name : List ℕ) → IsAmong names name ↔ IsCalled charts name

-- the table has all instances of all charts
abbrev pub HasInstances : List Summary → List (List ℕ) → Type 0
HasInstances charts known = (chart : Summary) (instance : List ℕ) → IsAmong charts chart → IsAmong chart.instances instance → IsAmong known instance

-- what is known of charts: the numbers of their names and of their instances, which lead to which, and the expanded instances of each
pub record AreTables (charts : List Summary) (names known : List (List ℕ)) (reach expanded : List (List ℕ)) : Type 0 where
  pub names_are : AreChartNames charts names
  pub known_are : HasInstances charts known
  pub leads : (a b : List ℕ) (u v : ℕ) → IsNumber names a u → IsNumber names b v → RowHas reach u v ↔ Leads charts a b
  pub expands : (a i : List ℕ) (u n : ℕ) → IsNumber names a u → IsNumber known i n → RowHas expanded u n ↔ IsExpanded charts a i
  pub numbered : (u n : ℕ) → RowHas expanded u n → (i : List ℕ) × IsNumber known i n
  pub through : (u v w : ℕ) → RowHas reach u v → RowHas reach v w → RowHas reach u w
  pub reach_len : length reach ≡ length names
  pub expanded_len : length expanded ≡ length names

-- ---- rules on one link, by these

-- no chart has the name
abbrev pub MissesBy : List (List ℕ) → Link → Type 0
MissesBy names link = IsAmong names (linked link) → ⊥

-- the chart leads back to that of the caller's name
pub record RecursBy (names reach : List (List ℕ)) (caller : List ℕ) (link : Link) : Type 0 where
  pub from : ℕ
  pub from_is : IsNumber names (linked link) from
  pub home : ℕ
  pub home_is : IsNumber names caller home
  pub leads : RowHas reach from home

-- an instance of the caller has a number of that set, and isn't covered
pub record IsUncoveredIn (known : List (List ℕ)) (set : List ℕ) (instances : List (List ℕ)) (cover : Scope) : Type 0 where
  pub instance : List ℕ
  pub mine : IsAmong instances instance
  pub number : ℕ
  pub number_is : IsNumber known instance number
  pub expanded : has_bit set number ≡ true
  pub outside : Covers cover instance → ⊥

pub record UncoversIn (names known expanded : List (List ℕ)) (instances : List (List ℕ)) (chart : List ℕ) (cover : Scope) : Type 0 where
  pub from : ℕ
  pub from_is : IsNumber names chart from
  pub one : IsUncoveredIn known (slice_index_or expanded from []) instances cover

abbrev pub UncoversBy : List (List ℕ) → List (List ℕ) → List (List ℕ) → List (List ℕ) → Link → Type 0
UncoversBy names known expanded instances (Refers chart place scope depth) = UncoversIn names known expanded instances chart scope
UncoversBy names known expanded instances (Refines instance chart place) = ⊥
