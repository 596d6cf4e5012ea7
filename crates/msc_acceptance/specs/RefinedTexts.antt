-- Serves private contracts alone.
-- Whether charts have decomposed instances, by their texts, and what is then known of them before they are looked at together.
use Rattle.std.specs.Borrow.{Bor}
use Rattle.std.specs.List.{flat_map, list_any}
use Rattle.std.specs.Option.{is_some}
use Rattle.std.specs.Prelude.{◌≡◌, Bool, false, List, Option, None, Some, map}
use Rattle.chart_links.specs.Summaries.{Summary, summary_of}
use Rattle.chart_links.specs.Tables.{AreTables}
use Rattle.chart_links.specs.declared.tables.LinkTables.{LinkTables}
use Rattle.chart_text.specs.Texts.{Passage, chart_text}
use Rattle.msc_base.specs.Lists.{IsAmong}
use Rattle.msc_base.specs.Places.{IsLeast}
use Rattle.msc_meaning.specs.Tables.{Table}
use Rattle.msc_meaning.specs.WovenTables.{declares}
use Rattle.msc_tree.specs.Charts.{Chart}
use Rattle.msc_tree.specs.declared.chart.Decl.{Decl}
use Rattle.msc_acceptance.specs.Rules.{InOne}
use Rattle.msc_acceptance.specs.declared.refinements.KnownRefinements.{KnownRefinements}
use Rattle.refinement_rules.specs.Coregions.{HasLocalCoregion}
use Rattle.refinement_rules.specs.RefinementRules.{BreaksRefinementRule}
use Rattle.refinement_rules.specs.declared.faults.RefinementPlaces.{RefinementPlaces}
use Rattle.refinement_rules.specs.declared.faults.RefinementRule.TheVariants as rule

abbrev pub is_refined : Decl → Bool
is_refined d = is_some d.refined

abbrev pub passage_refines : Passage → Bool
passage_refines p = list_any is_refined (declares p)

-- one of the declarations names a refining chart
abbrev pub is_refined_text : List Passage → Bool
is_refined_text text = list_any passage_refines text

abbrev pub is_refined_chart : Chart → Bool
is_refined_chart c = is_refined_text (chart_text c)

-- what the charts say of each other; or none of them has decomposed instances
abbrev pub AreKnownLinks : List Chart → Option (Bor LinkTables) → Type 0
AreKnownLinks charts None = (c : Chart) → IsAmong charts c → is_refined_chart c ≡ false
AreKnownLinks charts (Some t) = AreTables (map summary_of charts) t.now.names t.now.known t.now.reach.items t.now.expanded.items

abbrev pub AreLinksOf : List Chart → Option LinkTables → Type 0
AreLinksOf charts None = (c : Chart) → IsAmong charts c → is_refined_chart c ≡ false
AreLinksOf charts (Some t) = AreTables (map summary_of charts) t.names t.known t.reach.items t.expanded.items

-- and the earliest coregion of a decomposed instance
pub record AreKnownRefinements (charts : List Chart) (known : KnownRefinements) : Type 0 where
  pub links : AreKnownLinks charts known.links
  pub coregion : IsLeast (InOne HasLocalCoregion charts) known.coregion

-- the earliest places at which the charts of the table break the rules on decomposed instances
pub record AreRefinementPlaces (links : List Summary) (table : Table) (places : RefinementPlaces) : Type 0 where
  pub mismatch : IsLeast (BreaksRefinementRule links table rule.DecompositionMismatch) places.mismatch
  pub shared : IsLeast (BreaksRefinementRule links table rule.SharedPart) places.shared
  pub inside : IsLeast (BreaksRefinementRule links table rule.Inside) places.inside
  pub local : IsLeast (BreaksRefinementRule links table rule.LocalEvent) places.local
