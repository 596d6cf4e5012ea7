-- A chart that uses another twice, once in a loop, meets what the laws ask.
use Rattle.std.specs.Prelude.{◌≡◌, codes}
use Rattle.msc_base.specs.Orders.{Among}
use Rattle.msc_base.specs.declared.limits.TheConstants.Limits.{EXPANDED_NESTING}
use Rattle.expansion_tree.specs.Expansions.{events_in}
use Rattle.expanded_charts.specs.Expanding.{NumberedEvent}
use Rattle.expanded_charts.specs.WorkedExpansions.{used_twice}
use Rattle.expansion_order.specs.Ranks.{CanBeRanked}
use Rattle.expanded_terms.specs.GateTies.{IsQuietTable}
use Rattle.expanded_terms.specs.JoinProducts.{IsFewTo}
use Rattle.expanded_terms.specs.PlacedTerms.{child_of}
use Rattle.expanded_terms.specs.WholeCharts.{IsWholeTo}
use Rattle.gate_ends.specs.FoundEnds.{table_ends}
use Rattle.table_terms.specs.SoundGraphs.{HasSoundGraphs}
use Rattle.table_terms.specs.TableTerms.{HasRoom, chart_expansion, numbered_chart}

pub record PremisesAreMet : Type 0 where
  pub graphs : HasSoundGraphs used_twice (codes "Z")
  pub whole : IsWholeTo used_twice (table_ends used_twice) EXPANDED_NESTING (codes "Z")
  pub quiet : IsQuietTable used_twice
  pub ranked : CanBeRanked (numbered_chart used_twice (codes "Z"))
  pub few : IsFewTo used_twice EXPANDED_NESTING (codes "Z")
  pub room : HasRoom used_twice (codes "Z")
  pub placed : (e : NumberedEvent) → Among e (events_in (chart_expansion used_twice (codes "Z"))) → e.happening.also ≡ child_of e.happening.label
