-- What rules on several charts ask of each: its name, its instances, and what it says of charts.
use Rattle.std.specs.Prelude.{ℕ, List}
use Rattle.chart_links.specs.Links.{Link, IsRefined, chart_links}
use Rattle.msc_base.specs.Lists.{IsAmong}
use Rattle.msc_instances.specs.Instances.{instances}
use Rattle.msc_tree.specs.Charts.{Chart}

pub record Summary : Type 0 where
  pub name : List ℕ
  pub instances : List (List ℕ)
  pub links : List Link

abbrev pub summary_of : Chart → Summary
summary_of chart = record { name = chart.name; instances = instances chart; links = chart_links chart }

-- an instance of the chart that no chart refines
abbrev pub IsOwn : Summary → List ℕ → Type 0
IsOwn chart name = IsAmong chart.instances name × (IsRefined chart.links name → ⊥)
