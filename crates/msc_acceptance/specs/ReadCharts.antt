-- Serves private contracts alone.
-- What is known of charts before their links are looked at.
use Rattle.std.specs.Prelude.{◌≡◌, map}
use Rattle.chart_forms.specs.TiedTexts.{is_tied_text}
use Rattle.chart_text.specs.Texts.{chart_text}
use Rattle.chart_text.specs.WellFormed.{AreAllWellFormed}
use Rattle.msc_base.specs.Lists.{AreDifferent}
use Rattle.msc_instances.specs.Instances.{instances}
use Rattle.msc_tree.specs.Charts.{Chart}
use Rattle.msc_tree.specs.Views.{chart_view}
use Rattle.msc_acceptance.specs.declared.links.ReadCharts.{ReadCharts}

-- their instances, and whether their joins tie gates; their text is well formed, and their names differ
pub record AreRead (read : ReadCharts) : Type 0 where
  pub lists : read.lists.now ≡ map instances (map chart_view read.charts.now)
  pub tied : read.tied.now ≡ map (λ (c : Chart). is_tied_text (chart_text c)) (map chart_view read.charts.now)
  pub formed : AreAllWellFormed (map chart_view read.charts.now)
  pub different : AreDifferent (map (λ (c : Chart). c.name) (map chart_view read.charts.now))
