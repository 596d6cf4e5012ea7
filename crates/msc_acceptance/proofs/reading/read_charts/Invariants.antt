use Rattle.std.proofs.Common.{◌≡◌, ◌++◌, drop, map}
use Rattle.chart_forms.specs.TiedTexts.{is_tied_text}
use Rattle.chart_text.specs.Texts.{chart_text}
use Rattle.msc_instances.specs.Instances.{instances}
use Rattle.msc_tree.specs.Charts.{Chart}
use Rattle.msc_tree.specs.Views.{chart_view}
use Rattle.msc_acceptance.specs.RefinedTexts.{is_refined_chart}
use Rattle.msc_acceptance.specs.SingleItems.{is_single_chart}
use Rattle.msc_acceptance.proofs.TableLaws.{AreTextsSoFar}
use Rattle.msc_acceptance.proofs.reading.read_charts.Given as goal

abbrev pub invariant-loop-chart : goal.invariant-loop-chart
invariant-loop-chart l = record {
  lists : l.lists ++ map instances (map chart_view (drop l.chart-index l.charts)) ≡ map instances (map chart_view l.charts);
  stands : l.stands ++ map (λ (c : Chart). c.place) (map chart_view (drop l.chart-index l.charts)) ≡ map (λ (c : Chart). c.place) (map chart_view l.charts);
  singles : l.singles ++ map is_single_chart (map chart_view (drop l.chart-index l.charts)) ≡ map is_single_chart (map chart_view l.charts);
  tied : l.tied ++ map (λ (c : Chart). is_tied_text (chart_text c)) (map chart_view (drop l.chart-index l.charts)) ≡ map (λ (c : Chart). is_tied_text (chart_text c)) (map chart_view l.charts);
  refined : l.refined ++ map is_refined_chart (map chart_view (drop l.chart-index l.charts)) ≡ map is_refined_chart (map chart_view l.charts);
  places : AreTextsSoFar l.charts l.chart-index l.places;
}
