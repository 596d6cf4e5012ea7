use Rattle.std.proofs.Common.{◌∙◌, sym}
use Rattle.chart_text.specs.PassageViews.{text_view}
use Rattle.msc_tree.specs.Views.{chart_view}
use Rattle.refinement_rules.proofs.CoregionFacts.{coregions_least, coregions_none}
use Rattle.refinement_rules.proofs.coregions.local_coregion.Goals as goal

pub returns-then-len-eq0 : goal.returns-then-len-eq0
returns-then-len-eq0 c = coregions_none (chart_view c.args.chart.now) c.in_ok-refined.refined c.in_ok-refined.ensures (sym c.len.ensures ∙ c.if-len-eq0.true)

pub returns : goal.returns
returns c =
    coregions_least (chart_view c.args.chart.now) c.in_ok-refined.refined (text_view c.args.text.now) c.new-places.result c.passages.new.places c.as_slice.result.now c.earliest_place.result c.in_ok-refined.ensures c.requires c.new-places.ensures
    c.in_ok-passages.ensures c.as_slice.ensures c.earliest_place.ensures
