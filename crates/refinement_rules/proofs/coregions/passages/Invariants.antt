use Rattle.std.proofs.Common.{◌≡◌, ◌++◌, drop}
use Rattle.std.specs.List.{flat_map}
use Rattle.chart_text.specs.PassageViews.{text_view}
use Rattle.refinement_rules.specs.Coregions.{passage_coregions}
use Rattle.refinement_rules.proofs.coregions.passages.Given as goal

abbrev pub invariant-loop-held : goal.invariant-loop-held
invariant-loop-held l = l.places ++ flat_map (passage_coregions l.refined) (text_view (drop l.held-index l.text)) ≡ l.initial.places ++ flat_map (passage_coregions l.refined) (text_view l.text)
