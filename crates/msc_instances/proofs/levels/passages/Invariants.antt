use Rattle.std.proofs.Common.{◌≡◌, ◌++◌, drop}
use Rattle.std.specs.List.{flat_map}
use Rattle.chart_text.specs.PassageViews.{text_view}
use Rattle.msc_instances.specs.Parts.{passage_levels}
use Rattle.msc_instances.proofs.levels.passages.Given as goal

abbrev pub invariant-loop-held : goal.invariant-loop-held
invariant-loop-held l = l.levels ++ flat_map passage_levels (text_view (drop l.held-index l.text)) ≡ l.initial.levels ++ flat_map passage_levels (text_view l.text)
