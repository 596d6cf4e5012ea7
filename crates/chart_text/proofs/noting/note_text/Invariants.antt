use Rattle.std.proofs.Common.{◌≡◌, ◌++◌, drop}
use Rattle.std.specs.List.{flat_map}
use Rattle.chart_text.specs.PassageViews.{text_view}
use Rattle.chart_text.proofs.noting.note_text.Given as goal

abbrev pub invariant-loop-passage : goal.invariant-loop-passage
invariant-loop-passage g l = l.places ++ flat_map g.R.TextRule.told (text_view (drop l.passage-index l.text)) ≡ l.initial.places ++ flat_map g.R.TextRule.told (text_view l.text)
