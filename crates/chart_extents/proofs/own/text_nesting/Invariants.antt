use Rattle.std.proofs.Common.{◌≡◌, max, drop}
use Rattle.chart_extents.specs.OwnExtents.{deepest}
use Rattle.chart_text.specs.PassageViews.{text_view}
use Rattle.chart_extents.proofs.own.text_nesting.Given as goal

abbrev pub invariant-loop-held : goal.invariant-loop-held
invariant-loop-held l = max l.most (deepest (text_view (drop l.held-index l.text))) ≡ deepest (text_view l.text)
