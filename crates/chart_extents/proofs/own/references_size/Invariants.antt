use Rattle.std.proofs.Common.{◌≡◌, ◌+◌, drop}
use Rattle.chart_extents.specs.OwnExtents.{passage_size}
use Rattle.chart_text.specs.Gathering.{summed}
use Rattle.chart_text.specs.PassageViews.{text_view}
use Rattle.chart_extents.proofs.own.references_size.Given as goal

abbrev pub invariant-loop-held : goal.invariant-loop-held
invariant-loop-held l = l.total + summed passage_size (text_view (drop l.held-index l.text)) ≡ summed passage_size (text_view l.text)
