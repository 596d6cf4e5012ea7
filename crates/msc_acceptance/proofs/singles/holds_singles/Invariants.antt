use Rattle.std.proofs.Common.{◌≡◌, ◌&&◌, drop}
use Rattle.chart_text.specs.PassageViews.{text_view}
use Rattle.msc_acceptance.specs.SingleItems.{are_single}
use Rattle.msc_acceptance.proofs.singles.holds_singles.Given as goal

abbrev pub invariant-loop-held : goal.invariant-loop-held
invariant-loop-held l = (l.all && are_single (text_view (drop l.held-index l.text))) ≡ are_single (text_view l.text)
