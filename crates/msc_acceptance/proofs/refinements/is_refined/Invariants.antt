use Rattle.std.proofs.Common.{◌≡◌, drop}
use Rattle.chart_text.specs.PassageViews.{text_view}
use Rattle.msc_acceptance.specs.RefinedTexts.{is_refined_text}
use Rattle.msc_acceptance.proofs.refinements.is_refined.Given as goal

abbrev pub invariant-loop-passage : goal.invariant-loop-passage
invariant-loop-passage l = is_refined_text (text_view (drop l.passage-index l.text)) ≡ is_refined_text (text_view l.text)
