use Rattle.std.proofs.Common.{◌≡◌, drop}
use Rattle.chart_forms.specs.TiedTexts.{is_tied_text}
use Rattle.chart_text.specs.PassageViews.{text_view}
use Rattle.chart_forms.proofs.ties.ties_gates.Given as goal

abbrev pub invariant-loop-held : goal.invariant-loop-held
invariant-loop-held l = is_tied_text (text_view (drop l.held-index l.text)) ≡ is_tied_text (text_view l.text)
