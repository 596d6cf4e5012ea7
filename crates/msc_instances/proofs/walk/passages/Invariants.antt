use Rattle.std.proofs.Common.{◌≡◌, ◌++◌, drop}
use Rattle.std.specs.List.{flat_map}
use Rattle.chart_text.specs.PassageViews.{text_view}
use Rattle.msc_instances.specs.Notes.{passage_notes}
use Rattle.msc_instances.proofs.walk.passages.Given as goal

abbrev pub invariant-loop-held : goal.invariant-loop-held
invariant-loop-held l = l.notes ++ flat_map passage_notes (text_view (drop l.held-index l.text)) ≡ l.initial.notes ++ flat_map passage_notes (text_view l.text)
