use Rattle.std.proofs.Common.{◌≡◌, ◌++◌, [], drop}
use Rattle.chart_text.specs.PassageViews.{text_view}
use Rattle.creation_rules.specs.Creating.{barred_creations}
use Rattle.creation_rules.proofs.creating.passages.Given as goal

abbrev pub invariant-loop-held : goal.invariant-loop-held
invariant-loop-held l = l.places ++ barred_creations l.refined l.before (text_view (drop l.held-index l.text)) ≡ l.initial.places ++ barred_creations l.refined [] (text_view l.text)
