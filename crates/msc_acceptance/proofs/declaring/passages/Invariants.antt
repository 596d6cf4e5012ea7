use Rattle.std.proofs.Common.{◌≡◌, ◌++◌, drop}
use Rattle.std.specs.List.{flat_map}
use Rattle.chart_text.specs.PassageViews.{text_view}
use Rattle.msc_meaning.specs.WovenTables.{declares}
use Rattle.msc_acceptance.proofs.declaring.passages.Given as goal

abbrev pub invariant-loop-held : goal.invariant-loop-held
invariant-loop-held l = l.decls ++ flat_map declares (text_view (drop l.held-index l.text)) ≡ l.initial.decls ++ flat_map declares (text_view l.text)
