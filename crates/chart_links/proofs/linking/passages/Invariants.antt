use Rattle.std.proofs.Common.{◌≡◌, ◌++◌, drop}
use Rattle.std.specs.List.{flat_map}
use Rattle.chart_links.specs.Links.{passage_links}
use Rattle.chart_text.specs.PassageViews.{text_view}
use Rattle.chart_links.proofs.linking.passages.Given as goal

abbrev pub invariant-loop-held : goal.invariant-loop-held
invariant-loop-held l = l.links ++ flat_map passage_links (text_view (drop l.held-index l.text)) ≡ l.initial.links ++ flat_map passage_links (text_view l.text)
