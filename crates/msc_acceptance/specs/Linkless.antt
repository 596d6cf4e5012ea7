-- Serves private contracts alone.
-- Charts of which none names another.
use Rattle.std.specs.Prelude.{◌≡◌, ⊤, List, [], ◌∷◌}
use Rattle.chart_links.specs.Summaries.{Summary}

abbrev pub AreLinkless : List Summary → Type 0
AreLinkless [] = ⊤
AreLinkless (chart ∷ charts) = (chart.links ≡ []) × AreLinkless charts
