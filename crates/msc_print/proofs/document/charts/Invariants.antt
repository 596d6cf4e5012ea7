use Rattle.std.proofs.Common.{◌≡◌, drop, map}
use Rattle.msc_print.specs.Pages.{put_all}
use Rattle.msc_print.specs.Words.{all_words}
use Rattle.msc_print.specs.ChartWords.{chart_words}
use Rattle.msc_tree.specs.Views.{chart_view}
use Rattle.msc_print.proofs.document.charts.Given as goal

-- what is still to be written, behind what was, is the whole
abbrev pub invariant-loop-held : goal.invariant-loop-held
invariant-loop-held l = put_all l.page (all_words chart_words (map chart_view (drop l.held-index l.list))) ≡ put_all l.initial.page (all_words chart_words (map chart_view l.list))
