use Rattle.std.proofs.Common.{rules, ◌≡◌, ◌∙◌, ap}
use Rattle.std.specs.List.{flat_map}
use Rattle.chart_text.specs.PassageViews.{text_view}
use Rattle.chart_text.specs.Texts.{chart_text}
use Rattle.msc_meaning.specs.WovenTables.{declares}
use Rattle.msc_tree.specs.Views.{chart_view}
use Rattle.msc_acceptance.proofs.declaring.chart_decls.Goals as goal

pub returns : goal.returns
returns c =
    let told : c.passages.new.decls ≡ flat_map declares (text_view c.as_slice.result.now) = search rules in
    let text : text_view c.as_slice.result.now ≡ chart_text (chart_view c.args.chart.now) = search rules in
    told ∙ ap (flat_map declares) text
