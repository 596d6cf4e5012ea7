use Rattle.std.proofs.Common.{rules, ◌≡◌, List, subst}
use Rattle.msc_meaning.specs.BodyLevels.{BodyLevel, body_levels}
use Rattle.msc_meaning.specs.LevelViews.{levels_view}
use Rattle.general_ordering.specs.EventNames.{LevelsBreakNameRule, Twice, Unknown}
use Rattle.msc_base.specs.Places.{IsLeast}
use Rattle.msc_meaning.specs.Views.{body_view}
use Rattle.msc_tree.specs.Views.{chart_view}
use Rattle.msc_acceptance.proofs.ChartLaws.{misnamed_least, none_alone, none_cross, woven_body}
use Rattle.msc_acceptance.proofs.tables.faults_of.Goals as goal

pub returns : goal.returns
returns c =
    let chart = chart_view c.args.chart.now in
    let body = body_view c.args.body.now in
    let woven = woven_body chart body c.requires in
    let are : levels_view c.as_slice-levels.result.now ≡ body_levels body = search rules in
    record {
      crossed = none_cross chart body c.requires;
      alone = λ e. none_alone chart body c.requires;
      unknown = λ w. misnamed_least Unknown chart body c.in_ok-names.names.unknown woven (subst (λ (ls : List BodyLevel). IsLeast (LevelsBreakNameRule Unknown ls) c.in_ok-names.names.unknown) are c.in_ok-names.ensures.unknown);
      twice = λ w. misnamed_least Twice chart body c.in_ok-names.names.twice woven (subst (λ (ls : List BodyLevel). IsLeast (LevelsBreakNameRule Twice ls) c.in_ok-names.names.twice) are c.in_ok-names.ensures.twice);
    }
