use Rattle.std.proofs.Common.{rules, ◌≡◌, ◌∷◌, [], List, subst, sym}
use Rattle.level_gathering.specs.GatheredCharts.{IsGatheredChart, a_graph}
use Rattle.level_gathering.specs.ReferenceViews.{lists_view}
use Rattle.msc_meaning.specs.Bodies.{Body, level, no_items}
use Rattle.msc_meaning.specs.Views.{body_view}
use Rattle.msc_tree.specs.Statements.{Reference}
use Rattle.level_gathering.proofs.charts.gathered_graph.Goals as goal

pub returns : goal.returns
returns c = λ chart drawn is.
    let body : body_view c.unpaired-body.result ≡ level [] no_items [] = search rules in
    let references : lists_view c.push.new.self ≡ [] ∷ [] = search rules in
    subst (λ (b : Body). IsGatheredChart chart b (lists_view c.push.new.self)) (sym body)
    (subst (λ (l : List (List Reference)). IsGatheredChart chart (level [] no_items []) l) (sym references) (a_graph drawn is))
