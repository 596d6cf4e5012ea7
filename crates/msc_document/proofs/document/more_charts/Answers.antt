use Rattle.std.proofs.Common.{◌∙◌, ◌∷◌, [], sym, ap, subst, map, length, ◌-◌, ◌+◌, arith, codes}
use Rattle.std.proofs.lemmas.List.{map-append}
use Rattle.msc_tree.specs.Views.{chart_view}
use Rattle.token_grammar.specs.Answers.{Fails}
use Rattle.token_grammar.specs.Languages.{just}
use Rattle.token_grammar.proofs.Loops.{no_more, ends_here, next_one, stops_here}
use Rattle.msc_document.specs.DocumentReaders.{chart_at}
use Rattle.msc_document.proofs.document.more_charts.Goals.{else-loop-k-test, then-loop-k-test+then-not-starts_with}
use Rattle.msc_document.proofs.document.more_charts.Goals as goal

pub loop-k-preserved : goal.loop-k-preserved
loop-k-preserved c =
    let lt = c.loop-k-test.true in
    sym (next_one (just (codes "msc")) (chart_at c.args.levels) (map chart_view c.loop-k.charts.items) _ (chart_view c.in-Ok.chart) _ _ c.loop-k.rest.now c.in-Ok.behind.now
    (sym c.starts_with.ensures ∙ c.if-not-starts_with.false) (omega arith) c.in-Ok.ensures
    (ap (map chart_view) c.in_ok-push-in-Ok.ensures.items ∙ map-append chart_view c.loop-k.charts.items (c.in-Ok.chart ∷ []))) ∙ c.loop-k.invariant

pub returns-in-Err : goal.returns-in-Err
returns-in-Err c =
    let lt = c.loop-k-test.true in
    subst (Fails c.in-Err.fault) c.loop-k.invariant
    (stops_here (just (codes "msc")) (chart_at c.args.levels) c.in-Err.fault (map chart_view c.loop-k.charts.items) _ (length c.args.tokens.now - (c.loop-k._k + 1)) c.loop-k.rest.now
    (sym c.starts_with.ensures ∙ c.if-not-starts_with.false) (omega arith) c.in-Err.ensures)

pub returns : goal.returns
returns c =
    elim c.loop-k-test.branch [
      | else-loop-k-test w ↦ sym c.loop-k.invariant ∙ no_more (just (codes "msc")) (chart_at c.args.levels) (map chart_view c.loop-k.charts.items) _ c.loop-k.rest.now (omega arith)
      | then-loop-k-test+then-not-starts_with w ↦ sym c.loop-k.invariant ∙ ends_here (just (codes "msc")) (chart_at c.args.levels) (map chart_view c.loop-k.charts.items) _ c.loop-k.rest.now (sym w.starts_with.ensures ∙ w.if-not-starts_with.true)
    ]
