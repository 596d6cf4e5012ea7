use Rattle.std.proofs.Common.{List, IfOk, subst}
use Rattle.chart_term.specs.Terms.{Tree}
use Rattle.next_labels.specs.NextLabels.{AreNextLabels}
use Rattle.chart_judge.proofs.NextLabels.{open_told}
use Rattle.chart_judge.proofs.next.labels_behind.Goals as goal

pub returns-in-Some : goal.returns-in-Some
returns-in-Some c =
    let pool = c.in-Some.pool.now in
    let held = subst (λ (xs : List Tree). IfOk c.next_labels.result (AreNextLabels c.args.nets.now xs)) c.set.ensures c.next_labels.ensures in
    open_told c.sets_tell_next_labels.ensures c.args.nets.now c.args.track.now pool c.next_labels.result c.in-Some.ensures.0 c.in-Some.ensures.1 held
