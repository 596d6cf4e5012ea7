use Rattle.std.proofs.Common.{◌≡◌, ◌++◌, ◌∷◌, [], ℕ, List, MatchOption, rules, subst, sym}
use Rattle.chart_term.specs.Terms.{Tree}
use Rattle.line_events.specs.declared.event.LineEvent.{LineEvent}
use Rattle.next_labels.specs.NextLabels.{AreAll}
use Rattle.term_sets.specs.contracts.pool.PoolStore.TheImpl.{holds-value}
use Rattle.term_tables.specs.NetValues.{NetsValue}
use Rattle.trace_judge.specs.Logs.{BeginsTermRun, labels_of}
use Rattle.trace_judge.specs.Tracks.{Fed}
use Rattle.log_judge.specs.Ends.{HasEnded}
use Rattle.chart_judge.proofs.NextLabels.{term_next}
use Rattle.chart_judge.proofs.next.next_behind.Goals as goal

pub returns : goal.returns
returns c = λ v x form budget bytes h.
    let t = c.args.ended.now.track in
    let labels = c.in_ok-labels.labels in
    let nets : c.deref.result.now ≡ c.args.ended.now.nets.value = search rules in
    let same : c.deref-2.result.now ≡ c.deref.result.now = search rules in
    let told = subst (λ (w : NetsValue). (y : Tree) (m : ℕ) (events : List LineEvent) → Fed holds-value.it w y m events t → MatchOption t.ended (AreAll (λ a. BeginsTermRun w y (labels_of events ++ a ∷ [])) labels) (λ settled. labels ≡ [])) same c.in_ok-labels.ensures in
    term_next v c.deref.result.now x form budget bytes t c.in_ok-verdict.verdict labels (λ y m es f. c.in_ok-verdict.ensures.verdict y m es f) c.in_ok-verdict.ensures.settled told
    (subst (λ (w : NetsValue). HasEnded holds-value.it v x form budget bytes w t) (sym nets) h)
