use Rattle.std.proofs.Common.{ℕ, List, subst}
use Rattle.line_events.specs.declared.event.LineEvent.{LineEvent}
use Rattle.term_tables.specs.NetValues.{NetsValue}
use Rattle.chart_term.specs.Terms.{Tree}
use Rattle.trace_judge.specs.Tracks.{Fed}
use Rattle.trace_judge.specs.Verdicts.{IsLargest}
use Rattle.log_judge.specs.States.{JudgeValue}
use Rattle.log_judge.proofs.LogJudging.{largest_is}
use Rattle.log_judge.proofs.judge.Judge.largest.Goals as goal

pub returns : goal.returns
returns g c = λ v x form budget bytes h e.
    largest_is g.S.Store.holds v x form budget bytes c.args.self.now c.largest.result
    (subst (λ (j : JudgeValue _). (w : NetsValue) (y : Tree) (m : ℕ) (events : List LineEvent) → Fed g.S.Store.holds w y m events j.track → IsLargest w y m events c.largest.result) c.self.view_is c.largest.ensures) e h
