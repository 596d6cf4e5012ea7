use Rattle.std.proofs.Common.{subst, sym}
use Rattle.chart_judge.specs.Judging.{IsJudging}
use Rattle.chart_judge.proofs.Largest.{largest_on}
use Rattle.chart_judge.proofs.judge.ChartJudge.largest.Goals as goal

pub returns : goal.returns
returns c = λ table name form budget bytes j.
    largest_on table name form budget bytes c.self.inside.judge c.largest.result c.largest.ensures (subst (IsJudging table name form budget bytes) (sym c.self.view_is) j)
