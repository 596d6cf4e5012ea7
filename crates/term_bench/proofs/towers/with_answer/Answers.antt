use Rattle.term_bench.proofs.Made.{tied_answer}
use Rattle.term_bench.proofs.towers.with_answer.Goals as goal

pub returns : goal.returns
returns c = tied_answer _ _ _ _ _ _ _ c.in_ok-parts.ensures c.in_ok-output.ensures c.in_ok-input.ensures c.in_ok-row.ensures c.in_ok-term.ensures
