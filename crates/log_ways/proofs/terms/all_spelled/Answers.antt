use Rattle.std.proofs.Common.{ap, arith, map, ◌∙◌}
use Rattle.std.proofs.lemmas.List.{take_all}
use Rattle.chart_term.specs.NormalForms.{begun}
use Rattle.log_ways.proofs.Spelling.{spelled_all}
use Rattle.log_ways.proofs.terms.all_spelled.Goals as goal
use Rattle.term_sets.specs.Subsets.{spelled}

pub returns : goal.returns
returns c =
    spelled_all (begun c.args.events.now) c.loop-word.terms.items c.args.words.now
    (c.loop-word.invariant ∙ ap (map (spelled (begun c.args.events.now))) (take_all c.loop-word.word-index c.args.words.now (omega arith)))
