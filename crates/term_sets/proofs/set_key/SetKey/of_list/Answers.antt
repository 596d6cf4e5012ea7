use Rattle.std.proofs.Common.{◌++◌, ◌∷◌, [], List, ap₂, sym, ◌∙◌}
use Rattle.list_facts.proofs.Reading.{take_step}
use Rattle.chart_term.specs.Terms.{Tree}
use Rattle.term_sets.proofs.set_key.SetKey.of_list.Goals as goal

pub loop-index-preserved : goal.loop-index-preserved
loop-index-preserved c =
    c.in_ok-push.ensures.items ∙ (ap₂ (λ (l : List Tree) (x : Tree). l ++ x ∷ []) c.loop-index.invariant c.in_ok-copy.ensures ∙ sym (take_step c.args.terms.now c.loop-index.index c.at.result.now c.at.ensures))
