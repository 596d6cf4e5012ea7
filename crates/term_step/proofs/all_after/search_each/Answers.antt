use Rattle.std.proofs.Common.{◌≡◌, [], true, false, rules, subst}
use Rattle.term_step.specs.Searches.{Gathers}
use Rattle.term_step.proofs.AllAfter.{gathered_more, gathered_over}
use Rattle.term_step.proofs.all_after.search_each.Goals as goal

pub returns-then-not-branch-clause-more : goal.returns-then-not-branch-clause-more
returns-then-not-branch-clause-more c = λ _.
    let t : c.in_ok-search.field-0 ≡ false = search rules in
    gathered_over c.args.nets.now.tables c.args.label c.args.found.now.most c.args.terms.now c.loop-index.index c.at.result.now c.at.ensures c.loop-index.found c.search.new.found c.loop-index.invariant
    (subst (Gathers c.args.nets.now.tables c.args.label [] c.at.result.now c.loop-index.found c.search.new.found) t c.in_ok-search.ensures)

pub loop-index-preserved : goal.loop-index-preserved
loop-index-preserved c =
    let t : c.in_ok-search.field-0 ≡ true = search rules in
    gathered_more c.args.nets.now.tables c.args.label c.args.found.now.most c.args.terms.now c.loop-index.index c.at.result.now c.at.ensures c.loop-index.found c.search.new.found c.loop-index.invariant
    (subst (Gathers c.args.nets.now.tables c.args.label [] c.at.result.now c.loop-index.found c.search.new.found) t c.in_ok-search.ensures)
