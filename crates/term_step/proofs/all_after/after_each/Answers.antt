use Rattle.std.proofs.Common.{◌≡◌, true, false, rules, sym, subst, List, ℕ}
use Rattle.chart_term.specs.Properties.{Each}
use Rattle.chart_term.specs.Terms.{Tree}
use Rattle.term_permission.specs.Ready.{IsReady}
use Rattle.term_step.specs.AllAfter.{AreAllLeft}
use Rattle.term_step.specs.Gatherings.{IsGathered, IsTooMuch}
use Rattle.term_step.proofs.AllAfter.{all_left, all_ready, all_weighed, too_many}
use Rattle.term_step.proofs.all_after.after_each.Goals as goal

pub of-requires-clause-weight : goal.of-requires-clause-weight
of-requires-clause-weight c =
    let t : c.in_ok-search_each.field-0 ≡ true = search rules in
    all_weighed c.args.nets.now.tables c.args.number c.new-found.result.most c.args.terms.now c.search_each.new.found (c.in_ok-search_each.ensures.all t)

pub returns-clause-left : goal.returns-clause-left
returns-clause-left c label labelled =
    let t : c.in_ok-search_each.field-0 ≡ true = search rules in
    let gathered = subst (λ (m : ℕ). IsGathered c.args.nets.now.tables c.args.number m c.args.terms.now c.search_each.new.found) c.new-found.ensures.most (c.in_ok-search_each.ensures.all t) in
    subst (λ (xs : List Tree). AreAllLeft c.args.nets.now label c.args.terms.now c.args.most xs) (sym c.of.ensures) (all_left c.args.nets.now label c.args.number labelled c.args.most c.args.terms.now c.search_each.new.found gathered)

pub returns-clause-ready : goal.returns-clause-ready
returns-clause-ready c =
    let t : c.in_ok-search_each.field-0 ≡ true = search rules in
    subst (Each (IsReady c.args.nets.now.tables)) (sym c.of.ensures) (all_ready c.args.nets.now.tables c.args.number c.new-found.result.most c.args.terms.now c.search_each.new.found (c.in_ok-search_each.ensures.all t))

pub returns-then-not-branch-clause-left : goal.returns-then-not-branch-clause-left
returns-then-not-branch-clause-left c = λ label labelled.
    let t : c.in_ok-search_each.field-0 ≡ false = search rules in
    let much = subst (λ (m : ℕ). IsTooMuch c.args.nets.now.tables c.args.number m c.args.terms.now c.search_each.new.found) c.new-found.ensures.most (c.in_ok-search_each.ensures.more t) in
    too_many c.args.nets.now label c.args.number labelled c.args.most c.args.terms.now c.search_each.new.found much
