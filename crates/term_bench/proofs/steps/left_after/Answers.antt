use Rattle.std.proofs.Common.{◌≡◌, ◌∙◌, ◌++◌, ◌∷◌, [], List, Option, Some, MatchOption, ap, sym, subst}
use Rattle.chart_term.specs.Properties.{Each}
use Rattle.chart_term.specs.Terms.{Tree}
use Rattle.term_step.specs.AllAfter.{AreAllLeft, AreTooMany}
use Rattle.term_laws.specs.Placing.{HaveOnePlace}
use Rattle.term_tables.specs.NetValues.{label_number}
use Rattle.term_bench.proofs.ReadyRing.{left-placed, one-placed}
use Rattle.term_bench.proofs.steps.left_after.Goals as goal

pub returns-in-Some-2-clause-placed : goal.returns-in-Some-2-clause-placed
returns-in-Some-2-clause-placed c =
    let v = c.args.nets.now in
    let a = c.args.label.now in
    let labelled : label_number v.labels a ≡ Some c.in-Some.number = sym c.label.ensures.number ∙ c.in-Some.is in
    let one = c.in_ok-push.ensures.ok ∙ ap (λ (l : List Tree). l ++ c.in_ok-copy.field-0 ∷ []) c.new-terms.ensures in
    let placed = one-placed v.tables c.push.new.self c.in_ok-copy.field-0 one (subst (HaveOnePlace v.tables) (sym c.in_ok-copy.ensures) c.requires.placed) in
    let left = subst (λ (o : Option (List Tree)). MatchOption o (AreTooMany v a c.push.new.self 1000000) (AreAllLeft v a c.push.new.self 1000000)) c.in-Some-2.is (c.in_ok-found.ensures.left a labelled) in
    subst (Each (HaveOnePlace v.tables)) (sym c.in_ok-left-in-Some-2.ensures.list) (left-placed v a 1000000 c.push.new.self c.in-Some-2.found placed left)
