use Rattle.std.specs.BTreeSet.{contains}
use Rattle.std.proofs.Common.{◌≡◌, ◌+◌, ◌∙◌, ap, sym, refl, true, false, min, nat_le}
use Rattle.std.proofs.lemmas.Bool.{not-true, not-false}
use Rattle.msc_base.specs.Stored.{most_stored}
use Rattle.chart_term.specs.Order.{tree_cmp}
use Rattle.chart_term.specs.Terms.{weight}
use Rattle.term_successors.proofs.TermSets.{rising_from}
use Rattle.term_step.proofs.Tallying.{added-met, added-new}
use Rattle.term_step.proofs.found.Found.add.Goals as goal

pub returns : goal.returns
returns c =
    let free : contains tree_cmp c.args.self.now.terms c.new.result ≡ false = not-true (contains tree_cmp c.args.self.now.terms c.new.result) (sym c.in_ok-insert.ensures.added ∙ c.if-not-branch.false) in
    let heavy : c.saturating_add-self.result ≡ min (c.args.self.now.weight + min (weight c.args.term) most_stored) most_stored = c.saturating_add-self.ensures ∙ ap (λ n. min (c.args.self.now.weight + n) most_stored) c.weight-weight.ensures in
    added-new c.args.self.now (record { terms = c.insert.new.self; weight = c.saturating_add-self.result; most = c.args.self.now.most }) c.args.term c.new.result (nat_le c.saturating_add-self.result c.args.self.now.most)
    c.requires.tally c.requires.within (rising_from c.insert.new.self.keys c.in_ok-insert.ensures.ordered) c.new.ensures free c.in_ok-insert.ensures.updates.0 heavy refl refl

pub returns-then-not-branch : goal.returns-then-not-branch
returns-then-not-branch c =
    let met : contains tree_cmp c.args.self.now.terms c.new.result ≡ true = not-false (contains tree_cmp c.args.self.now.terms c.new.result) (sym c.in_ok-insert.ensures.added ∙ c.if-not-branch.true) in
    added-met c.args.self.now (record { terms = c.insert.new.self; weight = c.args.self.now.weight; most = c.args.self.now.most }) c.args.term c.new.result
    c.requires.tally c.requires.within c.new.ensures met c.in_ok-insert.ensures.updates.0 (rising_from c.insert.new.self.keys c.in_ok-insert.ensures.ordered) refl refl
