use Rattle.std.specs.Prelude.{IfOk}
use Rattle.std.proofs.Common.{◌≡◌, ◌∙◌, ◌++◌, ◌-◌, List, length, take, drop, ap, subst, arith, length-drop}
use Rattle.std.proofs.lemmas.List.{take_all}
use Rattle.chart_term.specs.Terms.{Part}
use Rattle.chart_term.proofs.Cuts.{behind_leaf}
use Rattle.chart_term.proofs.term.PartList.+behind.Goals as goal

pub returns-in_ok-push_copies-in-Leaf : goal.returns-in_ok-push_copies-in-Leaf
returns-in_ok-push_copies-in-Leaf t c = subst (λ (ps : List Part). IfOk c.leaf.result (λ list. list ≡ ps)) (behind_leaf c.args.self.now c.in-Leaf.parts.now c.push_copies.new.out.items c.args.index c.in-Leaf.ensures (c.in_ok-push_copies-in-Leaf.ensures ∙ ap (λ l. l ++ take (length c.in-Leaf.parts.now - c.args.index) (drop c.args.index c.in-Leaf.parts.now)) c.in_ok-behind-in-Leaf.ensures.items ∙ take_all (length c.in-Leaf.parts.now - c.args.index) (drop c.args.index c.in-Leaf.parts.now) (omega (arith, length-drop c.args.index c.in-Leaf.parts.now)))) c.leaf.ensures
