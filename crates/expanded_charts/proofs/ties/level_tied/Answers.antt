use Rattle.std.proofs.Common.{rules, ◌≡◌, ◌++◌, ◌∙◌, List, ap, refl}
use Rattle.msc_meaning.specs.Ties.{own_ties}
use Rattle.expansion_tree.specs.declared.tree.Expansion.TheVariants as tree
use Rattle.expanded_charts.specs.GateTies.{ties_view}
use Rattle.expanded_charts.specs.ShownGates.{gates_view}
use Rattle.expanded_charts.specs.TieNumbers.{gate_pairs, tie_pairs}
use Rattle.expanded_charts.specs.declared.shown.ShownGate.{ShownGate}
use Rattle.expanded_charts.proofs.Making.{tied_made}
use Rattle.expanded_charts.proofs.TieFacts.{level_pairs_are}
use Rattle.expanded_charts.proofs.ties.level_tied.Goals as goal

pub returns : goal.returns
returns c =
    let was = c.args.inner in
    let ties = ties_view c.args.ties.now in
    let held : c.in_ok-part.part.value ≡ was.part = search rules in
    let are : c.in_ok-numbers.numbers ≡ tie_pairs was.own c.args.pairs.now ++ gate_pairs was.own (gates_view was.gates.items) ties =
    c.in_ok-numbers.ensures ∙ ap (λ (gs : List ShownGate). tie_pairs was.own c.args.pairs.now ++ gate_pairs was.own (gates_view gs) ties) c.as_slice.ensures.value in
    tied_made (own_ties c.args.pairs.now ++ ties) was (record { part = tree.Tied c.in_ok-part.part c.in_ok-numbers.numbers; own = was.own; gates = was.gates; next = was.next }) c.in_ok-part.part c.in_ok-numbers.numbers
    (λ e own gates. are ∙ level_pairs_are was.own (gates_view was.gates.items) c.args.pairs.now ties e.shown own gates) refl held refl refl refl
