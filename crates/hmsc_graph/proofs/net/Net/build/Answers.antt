use Rattle.std.proofs.Common.{◌≡◌, ◌∙◌, None, [], fold, rules, subst, sym}
use Rattle.hmsc_graph.specs.Graphs.{Net}
use Rattle.hmsc_graph.specs.Labels.{with_line}
use Rattle.hmsc_graph.specs.Shapes.{IsGraphOf}
use Rattle.hmsc_graph.proofs.LabelFacts.{labels_of}
use Rattle.hmsc_graph.proofs.FaultFacts.{AreLabels, are_labels, first_unknown, fault_is, no_fault, graph_is, only_graph}
use Rattle.hmsc_graph.proofs.net.Net.build.Goals as goal

pub graph-requires-clause-table : goal.graph-requires-clause-table
graph-requires-clause-table c =
    let gathered : c.in_ok-labels.labels ≡ fold with_line (labels_of [] None) c.args.shape.now.lines = search rules in
    (are_labels c.args.shape.now.lines c.in_ok-labels.labels gathered).few

pub returns-in-Some-clause-fault : goal.returns-in-Some-clause-fault
returns-in-Some-clause-fault c =
    let shape = c.args.shape.now in
    let labels = c.in_ok-labels.labels in
    let gathered : labels ≡ fold with_line (labels_of [] None) shape.lines = search rules in
    let are : AreLabels shape.lines labels = are_labels shape.lines labels gathered in
    let first = first_unknown shape labels c.graph.new.unknown are c.in_ok-net.ensures.unknown in
    fault_is shape labels c.graph.new.unknown are first c.in-Some.fault (sym c.earlier_fault.ensures ∙ c.in-Some.is)

pub returns-clause-ok : goal.returns-clause-ok
returns-clause-ok c =
    let shape = c.args.shape.now in
    let labels = c.in_ok-labels.labels in
    let gathered : labels ≡ fold with_line (labels_of [] None) shape.lines = search rules in
    let are : AreLabels shape.lines labels = are_labels shape.lines labels gathered in
    let first = first_unknown shape labels c.graph.new.unknown are c.in_ok-net.ensures.unknown in
    subst (λ (g : Net). IsGraphOf shape g) (sym c.in_ok-net.ensures.graph) (graph_is shape labels c.graph.new.unknown are first (sym c.earlier_fault.ensures ∙ c.in-None.is))

pub returns-clause-faultless : goal.returns-clause-faultless
returns-clause-faultless c =
    let shape = c.args.shape.now in
    let labels = c.in_ok-labels.labels in
    let gathered : labels ≡ fold with_line (labels_of [] None) shape.lines = search rules in
    let are : AreLabels shape.lines labels = are_labels shape.lines labels gathered in
    let first = first_unknown shape labels c.graph.new.unknown are c.in_ok-net.ensures.unknown in
    no_fault shape labels c.graph.new.unknown are first (sym c.earlier_fault.ensures ∙ c.in-None.is)

pub returns-clause-only : goal.returns-clause-only
returns-clause-only c = λ other is. only_graph c.args.shape.now other c.in_ok-net.net is (returns-clause-ok c)
