use Rattle.std.proofs.Common.{inl, inr, refl, subst, sym}
use Rattle.hmsc_graph.specs.Shapes.{BreaksLabels, IsFaultOf}
use Rattle.hmsc_graph.specs.declared.shape.Shape.{Shape}
use Rattle.msc_rules.specs.FirstFaults.{IsFirstFault}
use Rattle.msc_rules.specs.Rules.{group_of, number_of}
use Rattle.msc_rules.specs.declared.rule.Rule.TheVariants.{UnknownLabel, LabelNamedTwice}
use Rattle.msc_tree.specs.Views.{graph_view}
use Rattle.graph_shapes.specs.GraphShapes.{shape_of}
use Rattle.graph_rules.proofs.GraphFacts.{first_of_labels, no_fault}
use Rattle.graph_rules.proofs.label_faults.fault_in.Goals as goal

pub returns-in-Ok : goal.returns-in-Ok
returns-in-Ok c = λ r p m b. no_fault c.in_ok-shape.shape c.in-Ok.ensures.faultless r p (subst (λ (s : Shape). BreaksLabels s r p) (sym c.in_ok-shape.ensures) b)

pub returns-in-Err-UnknownLabel : goal.returns-in-Err-UnknownLabel
returns-in-Err-UnknownLabel c =
    first_of_labels (shape_of (graph_view c.args.graph.now)) (record { rule = UnknownLabel; place = c.in-Err-UnknownLabel.place }) (inl refl)
    (subst (λ (s : Shape). IsFirstFault number_of group_of (BreaksLabels s) (record { rule = UnknownLabel; place = c.in-Err-UnknownLabel.place })) c.in_ok-shape.ensures
    (subst (IsFaultOf c.in_ok-shape.shape) c.in-Err-UnknownLabel.field-0-is c.in-Err-UnknownLabel.ensures.fault))

pub returns-in-Err-TwiceLabel : goal.returns-in-Err-TwiceLabel
returns-in-Err-TwiceLabel c =
    first_of_labels (shape_of (graph_view c.args.graph.now)) (record { rule = LabelNamedTwice; place = c.in-Err-TwiceLabel.place }) (inr (inl refl))
    (subst (λ (s : Shape). IsFirstFault number_of group_of (BreaksLabels s) (record { rule = LabelNamedTwice; place = c.in-Err-TwiceLabel.place })) c.in_ok-shape.ensures
    (subst (IsFaultOf c.in_ok-shape.shape) c.in-Err-TwiceLabel.field-0-is c.in-Err-TwiceLabel.ensures.fault))
