use Rattle.std.proofs.Common.{rules, map, ◌≡◌, List, Option, All, ap, sym, subst, ◌<◌, ◌∙◌}
use Rattle.column_order.specs.declared.edge.Edge.{Edge}
use Rattle.msc_tree.specs.declared.event.Direction.TheVariants.{Out, In}
use Rattle.level_weaving.specs.declared.matching.Mark.{Mark}
use Rattle.level_weaving.specs.EventViews.{event_view}
use Rattle.level_weaving.specs.Marks.{AreMarked, edges_from}
use Rattle.column_order.specs.Pairing.{RiseTo}
use Rattle.level_weaving.proofs.EdgeLaws.{ends_rise}
use Rattle.level_weaving.proofs.PairLaws.{pairs_found, classes_low}
use Rattle.level_weaving.proofs.matching.pairs_of.Goals as goal

pub pair_up-requires : goal.pair_up-requires
pair_up-requires c =
    let marked : AreMarked (map event_view c.args.events.now) c.in_ok-marks.marks.held.items c.in_ok-marks.marks.classes = search rules in
    let outs : c.in_ok-outputs.outputs.items ≡ edges_from Out 0 c.as_slice.result.now = search rules in
    let ins : c.in_ok-inputs.inputs.items ≡ edges_from In 0 c.as_slice-2.result.now = search rules in
    let out : c.as_slice-3.result.now ≡ edges_from Out 0 c.in_ok-marks.marks.held.items = c.as_slice-3.ensures.value ∙ outs ∙ ap (λ (ms : List (Option Mark)). edges_from Out 0 ms) c.as_slice.ensures.value in
    let into : c.as_slice-4.result.now ≡ edges_from In 0 c.in_ok-marks.marks.held.items = c.as_slice-4.ensures.value ∙ ins ∙ ap (λ (ms : List (Option Mark)). edges_from In 0 ms) c.as_slice-2.ensures.value in
    record {
      outs = subst (λ (es : List Edge). All (λ (e : Edge). e.from < c.in_ok-marks.marks.classes) es) (sym out) (classes_low (map event_view c.args.events.now) c.in_ok-marks.marks.held.items c.in_ok-marks.marks.classes Out marked);
      ins = subst (λ (es : List Edge). All (λ (e : Edge). e.from < c.in_ok-marks.marks.classes) es) (sym into) (classes_low (map event_view c.args.events.now) c.in_ok-marks.marks.held.items c.in_ok-marks.marks.classes In marked);
    }

pub returns-clause-pairs : goal.returns-clause-pairs
returns-clause-pairs c =
    let marked : AreMarked (map event_view c.args.events.now) c.in_ok-marks.marks.held.items c.in_ok-marks.marks.classes = search rules in
    let outs : c.in_ok-outputs.outputs.items ≡ edges_from Out 0 c.as_slice.result.now = search rules in
    let ins : c.in_ok-inputs.inputs.items ≡ edges_from In 0 c.as_slice-2.result.now = search rules in
    pairs_found (map event_view c.args.events.now) c.in_ok-marks.marks.held.items c.in_ok-marks.marks.classes c.as_slice-3.result.now c.as_slice-4.result.now c.pair_up.result marked
    (c.as_slice-3.ensures.value ∙ outs ∙ ap (λ (ms : List (Option Mark)). edges_from Out 0 ms) c.as_slice.ensures.value)
    (c.as_slice-4.ensures.value ∙ ins ∙ ap (λ (ms : List (Option Mark)). edges_from In 0 ms) c.as_slice-2.ensures.value)
    c.pair_up.ensures.pairs

pub returns-clause-rising : goal.returns-clause-rising
returns-clause-rising c =
    let outs : c.in_ok-outputs.outputs.items ≡ edges_from Out 0 c.as_slice.result.now = search rules in
    c.pair_up.ensures.rising (subst (λ (es : List Edge). RiseTo 0 es) (sym (c.as_slice-3.ensures.value ∙ outs)) (ends_rise Out 0 c.as_slice.result.now))
