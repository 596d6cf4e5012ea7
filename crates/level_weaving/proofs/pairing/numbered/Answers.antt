use Rattle.std.proofs.Common.{rules, ◌≡◌, ◌<◌, ◌++◌, ◌∷◌, ◌∙◌, [], Some, ap, get_or, length, map, refl, slice_get, sym, List}
use Rattle.std.proofs.lemmas.List.{get_or_default}
use Rattle.std.proofs.lemmas.Option.{slice_get_read}
use Rattle.column_order.specs.declared.edge.Edge.{Edge}
use Rattle.msc_meaning.specs.Bodies.{EventNode}
use Rattle.level_weaving.specs.LevelPairs.{edge_at, number_or_zero}
use Rattle.level_weaving.specs.EventViews.{event_view}
use Rattle.level_pieces.proofs.Walks.{map_at, map_step}
use Rattle.level_weaving.proofs.pairing.numbered.Goals as goal

pub loop-pair-preserved : goal.loop-pair-preserved
loop-pair-preserved c =
    let none : Edge = record { from = 0; to = 0 } in
    let e : Edge = get_or c.args.pairs.now c.loop-pair.pair-index none in
    let is : e ≡ get_or c.args.pairs.now c.loop-pair.pair-index e = get_or_default c.args.pairs.now c.loop-pair.pair-index none e c.loop-pair-test.true in
    let low : (e.from < length c.args.events.now) × (e.to < length c.args.events.now) = c.requires c.loop-pair.pair-index none c.loop-pair-test.true in
    let held : List EventNode = map event_view c.args.events.now in
    let output = c.index-events-pair.result in
    let input = c.index-events-pair-in-loop-pair.result in
    let output_at : slice_get c.args.events.now e.from ≡ Some output = slice_get_read c.args.events.now (length c.args.events.now) e.from output refl low.0 c.index-events-pair.is in
    let input_at : slice_get c.args.events.now e.to ≡ Some input = slice_get_read c.args.events.now (length c.args.events.now) e.to input refl low.1 c.index-events-pair-in-loop-pair.is in
    let first : number_or_zero (slice_get held e.from) ≡ output.number = ap number_or_zero (map_at event_view c.args.events.now e.from output output_at) in
    let second : number_or_zero (slice_get held e.to) ≡ input.number = ap number_or_zero (map_at event_view c.args.events.now e.to input input_at) in
    let made : Edge = record { from = output.number; to = input.number } in
    let pushed : c.push.new.self.items ≡ c.loop-pair.edges.items ++ made ∷ [] = search rules in
    let pair : made ≡ edge_at held e = λ i. record { from = sym first i; to = sym second i } in
    map_step (edge_at held) c.args.pairs.now c.loop-pair.pair-index e c.loop-pair.edges.items c.push.new.self.items c.loop-pair-test.true is (pushed ∙ ap (λ (p : Edge). c.loop-pair.edges.items ++ p ∷ []) pair) ∙ c.loop-pair.invariant
