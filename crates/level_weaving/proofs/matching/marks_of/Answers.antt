use Rattle.std.proofs.Common.{rules, arith, ◌≡◌, ◌++◌, ◌∷◌, [], List, length, map, subst, ◌∙◌}
use Rattle.std.proofs.lemmas.List.{length-map, take_all}
use Rattle.level_weaving.specs.declared.events.PlacedEvent.{PlacedEvent}
use Rattle.level_weaving.specs.EventViews.{event_view}
use Rattle.level_weaving.specs.Marks.{IsMark, AreMarks, key_view}
use Rattle.level_weaving.proofs.MarkLaws.{marks_more}
use Rattle.level_weaving.proofs.matching.marks_of.Goals as goal

pub loop-placed-preserved : goal.loop-placed-preserved
loop-placed-preserved c =
    let is : IsMark (map key_view c.mark_of.new.keys.keys) (event_view c.placed-item.result) c.in_ok-mark.mark = search rules in
    let after : c.push.new.self.items ≡ c.loop-placed.held.items ++ c.in_ok-mark.mark ∷ [] = search rules in
    marks_more (map key_view c.loop-placed.keys.keys) (map key_view c.mark_of.new.keys.keys) c.args.events.now c.loop-placed.placed-index c.placed-item.result c.loop-placed.held.items
    c.push.new.self.items c.in_ok-mark.mark (omega arith) c.placed-item.is c.mark_of.ensures.kept c.loop-placed.invariant is after

pub returns : goal.returns
returns c =
    let count : length c.loop-placed.keys.keys ≡ c.in_ok-classes.classes = search rules in
    record {
      keys = map key_view c.loop-placed.keys.keys;
      are = subst (λ (es : List PlacedEvent). AreMarks (map key_view c.loop-placed.keys.keys) (map event_view es) c.loop-placed.held.items) (take_all c.loop-placed.placed-index c.args.events.now (omega arith)) c.loop-placed.invariant;
      count = length-map c.loop-placed.keys.keys key_view ∙ count;
    }
