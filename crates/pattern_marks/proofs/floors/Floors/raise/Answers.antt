use Rattle.std.proofs.Common.{◌∙◌, ◌∷◌, ◌++◌, [], ap}
use Rattle.pattern_marks.specs.HeldFloors.{HeldFloors, put_at}
use Rattle.pattern_marks.proofs.Raising.{on_ok, raised_high}
use Rattle.pattern_marks.proofs.floors.Floors.raise.Goals as goal

pub returns : goal.returns
returns c = on_ok c.put.result _ _ (λ h.
    raised_high c.args.floor c.args.self.now _ c.at-before.result c.at-before.ensures c.if-before-floor.false
    (h ∙ ap (λ (s : HeldFloors). put_at s.places c.args.floor) c.self.view_is)
    (c.in_ok-push.ensures.items ∙ ap (λ (s : HeldFloors). s.journal ++ record { instance = c.args.floor.instance; place = c.at-before.result } ∷ []) c.self.view_is)
    (ap (λ (s : HeldFloors). s.aside) c.self.view_is)
    (ap (λ (s : HeldFloors). s.levels) c.self.view_is)) c.put.ensures
