use Rattle.std.proofs.Common.{◌+◌, ◌∙◌, sym, subst, take}
use Rattle.std.specs.BTreeMap.{get}
use Rattle.std.specs.Ordering.{nat_cmp}
use Rattle.expansion_order.specs.Webs.{AreEntered}
use Rattle.expansion_order.specs.declared.web.Web.{Web}
use Rattle.expansion_order.proofs.Bars.{entered_past_step, entered_step}
use Rattle.expansion_order.proofs.web.enter.Goals as goal
use Rattle.expansion_order.proofs.web.enter.Goals.{in-Some+in_ok-push, in_default}

pub loop-stop-preserved : goal.loop-stop-preserved
loop-stop-preserved c = elim c.match-copied.branch [
  | in-Some+in_ok-push w ↦
      subst (λ (x : Web). AreEntered c.args.web.now x (get nat_cmp c.args.last.now) (take (c.loop-stop.stop-index + 1) c.args.stops.now)) (sym w.web-is)
      (entered_step c.args.web.now c.loop-stop.web (get nat_cmp c.args.last.now) c.args.stops.now c.loop-stop.stop-index (record { column = 0; number = 0 }) w.in-Some.bar w.push.new.self c.loop-stop-test.true
      (sym c.get.ensures.value ∙ sym c.copied.ensures ∙ w.in-Some.is) w.in_ok-push.ensures.ok c.loop-stop.invariant)
  | in_default w ↦
      subst (λ (x : Web). AreEntered c.args.web.now x (get nat_cmp c.args.last.now) (take (c.loop-stop.stop-index + 1) c.args.stops.now)) (sym w.web-is)
      (entered_past_step c.args.web.now c.loop-stop.web (get nat_cmp c.args.last.now) c.args.stops.now c.loop-stop.stop-index (record { column = 0; number = 0 }) c.loop-stop-test.true (sym c.get.ensures.value ∙ sym c.copied.ensures ∙ w.in_default.is) c.loop-stop.invariant)
]
