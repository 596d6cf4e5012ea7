use Rattle.std.proofs.Common.{◌≡◌, Some, codes, rules, subst, sym}
use Rattle.serde_json.specs.View.{view}
use Rattle.msc_base.specs.Names.{IsName}
use Rattle.msc_base.specs.Only.{Never, Only}
use Rattle.event_log.specs.Objects.{HasMembers, HasEvent, text_at}
use Rattle.session_log.specs.Sessions.{IsKeyedObject, is_session_member}
use Rattle.session_log.specs.declared.keyed.KeyedLabel.{KeyedLabel}
use Rattle.session_log.proofs.Lines.{only_object}
use Rattle.session_log.proofs.keyed_values.keyed_object.Goals as goal

pub returns-in_ok-new-in-Some-2 : goal.returns-in_ok-new-in-Some-2
returns-in_ok-new-in-Some-2 c =
    let d = view c.args.value.now in
    let members : HasMembers is_session_member d = search rules in
    let key : (text_at (codes "session") d ≡ Some c.in-Some.key) × IsName c.in-Some.key = search rules in
    let only : Only (HasEvent c.args.version d) c.in-Some-2.label = search rules in
    subst (λ (e : KeyedLabel). Only (IsKeyedObject c.args.version d) e) (sym c.in_ok-new-in-Some-2.ensures)
    (only_object c.args.version d c.in-Some.key c.in-Some-2.label members key.0 key.1 only)

pub returns-in-None : goal.returns-in-None
returns-in-None c =
    let none : Never (HasEvent c.args.version (view c.args.value.now)) = search rules in
    λ event is. none event.label is.is
