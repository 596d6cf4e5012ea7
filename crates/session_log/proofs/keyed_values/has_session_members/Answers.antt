use Rattle.std.proofs.Common.{◌≡◌, Some, rules}
use Rattle.serde_json.specs.Find.{as_object}
use Rattle.serde_json.specs.View.{view, members_view}
use Rattle.event_log.proofs.Objects.{has_members}
use Rattle.session_log.specs.Sessions.{is_session_member}
use Rattle.session_log.proofs.keyed_values.has_session_members.Goals as goal

pub returns-in-Some : goal.returns-in-Some
returns-in-Some c =
    let es = c.in-Some.members.now.entries in
    let object : as_object (view c.args.value.now) ≡ Some (members_view es) = search rules in
    has_members is_session_member (view c.args.value.now) es c.are_session_members.result object c.are_session_members.ensures
