use Rattle.std.proofs.Common.{◌≡◌, Some, rules}
use Rattle.serde_json.specs.Find.{as_object}
use Rattle.serde_json.specs.View.{view, members_view}
use Rattle.event_log.specs.Objects.{is_event_member}
use Rattle.event_log.proofs.Objects.{has_members}
use Rattle.event_log.proofs.json_line.has_event_members.Goals as goal

pub returns-in-Some : goal.returns-in-Some
returns-in-Some c =
    let es = c.in-Some.members.now.entries in
    let object : as_object (view c.args.value.now) ≡ Some (members_view es) = search rules in
    has_members is_event_member (view c.args.value.now) es c.are_event_members.result object c.are_event_members.ensures
