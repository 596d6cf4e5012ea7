use Rattle.std.proofs.Common.{rules}
use Rattle.serde_json.specs.View.{view}
use Rattle.event_log.specs.Objects.{HasMembers, is_event_member}
use Rattle.event_log.proofs.Objects.{only_event}
use Rattle.event_log.proofs.json_line.object_event.Goals as goal

pub returns : goal.returns
returns c =
    let members : HasMembers is_event_member (view c.args.value.now) = search rules in
    only_event c.args.version (view c.args.value.now) c.event_of_members.result members c.event_of_members.ensures
