use Rattle.std.proofs.Common.{◌≡◌, rules}
use Rattle.event_log.specs.declared.event.LogForm.TheVariants.{Lines, Json}
use Rattle.event_log.proofs.Spelling.{says_in}
use Rattle.event_log.proofs.line.read_line.Goals as goal

pub returns-in-Lines : goal.returns-in-Lines
returns-in-Lines g c =
    let is : c.args.form ≡ Lines = search rules in
    says_in g.M.LineMeaning.rules c.args.form Lines c.args.version c.args.number c.args.bytes.now c.read_text_line.result is c.read_text_line.ensures

pub returns-in-Json : goal.returns-in-Json
returns-in-Json g c =
    let is : c.args.form ≡ Json = search rules in
    says_in g.M.LineMeaning.rules c.args.form Json c.args.version c.args.number c.args.bytes.now c.read_json_line.result is c.read_json_line.ensures
