use Rattle.std.proofs.Common.{◌≡◌, All, IsUtf8, Some, None, rules}
use Rattle.serde_json.specs.Read.{read}
use Rattle.serde_json.specs.View.{view}
use Rattle.msc_tokens.specs.Spelling.{IsBlank}
use Rattle.event_log.proofs.Objects.{says_written, says_unwritten}
use Rattle.event_log.proofs.json_line.read_json_line.Goals as goal

pub returns-in_default : goal.returns-in_default
returns-in_default g c =
    let line = c.args.bytes.now in
    let full : All IsBlank line → ⊥ = search rules in
    let none : IsUtf8 line → read line ≡ None = search rules in
    says_unwritten g.M.LineMeaning.rules c.args.version c.args.number line full none

pub returns : goal.returns
returns g c =
    let line = c.args.bytes.now in
    let full : All IsBlank line → ⊥ = search rules in
    let found : IsUtf8 line × (read line ≡ Some (view c.in-Some.value)) = search rules in
    says_written g.M.LineMeaning.rules c.args.version c.args.number line (view c.in-Some.value) c.read_value.result full found.0 found.1 c.read_value.ensures
