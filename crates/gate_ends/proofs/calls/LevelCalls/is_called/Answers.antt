use Rattle.std.proofs.Common.{◌∙◌, sym, ap, is_some}
use Rattle.std.specs.List.{find}
use Rattle.msc_meaning.specs.Calls.{Call, is_call_of}
use Rattle.gate_ends.specs.CallViews.{caller_view}
use Rattle.gate_ends.proofs.Walks.{found_any, some_mapped}
use Rattle.gate_ends.proofs.calls.LevelCalls.is_called.Goals as goal

pub returns : goal.returns
returns c =
    let here = find (is_call_of c.args.name.now c.args.gate.now) c.args.self.now in
    c.is_some.ensures ∙ sym (some_mapped caller_view c.caller.result) ∙ ap is_some c.caller.ensures
    ∙ some_mapped (λ (k : Call). k.by) here ∙ found_any (is_call_of c.args.name.now c.args.gate.now) c.args.self.now
