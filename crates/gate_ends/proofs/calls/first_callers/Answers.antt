use Rattle.std.proofs.Common.{arith, ◌≡◌, ◌∙◌, ◌-◌, ◌&&◌, ◌∷◌, List, Option, Some, sym, ap, drop, option_map, if◌then◌else◌}
use Rattle.std.specs.List.{find}
use Rattle.std.specs.Str.{bytes_eq}
use Rattle.indexmap.specs.IndexMap.{get_by}
use Rattle.msc_meaning.specs.Calls as plain
use Rattle.gate_ends.specs.CallViews.{call_view, caller_view, calls_view}
use Rattle.gate_ends.specs.declared.calls.Call.{Call}
use Rattle.gate_ends.specs.declared.calls.CalledGate.{CalledGate}
use Rattle.gate_ends.proofs.Walks.{mapped_if}
use Rattle.gate_ends.proofs.Walks.{dropped}
use Rattle.gate_ends.proofs.calls.first_callers.Goals as goal

pub loop-left-preserved : goal.loop-left-preserved
loop-left-preserved c = record {
  low = omega arith;
  first = λ name gate.
      let i = c.loop-left.left - 1 in
      let call = c.index-calls-left.result in
      let key : CalledGate = record { name = record { ref_ptr = (0, 0); now = name }; gate = record { ref_ptr = (0, 0); now = gate } } in
      let calls = calls_view (drop c.loop-left.left c.args.calls.now) in
      let is : drop i c.args.calls.now ≡ call ∷ drop c.loop-left.left c.args.calls.now = dropped c.args.calls.now i c.loop-left.left call (omega arith) (omega arith) c.index-calls-left.is in
      let test = plain.is_call_of name gate in
      let b = test (call_view call) in
      let before = get_by (λ (k : CalledGate). bytes_eq name k.name.now && bytes_eq gate k.gate.now) c.loop-left.first in
      ap (option_map caller_view) (c.in_ok-insert.ensures.updates.0 key)
      ∙ mapped_if caller_view b (Some call.by) before
      ∙ ap (λ (o : Option plain.Caller). if b then Some (caller_view call.by) else o) (c.loop-left.invariant.first name gate)
      ∙ sym (mapped_if (λ (k : plain.Call). k.by) b (Some (call_view call)) (find test calls))
      ∙ ap (λ (cs : List Call). option_map (λ (k : plain.Call). k.by) (find test (calls_view cs))) (sym is);
}
