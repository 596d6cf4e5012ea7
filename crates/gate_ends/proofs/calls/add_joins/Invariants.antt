use Rattle.std.proofs.Common.{◌≡◌, ◌++◌, drop}
use Rattle.std.specs.Option.{option_copied}
use Rattle.msc_meaning.specs.Calls.{joins_calls}
use Rattle.gate_ends.specs.CallViews.{calls_view}
use Rattle.gate_ends.proofs.calls.add_joins.Given as goal

abbrev pub invariant-loop-join : goal.invariant-loop-join
invariant-loop-join l = calls_view l.calls.items ++ joins_calls (option_copied l.own) (drop l.join-index l.joins) ≡ calls_view l.initial.calls.items ++ joins_calls (option_copied l.own) l.joins
