use Rattle.std.proofs.Common.{◌≡◌, ◌++◌, take, flat_map}
use Rattle.judge_report.proofs.NameLists.{behind_comma}
use Rattle.judge_report.proofs.choices.push_names.Given as goal

abbrev pub invariant-loop-name : goal.invariant-loop-name
invariant-loop-name l = l.bytes.items ≡ l.initial.bytes.items ++ flat_map behind_comma (take l.name-index l.others)
