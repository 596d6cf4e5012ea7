use Rattle.std.proofs.Common.{◌≡◌, take, flat_map}
use Rattle.judge_report.specs.Lists.{instance_line}
use Rattle.judge_report.proofs.lists.instance_lines.Given as goal

abbrev pub invariant-loop-decl : goal.invariant-loop-decl
invariant-loop-decl l = l.bytes.items ≡ flat_map instance_line (take l.decl-index l.listed)
