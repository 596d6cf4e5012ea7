use Rattle.std.proofs.Common.{◌≡◌, take, flat_map}
use Rattle.judge_report.specs.NextTexts.{next_label}
use Rattle.judge_report.proofs.next.label_lines.Given as goal

abbrev pub invariant-loop-label : goal.invariant-loop-label
invariant-loop-label l = l.bytes.items ≡ flat_map next_label (take l.label-index l.labels)
