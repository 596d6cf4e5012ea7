use Rattle.std.proofs.Common.{◌≡◌, take, flat_map}
use Rattle.msc_cmd.specs.ChoiceOutcomes.{listed_line}
use Rattle.msc_cmd.proofs.choices.choice_lines.Given as goal

abbrev pub invariant-loop-choice : goal.invariant-loop-choice
invariant-loop-choice l = l.bytes.items ≡ flat_map listed_line (take l.choice-index l.choices)
