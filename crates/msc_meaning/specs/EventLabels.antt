-- What an event of a chart says, as far as it says so itself.
use Rattle.std.specs.Prelude.{ℕ, List}
use Rattle.msc_base.specs.declared.label.Label.{Label}
use Rattle.msc_tree.specs.Labels.{label_of}
use Rattle.msc_meaning.specs.Bodies.{EventNode}

-- its label as a log would have it too; the far end of an event at a gate is known only around the level
abbrev pub written_label : EventNode → Label
written_label n = label_of n.at n.event

-- its text, with a list in parentheses behind the name of a message or timer; a pairing name is no part of it
abbrev pub text_of : EventNode → List ℕ
text_of n = (written_label n).text
