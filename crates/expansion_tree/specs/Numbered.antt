-- Expansions whose events have numbers for their instances and labels.
use Rattle.expansion_tree.specs.Expansions as tree
use Rattle.expansion_tree.specs.declared.tree.ExpandedEvent.{ExpandedEvent}

abbrev pub Expansion : Type 0
Expansion = tree.Expansion ExpandedEvent

abbrev pub Expansions : Type 0
Expansions = tree.Expansions ExpandedEvent
