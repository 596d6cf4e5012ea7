-- How the labels that may come next are listed.
use Rattle.std.specs.Prelude.{ℕ, Bool, true, false, List, [], ◌∷◌, ◌++◌, length, flat_map, codes}
use Rattle.std.specs.Fmt.{decimal}
use Rattle.label_lines.specs.LabelLines.{label_line}
use Rattle.msc_base.specs.declared.label.Label.{Label}

-- the line of a label
abbrev pub next_label : Label → List ℕ
next_label l = label_line l ++ 10 ∷ []

-- whether the log may end here
abbrev pub state_word : Bool → List ℕ
state_word false = codes "open"
state_word true = codes "complete"

-- a line for each label, and how many they are
abbrev pub next_list : Bool → List Label → List ℕ
next_list conforms labels = flat_map next_label labels ++ (codes "next " ++ (decimal (length labels) ++ (codes ", " ++ (state_word conforms ++ 10 ∷ []))))
