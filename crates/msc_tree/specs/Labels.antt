-- What an event says: its label, as a chart and a log have it alike.
use Rattle.std.specs.Prelude.{ℕ, List, [], ◌∷◌, ◌++◌, Option, Some, None, codes}
use Rattle.msc_base.specs.declared.label.Far.{Far}
use Rattle.msc_base.specs.declared.label.Far.TheVariants as far
use Rattle.msc_base.specs.declared.label.Label.{Label}
use Rattle.msc_tree.specs.declared.event.RawEvent.{RawEvent}
use Rattle.msc_tree.specs.declared.event.Target.{Target}
use Rattle.msc_tree.specs.declared.event.Target.TheVariants.{Nobody, Env, Instance, Gate}

-- each behind a comma
abbrev pub with_commas : List (List ℕ) → List ℕ
with_commas [] = []
with_commas (item ∷ items) = codes "," ++ (item ++ with_commas items)

-- what stands inside the parentheses
abbrev pub inside_text : List (List ℕ) → List ℕ
inside_text [] = []
inside_text (item ∷ items) = item ++ with_commas items

-- a list in parentheses without blanks, where there is one, as it stands behind the name of a message or timer
abbrev pub list_text : Option (List (List ℕ)) → List ℕ
list_text None = []
list_text (Some items) = codes "(" ++ (inside_text items ++ codes ")")

-- the far end as a label has it; gates aren't built
abbrev pub far_of : Target → Far
far_of Nobody = far.Nobody
far_of (Env gate) = far.Env
far_of (Instance name) = far.Instance name
far_of (Gate reference gate) = far.Env

-- what an event at the instance says. The pairing name is no part of its text
abbrev pub label_of : List ℕ → RawEvent → Label
label_of at e = record { at = at; kind = e.kind; text = e.text ++ list_text e.parameters; far = far_of e.target }
