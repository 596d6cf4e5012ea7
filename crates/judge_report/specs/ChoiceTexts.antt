-- How the choices of a chart that several instances make are printed.
use Rattle.std.specs.Prelude.{ℕ, List, [], ◌∷◌, ◌++◌, codes}
use Rattle.std.specs.Fmt.{decimal}
use Rattle.msc_base.specs.declared.place.Place.{Place}
use Rattle.judge_report.specs.Lists.{separated}

-- the line of a choice: its place, and the instances that make it
abbrev pub choice_line : Place → List (List ℕ) → List ℕ
choice_line place instances = codes "choice at " ++ (decimal place.line ++ (codes ":" ++ (decimal place.column ++ (codes ": " ++ (separated instances ++ 10 ∷ [])))))

-- the line behind those of all choices: how many they are
abbrev pub choices_end : ℕ → List ℕ
choices_end count = codes "choices " ++ (decimal count ++ 10 ∷ [])
