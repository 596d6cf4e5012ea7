-- What the command answers of the choices of a chart.
use Rattle.std.specs.Prelude.{◌≡◌, ◌++◌, ℕ, List, length, flat_map}
use Rattle.msc_meaning.specs.Tables.{Table}
use Rattle.choice_meaning.specs.ChoiceLists.{MadeChoice}
use Rattle.chart_choices.specs.declared.choice.Choice.{Choice}
use Rattle.chart_choices.specs.Listed.{IsListed, as_made}
use Rattle.judge_report.specs.ChoiceTexts.{choice_line, choices_end}

-- the line of a choice
abbrev pub made_line : MadeChoice → List ℕ
made_line m = choice_line m.place m.instances

abbrev pub listed_line : Choice → List ℕ
listed_line c = made_line (as_made c)

-- a line for each choice, and how many they are
abbrev pub choice_list : List MadeChoice → List ℕ
choice_list made = flat_map made_line made ++ choices_end (length made)

-- the choices of the chart of a name that several instances make are listed
pub record ListsChoices (table : Table) (name : List ℕ) (status : ℕ) (text : List ℕ) : Type 0 where
  pub made : List MadeChoice
  pub are : IsListed table name made
  pub status_is : status ≡ 0
  pub text_is : text ≡ choice_list made
