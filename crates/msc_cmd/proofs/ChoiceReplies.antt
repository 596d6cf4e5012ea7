-- The one outcome of a chart's choices.
use Rattle.std.proofs.Common.{◌≡◌, ◌∙◌, ◌++◌, ℕ, List, [], ◌∷◌, length, flat_map, refl, sym, ap, false, suc}
use Rattle.msc_meaning.specs.Tables.{Table}
use Rattle.chart_choices.specs.declared.choice.Choice.{Choice}
use Rattle.chart_choices.specs.Listed.{ChoiceListsAreOne, IsListed, made_choices}
use Rattle.judge_report.specs.ChoiceTexts.{choices_end}
use Rattle.msc_cmd.specs.ChoiceOutcomes.{ListsChoices, choice_list, listed_line, made_line}
use Rattle.msc_cmd.specs.Documents.{HasChartNamed}
use Rattle.msc_cmd.specs.Outcomes.{ChoicesAnswer, IsTheOne}
use Rattle.msc_cmd.proofs.Replies.{chart_one}

lines_made : (cs : List Choice) → flat_map listed_line cs ≡ flat_map made_line (made_choices cs)
lines_made [] = refl
lines_made (c ∷ cs) = ap (λ (t : List ℕ). listed_line c ++ t) (lines_made cs)

as_many : (cs : List Choice) → length cs ≡ length (made_choices cs)
as_many [] = refl
as_many (c ∷ cs) = ap (λ (n : ℕ). suc n) (as_many cs)

-- the lines of choices, and how many they are
pub listed_text : (cs : List Choice) (lines last text : List ℕ) → lines ≡ flat_map listed_line cs → last ≡ choices_end (length cs) → text ≡ lines ++ last → text ≡ choice_list (made_choices cs)
listed_text cs lines last text l e t =
    t ∙ ap (λ (ls : List ℕ). ls ++ last) (l ∙ lines_made cs) ∙ ap (λ (ls : List ℕ). flat_map made_line (made_choices cs) ++ ls) (e ∙ ap choices_end (as_many cs))

pub choices_one : (name : List ℕ) (table : Table) (cs : List Choice) (status : ℕ) (text : List ℕ) → ChoiceListsAreOne → HasChartNamed table name → IsListed table name (made_choices cs) → status ≡ 0 → text ≡ choice_list (made_choices cs)
    → IsTheOne (ChoicesAnswer name table) status text
choices_one name table cs status text one chart are s t = chart_one false name table (λ c. ListsChoices table name) chart.0 status text chart.1 (record {
  is = record { made = made_choices cs; are = are; status_is = s; text_is = t };
  only = λ other others o. (o.status_is ∙ sym s, o.text_is ∙ ap choice_list (one table name o.made (made_choices cs) o.are are) ∙ sym t);
})
