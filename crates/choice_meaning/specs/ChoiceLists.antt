-- The list of the choices of a chart that several instances make.
use Rattle.std.specs.Prelude.{◌≡◌, ◌≤◌, ◌<◌, ℕ, false, List, [], ◌∷◌, Some, length}
use Rattle.std.specs.Cmp.Lexicographic.{slice_cmp}
use Rattle.std.specs.Ordering.{nat_cmp}
use Rattle.std.specs.List.Sorted.{IsPermutation, IsStrictlySortedBy}
use Rattle.msc_base.specs.declared.place.Place.{Place}
use Rattle.msc_base.specs.Orders.{Among}
use Rattle.msc_base.specs.Places.{is_before}
use Rattle.msc_meaning.specs.Tables.{Table, ChartEntry, chart_at}
use Rattle.choice_meaning.specs.Choices.{Choice, choices_of}
use Rattle.choice_meaning.specs.FirstInstances.{AreMakers}

-- where the expression of a choice stands, and the instances that make it
pub record MadeChoice : Type 0 where
  pub place : Place
  pub instances : List (List ℕ)

-- the instances that make the choice, in the order of their names
pub record AreMakersInOrder (table : Table) (c : Choice) (names : List (List ℕ)) : Type 0 where
  pub exact : AreMakers table c names
  pub rising : IsStrictlySortedBy (slice_cmp nat_cmp) names

-- of these choices those that several instances make, with them
pub data AreMade (table : Table) : List Choice → List MadeChoice → Type 0 where
  no_choice : AreMade table [] []
  by_several : {c : Choice} {cs : List Choice} {names : List (List ℕ)} {ms : List MadeChoice}
      → AreMakersInOrder table c names → 1 < length names → AreMade table cs ms → AreMade table (c ∷ cs) (record { place = c.place; instances = names } ∷ ms)
  by_one : {c : Choice} {cs : List Choice} {names : List (List ℕ)} {ms : List MadeChoice}
      → AreMakersInOrder table c names → length names ≤ 1 → AreMade table cs ms → AreMade table (c ∷ cs) ms

-- none stands before an earlier one in the text
abbrev pub AreInOrder : List MadeChoice → Type 0
AreInOrder [] = Unit {0}
AreInOrder (m ∷ ms) = ((n : MadeChoice) → Among n ms → is_before n.place m.place ≡ false) × AreInOrder ms

-- the choices of the chart of that name that several instances make, in the order of their places
pub record IsChoiceList (table : Table) (name : List ℕ) (listed : List MadeChoice) : Type 0 where
  pub chart : ChartEntry
  pub is : chart_at table name ≡ Some chart
  pub made : List MadeChoice
  pub are : AreMade table (choices_of chart) made
  pub same : IsPermutation made listed
  pub ordered : AreInOrder listed
