-- The list of a chart's choices: in the order of their places, and among those at one place in that of the woven list.
use Rattle.std.specs.Prelude.{◌≡◌, ◌&&◌, ℕ, Bool, List, filter, map, not}
use Rattle.msc_base.specs.declared.place.Place.{Place}
use Rattle.msc_base.specs.Places.{is_before}
use Rattle.msc_meaning.specs.Tables.{Table}
use Rattle.choice_meaning.specs.ChoiceLists.{IsChoiceList, MadeChoice}
use Rattle.chart_choices.specs.declared.choice.Choice.{Choice}

abbrev pub as_made : Choice → MadeChoice
as_made c = record { place = c.place; instances = c.instances }

abbrev pub made_choices : List Choice → List MadeChoice
made_choices cs = map as_made cs

-- neither stands before the other
abbrev pub is_at : Place → Place → Bool
is_at p q = not (is_before p q) && not (is_before q p)

-- the choices at that place, in their order
abbrev pub at_place : Place → List MadeChoice → List MadeChoice
at_place p ms = filter (λ (m : MadeChoice). is_at p m.place) ms

pub record IsListed (table : Table) (name : List ℕ) (listed : List MadeChoice) : Type 0 where
  pub list : IsChoiceList table name listed
  pub kept : (place : Place) → at_place place listed ≡ at_place place list.made

-- there is one such list
abbrev pub ChoiceListsAreOne : Type 0
ChoiceListsAreOne = (table : Table) (name : List ℕ) (a b : List MadeChoice) → IsListed table name a → IsListed table name b → a ≡ b
