-- Serves private contracts alone.
-- What is left of the items of a refined chart, and the numbers that events of a refining chart stand for.
use Rattle.std.specs.BTreeMap.{BTreeMap, get}
use Rattle.std.specs.Ordering.{nat_cmp}
use Rattle.std.specs.List.{flat_map}
use Rattle.std.specs.Prelude.{◌≡◌, ℕ, Bool, true, false, List, [], ◌∷◌, Option, None, Some}
use Rattle.msc_base.specs.declared.label.Pair.{Pair}
use Rattle.msc_unfolding.specs.Unfoldings.{Tag, Own}
use Rattle.msc_meaning.specs.Bodies.{WovenItem, Single, Coregion, Inline, Refer}
use Rattle.msc_meaning.specs.Refinements.{Match, is_decomposed, left_of, stands_for}
use Rattle.msc_meaning.specs.Tables.{Refinement}

-- ---- what is left of an item

abbrev pub unless : Bool → WovenItem → List WovenItem
unless true x = []
unless false x = x ∷ []

abbrev pub left_item : List Refinement → WovenItem → List WovenItem
left_item rs (Single n) = unless (is_decomposed rs n) (Single n)
left_item rs (Coregion ns) = Coregion (left_of rs ns) ∷ []
left_item rs (Inline form part operands) = Inline form part operands ∷ []
left_item rs (Refer part) = Refer part ∷ []

-- ---- numbers that events stand for

abbrev pub own_tags : Option ℕ → List Tag
own_tags None = []
own_tags (Some n) = Own n ∷ []

-- the map has by the number of an event that of the event that it stands for
abbrev pub StandsFor : BTreeMap ℕ ℕ → List Match → Type 0
StandsFor numbers ms = (d : ℕ) → own_tags (get nat_cmp numbers d) ≡ stands_for ms d

abbrev pub pair_past : ℕ → Option ℕ → List Pair
pair_past m None = []
pair_past m (Some k) = record { first = m; second = k } ∷ []

-- the numbers of events, with those of the events that their own stand for
abbrev pub numbers_past : (ℕ → Option ℕ) → List Pair → List Pair
numbers_past number ps = flat_map (λ (p : Pair). pair_past p.first (number p.second)) ps
