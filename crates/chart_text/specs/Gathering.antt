-- What a rule tells of each passage of a text, put together.
use Rattle.std.specs.Prelude.{◌+◌, ℕ, Bool, if◌then◌else◌, List, [], ◌∷◌, ◌++◌}
use Rattle.msc_base.specs.declared.place.Place.{Place}
use Rattle.chart_text.specs.Texts.{Passage}

-- the sum of what each passage counts
abbrev pub summed : (Passage → ℕ) → List Passage → ℕ
summed f [] = 0
summed f (x ∷ xs) = f x + summed f xs

-- the place, where something holds there
abbrev pub place_if : Bool → Place → List Place
place_if holds place = if holds then place ∷ [] else []
