-- The earliest of the places that are noted is the earliest of those that are told.
use Rattle.std.proofs.Common.{◌≡◌, List, [], ◌++◌, Option, ap, ◌∙◌, subst}
use Rattle.msc_base.specs.Lists.{IsAmong}
use Rattle.msc_base.specs.Places.{IsLeast}
use Rattle.msc_base.specs.declared.place.Place.{Place}

pub least_told : (old new told : List Place) (o : Option Place) → old ≡ [] → new ≡ old ++ told → IsLeast (IsAmong new) o → IsLeast (IsAmong told) o
least_told old new told o none made h = let P : List Place → Type 0 = λ xs. IsLeast (IsAmong xs) o in subst P (made ∙ ap (λ xs. xs ++ told) none) h
