-- What stands in a mapped list.
use Rattle.std.specs.Prelude.{List, [], ◌∷◌, ◌≡◌, map, refl}
use Rattle.msc_base.specs.Orders.{Among, first, later}

pub among_map : {A B : Type 0} (f : A → B) {a : A} {l : List A} → Among a l → Among (f a) (map f l)
among_map f first = first
among_map f (later h) = later (among_map f h)

pub map_among : {A B : Type 0} (f : A → B) (l : List A) {b : B} → Among b (map f l) → (a : A) × (f a ≡ b) × Among a l
map_among f [] h = elim h [ ]
map_among f (a ∷ l) first = (a, refl, first)
map_among f (a ∷ l) (later h) = let (c, e, i) = map_among f l h in (c, e, later i)
