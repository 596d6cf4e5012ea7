-- What stands in a list stands in a longer one.
use Rattle.std.specs.Prelude.{List, [], ◌∷◌, ◌++◌}
use Rattle.msc_base.specs.Orders.{Among, first, later}

module _ {X : Type 0} where
  pub among_left : (a b : List X) (x : X) → Among x a → Among x (a ++ b)
  among_left (y ∷ a) b x first = first
  among_left (y ∷ a) b x (later i) = later (among_left a b x i)
  among_left [] b x i = elim i [ ]

  pub among_right : (a b : List X) (x : X) → Among x b → Among x (a ++ b)
  among_right [] b x i = i
  among_right (y ∷ a) b x i = later (among_right a b x i)
