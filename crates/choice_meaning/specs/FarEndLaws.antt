-- Where the gates of a level lead says nothing of what its unfoldings begin with: it changes the far ends of labels alone.
use Rattle.std.specs.Prelude.{◌≡◌}
use Rattle.msc_base.specs.Patterns.{Mode, Position, empty, one, join, bind, event_at}
use Rattle.msc_unfolding.specs.Unfoldings.{Happening, Unfolding, Tie, plain}
use Rattle.msc_meaning.specs.Bodies.{Body, WovenItems}
use Rattle.msc_meaning.specs.ChartUnfoldings.{OfItems, OfLevel}
use Rattle.msc_meaning.specs.FarEnds.{Around, Gates}
use Rattle.msc_meaning.specs.Tables.{Table}
use Rattle.choice_meaning.specs.FirstInstances.{IsFirst}

-- at the same instances, with the same tags
pub record SamePlace (h g : Happening) : Type 0 where
  pub at : h.label.at ≡ g.label.at
  pub also : h.also ≡ g.also
  pub tags : h.tags ≡ g.tags

-- the same events but for their labels, in the same order
pub data Alike : Unfolding → Unfolding → Type 0 where
  no_events : Alike empty empty
  one_event : {h g : Happening} → SamePlace h g → Alike (one h) (one g)
  in_join : {m : Mode} {u v w x : Unfolding} → Alike u v → Alike w x → Alike (join m u w) (join m v x)
  in_tie : {t : Tie} {u v : Unfolding} → Alike u v → Alike (bind u t) (bind v t)

-- one of these is like it
pub record HasAlike (unfolds : Unfolding → Type 0) (u : Unfolding) : Type 0 where
  pub other : Unfolding
  pub is : unfolds other
  pub alike : Alike u other

-- an event may come first in the other too, at the same instance
pub record BeginsAlike (u v : Unfolding) (p : Position u) : Type 0 where
  pub position : Position v
  pub first : IsFirst v position
  pub at : (event_at plain u p).label.at ≡ (event_at plain v position).label.at

-- whatever a level is given from around it, it has unfoldings that are alike; and those begin at the same instances
pub record FarEndsChangeNothing : Type 0 where
  pub levels : (table : Table) (a b : Around) (body : Body) (u : Unfolding) → OfLevel table a body u → HasAlike (OfLevel table b body) u
  pub items : (table : Table) (gates : Gates) (a b : Around) (held : WovenItems) (u : Unfolding) → OfItems table gates a held u → HasAlike (OfItems table gates b held) u
  pub begins : (u v : Unfolding) → Alike u v → (p : Position u) → IsFirst u p → BeginsAlike u v p
