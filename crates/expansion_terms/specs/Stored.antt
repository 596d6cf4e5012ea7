-- Expansions whose events a term has room for.
use Rattle.std.specs.Option.{ForSome}
use Rattle.std.specs.Prelude.{◌<◌, List}
use Rattle.msc_base.specs.declared.limits.TheConstants.Limits.{INSTANCES}
use Rattle.msc_base.specs.Orders.{Among}
use Rattle.expansion_tree.specs.declared.tree.ExpandedEvent.{ExpandedEvent}

-- its instances are within the limit, the lower number first
pub record IsStored (e : ExpandedEvent) : Type 0 where
  pub at : e.at < INSTANCES
  pub also : ForSome e.also (λ second. (e.at < second) × (second < INSTANCES))

-- each of the events is
abbrev pub AreStored : List ExpandedEvent → Type 0
AreStored es = (e : ExpandedEvent) → Among e es → IsStored e
