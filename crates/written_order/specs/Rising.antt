-- Charts whose text has the events in an order in which they can happen: on each level the numbers of its events rise, and so do its
-- message pairs, no event is ordered with others by their names, no gate ties events of two levels, and no instance is decomposed.
use Rattle.std.specs.Prelude.{◌≡◌, ◌<◌, ◌≤◌, ℕ, zero, suc, List, [], ◌∷◌, Option, None, Some}
use Rattle.msc_base.specs.declared.label.Pair.{Pair}
use Rattle.msc_base.specs.Orders.{Among}
use Rattle.msc_tree.specs.declared.event.Target.{Target}
use Rattle.msc_tree.specs.declared.event.Target.TheVariants.{Nobody, Env, Instance, Gate}
use Rattle.msc_meaning.specs.Bodies.{EventNode, Body, level, WovenItems, no_items, item_and, WovenItem, Single, Coregion, Inline, Refer, Bodies, no_bodies, body_and, events}
use Rattle.msc_meaning.specs.Tables.{Table, Woven, Basic, HighLevel, ChartEntry, chart_at, refinements}
use Rattle.gate_ends.specs.FoundEnds.{AreAll, level_names}

-- the other end is no gate
abbrev pub IsAtNoGate : Target → Type 0
IsAtNoGate Nobody = Unit {0}
IsAtNoGate (Env None) = Unit {0}
IsAtNoGate (Env (Some gate)) = ⊥
IsAtNoGate (Instance name) = Unit {0}
IsAtNoGate (Gate name gate) = ⊥

abbrev pub IsFree : EventNode → Type 0
IsFree k = (k.event.order.earlier_than ≡ []) × (k.event.order.later_than ≡ []) × IsAtNoGate k.event.target

-- the events have rising numbers, from the first bound on and below the second, and none is ordered with others by their names, or at a gate
abbrev pub RiseTo : ℕ → List EventNode → ℕ → Type 0
RiseTo low [] high = low ≤ high
RiseTo low (k ∷ ks) high = ((low ≤ k.number) × IsFree k) × RiseTo (suc k.number) ks high

pub record IsRisingLevel (held : WovenItems) (pairs : List Pair) : Type 0 where
  pub end : ℕ
  pub rise : RiseTo 0 (events held) end
  pub sent : (p : Pair) → Among p pairs → p.first < p.second

-- so it is on each level of the body, and no reference joins its gates
abbrev mutual
  pub IsRisingBody : Body → Type 0
  IsRisingBody (level cover held pairs) = IsRisingLevel held pairs × AreRisingItems held

  pub AreRisingItems : WovenItems → Type 0
  AreRisingItems no_items = Unit {0}
  AreRisingItems (item_and x xs) = IsRisingItem x × AreRisingItems xs

  pub IsRisingItem : WovenItem → Type 0
  IsRisingItem (Single k) = Unit {0}
  IsRisingItem (Coregion ks) = Unit {0}
  IsRisingItem (Inline form part operands) = AreRisingBodies operands
  IsRisingItem (Refer part) = part.joins ≡ []

  pub AreRisingBodies : Bodies → Type 0
  AreRisingBodies no_bodies = Unit {0}
  AreRisingBodies (body_and b bs) = IsRisingBody b × AreRisingBodies bs

abbrev pub IsRisingWoven : (List ℕ → Type 0) → Woven → Type 0
IsRisingWoven Rising (Basic b) = IsRisingBody b × AreAll Rising (level_names b)
IsRisingWoven Rising (HighLevel drawn) = Unit {0}

abbrev pub IsRisingEntry : (List ℕ → Type 0) → Option ChartEntry → Type 0
IsRisingEntry Rising None = Unit {0}
IsRisingEntry Rising (Some c) = (refinements c.decls ≡ []) × IsRisingWoven Rising c.content

-- no instance is decomposed, and so it is in each chart that it names, as deep as references go
abbrev pub IsRisingTo : Table → ℕ → List ℕ → Type 0
IsRisingTo table zero name = Unit {0}
IsRisingTo table (suc depth) name = IsRisingEntry (IsRisingTo table depth) (chart_at table name)
