-- Serves private contracts alone.
-- Charts that needn't be expanded.
use Rattle.std.specs.Prelude.{◌≡◌, List, [], ◌∷◌}
use Rattle.msc_meaning.specs.Bodies.{Body, level, WovenItems, no_items, item_and, WovenItem, Single, Coregion, Inline, Refer, Bodies, no_bodies, body_and}
use Rattle.msc_meaning.specs.Tables.{ChartEntry, Woven, Basic, HighLevel, refinements}
use Rattle.written_order.specs.Rising.{IsRisingBody}

abbrev pub IsWritten : Woven → Type 0
IsWritten (Basic b) = IsRisingBody b
IsWritten (HighLevel drawn) = Unit {0}

-- a chart without decomposed instances that is written in order by itself
abbrev pub IsWrittenChart : ChartEntry → Type 0
IsWrittenChart c = (refinements c.decls ≡ []) × IsWritten c.content

-- each of them is
abbrev pub AreWritten : List ChartEntry → Type 0
AreWritten [] = Unit {0}
AreWritten (c ∷ charts) = IsWrittenChart c × AreWritten charts

-- no reference stands in it
abbrev mutual
  pub HasNoReference : Body → Type 0
  HasNoReference (level cover held pairs) = HaveNoReference held

  pub HaveNoReference : WovenItems → Type 0
  HaveNoReference no_items = Unit {0}
  HaveNoReference (item_and x xs) = ItemHasNoReference x × HaveNoReference xs

  pub ItemHasNoReference : WovenItem → Type 0
  ItemHasNoReference (Single k) = Unit {0}
  ItemHasNoReference (Coregion ks) = Unit {0}
  ItemHasNoReference (Inline form part operands) = OperandsHaveNoReference operands
  ItemHasNoReference (Refer part) = ⊥

  pub OperandsHaveNoReference : Bodies → Type 0
  OperandsHaveNoReference no_bodies = Unit {0}
  OperandsHaveNoReference (body_and b bs) = HasNoReference b × OperandsHaveNoReference bs

abbrev pub StandsAlone : Woven → Type 0
StandsAlone (Basic b) = HasNoReference b
StandsAlone (HighLevel drawn) = Unit {0}
