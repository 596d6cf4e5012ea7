-- The inner events of gates, through all levels and joins.
use Rattle.std.specs.Prelude.{◌≡◌, ℕ, false, List, [], ◌∷◌, ◌++◌, Option, Some, None}
use Rattle.std.specs.Option.{unwrap_or}
use Rattle.msc_base.specs.declared.label.Kind.{Kind}
use Rattle.msc_base.specs.declared.label.Pair.{Pair}
use Rattle.msc_base.specs.Orders.{Among}
use Rattle.msc_tree.specs.declared.event.Target.TheVariants.{Env}
use Rattle.msc_tree.specs.declared.reference.InlineForm.{InlineForm}
use Rattle.msc_tree.specs.declared.reference.Join.{Join}
use Rattle.msc_tree.specs.declared.reference.JoinEnd.TheVariants as join_end
use Rattle.msc_tree.specs.Expressions.{Expression, Empty, Chart, Alt, Par, Seq, Opt, Loop, Expressions, none, more}
use Rattle.msc_meaning.specs.Bodies.{EventNode, InlinePart, ReferencePart, Body, level, WovenItems, item_list, Inline, Refer, Bodies, body_and, events}
use Rattle.msc_meaning.specs.Tables.{Table, body_at}
use Rattle.msc_meaning.specs.Calls.{Call, calls, is_called}

abbrev mutual
  -- the charts that an expression names
  pub charts_in : Expression → List (List ℕ)
  charts_in Empty = []
  charts_in (Chart name) = name ∷ []
  charts_in (Alt parts) = charts_in_all parts
  charts_in (Par parts) = charts_in_all parts
  charts_in (Seq parts) = charts_in_all parts
  charts_in (Opt part) = charts_in part
  charts_in (Loop lower upper part) = charts_in part

  pub charts_in_all : Expressions → List (List ℕ)
  charts_in_all none = []
  charts_in_all (more x xs) = charts_in x ++ charts_in_all xs

-- an inner event, with the name of the chart that it stands in, where that isn't the chart that is looked at
pub record InnerEvent : Type 0 where
  pub chart : Option (List ℕ)
  pub node : EventNode

abbrev pub here : EventNode → InnerEvent
here n = record { chart = None; node = n }

-- the same, seen from another chart
abbrev pub in_chart : List ℕ → InnerEvent → InnerEvent
in_chart name e = record { chart = Some (unwrap_or e.chart name); node = e.node }

mutual
  -- e is an inner event of the gate of the level: its own; of an operand of an inline expression on which the gate isn't called; or
  -- of the gate of a reference that a join makes this gate of the level
  pub data IsInner (table : Table) : Body → List ℕ → InnerEvent → Type 0 where
    own : {cover : List (List ℕ)} {held : WovenItems} {pairs : List Pair} {g : List ℕ} {n : EventNode}
        → Among n (events held) → n.event.target ≡ Env (Some g) → IsInner table (level cover held pairs) g (here n)
    inside : {cover : List (List ℕ)} {held : WovenItems} {pairs : List Pair} {g : List ℕ} {e : InnerEvent} {form : InlineForm} {part : InlinePart} {operands : Bodies}
        → Among (Inline form part operands) (item_list held) → is_called (calls held) part.name g ≡ false → IsInnerOfSome table operands g e
        → IsInner table (level cover held pairs) g e
    passed : {cover : List (List ℕ)} {held : WovenItems} {pairs : List Pair} {g : List ℕ} {e : InnerEvent} {part : ReferencePart} {j : Join}
        → Among (Refer part) (item_list held) → Among j part.joins → j.to ≡ join_end.Env g → IsInnerOfExpression table part.expression j.gate e
        → IsInner table (level cover held pairs) g e

  -- of one of the operands
  pub data IsInnerOfSome (table : Table) : Bodies → List ℕ → InnerEvent → Type 0 where
    this : {body : Body} {others : Bodies} {g : List ℕ} {e : InnerEvent} → IsInner table body g e → IsInnerOfSome table (body_and body others) g e
    that : {body : Body} {others : Bodies} {g : List ℕ} {e : InnerEvent} → IsInnerOfSome table others g e → IsInnerOfSome table (body_and body others) g e

  -- of the body of a basic chart that the expression names
  pub data IsInnerOfExpression (table : Table) : Expression → List ℕ → InnerEvent → Type 0 where
    of_chart : {expression : Expression} {name : List ℕ} {body : Body} {g : List ℕ} {e : InnerEvent}
        → Among name (charts_in expression) → body_at table name ≡ Some body → IsInner table body g e → IsInnerOfExpression table expression g (in_chart name e)

-- e is an inner event of the gate of the level's reference or inline expression of that name
pub data IsInnerOf (table : Table) (held : WovenItems) : List ℕ → List ℕ → InnerEvent → Type 0 where
  of_inline : {name g : List ℕ} {e : InnerEvent} {form : InlineForm} {part : InlinePart} {operands : Bodies}
      → Among (Inline form part operands) (item_list held) → part.name ≡ Some name → IsInnerOfSome table operands g e → IsInnerOf table held name g e
  of_reference : {name g : List ℕ} {e : InnerEvent} {part : ReferencePart}
      → Among (Refer part) (item_list held) → part.name ≡ Some name → IsInnerOfExpression table part.expression g e → IsInnerOf table held name g e

-- a called gate, with the instance and the direction of its inner events: all are on one instance and have one direction
pub record GateEnd : Type 0 where
  pub name : List ℕ
  pub gate : List ℕ
  pub at : List ℕ
  pub kind : Kind

-- the called gates of a level, call by call
pub data AreEnds (table : Table) (held : WovenItems) : List Call → List GateEnd → Type 0 where
  no_ends : AreEnds table held [] []
  end_and : {c : Call} {cs : List Call} {ends : List GateEnd} (e : InnerEvent)
      → IsInnerOf table held c.name c.gate e → AreEnds table held cs ends
      → AreEnds table held (c ∷ cs) (record { name = c.name; gate = c.gate; at = e.node.at; kind = e.node.event.kind } ∷ ends)
