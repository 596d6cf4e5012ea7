-- Of which bodies terms are made.
use Rattle.std.specs.Prelude.{◌≡◌, ℕ, Bool, true, false, List, [], ◌∷◌, Some, None}
use Rattle.chart_text.specs.WellFormed.{has_parts}
use Rattle.msc_base.specs.Lists.{IsAmong}
use Rattle.msc_base.specs.declared.label.Kind.TheVariants.{Create}
use Rattle.msc_tree.specs.declared.event.Target.{Target}
use Rattle.msc_tree.specs.declared.event.Target.TheVariants.{Instance}
use Rattle.msc_tree.specs.declared.reference.InlineForm.{InlineForm}
use Rattle.msc_tree.specs.declared.reference.InlineForm.TheVariants as inline
use Rattle.msc_meaning.specs.Bodies.{EventNode, Body, level, WovenItems, no_items, item_and, WovenItem, Single, Coregion, Inline, Refer, Bodies, no_bodies, body_and}

-- as many operands as the form has
abbrev pub has_operands : InlineForm → Bodies → Bool
has_operands inline.Alt no_bodies = false
has_operands inline.Alt (body_and operand others) = true
has_operands inline.Opt no_bodies = false
has_operands inline.Opt (body_and operand no_bodies) = true
has_operands inline.Opt (body_and operand (body_and other others)) = false
has_operands inline.Exc no_bodies = false
has_operands inline.Exc (body_and operand no_bodies) = true
has_operands inline.Exc (body_and operand (body_and other others)) = false
has_operands inline.Par operands = true
has_operands inline.Loop no_bodies = false
has_operands inline.Loop (body_and operand no_bodies) = true
has_operands inline.Loop (body_and operand (body_and other others)) = false

module _ (names : List (List ℕ)) where
  -- the other end is one of these instances, and not the one at which the event stands
  pub record IsChild (at : List ℕ) (target : Target) : Type 0 where
    pub child : List ℕ
    pub is : target ≡ Instance child
    pub among : IsAmong names child
    pub other : child ≡ at → ⊥

  -- an event at one of these instances; where it creates, another of them
  abbrev pub IsBuiltNode : EventNode → Type 0
  IsBuiltNode n = IsAmong names n.at × (n.event.kind ≡ Create → IsChild n.at n.event.target)

  abbrev pub AreBuiltNodes : List EventNode → Type 0
  AreBuiltNodes [] = Unit {0}
  AreBuiltNodes (n ∷ ns) = IsBuiltNode n × AreBuiltNodes ns

  -- such events, inline expressions with as many operands as their forms have, references whose expressions have parts
  abbrev mutual
    pub IsBuiltBody : Body → Type 0
    IsBuiltBody (level cover held pairs) = AreBuiltItems held

    pub AreBuiltItems : WovenItems → Type 0
    AreBuiltItems no_items = Unit {0}
    AreBuiltItems (item_and x xs) = IsBuiltItem x × AreBuiltItems xs

    pub IsBuiltItem : WovenItem → Type 0
    IsBuiltItem (Single n) = IsBuiltNode n
    IsBuiltItem (Coregion ns) = AreBuiltNodes ns
    IsBuiltItem (Inline form part operands) = (has_operands form operands ≡ true) × AreBuiltBodies operands
    IsBuiltItem (Refer part) = has_parts part.expression ≡ true

    pub AreBuiltBodies : Bodies → Type 0
    AreBuiltBodies no_bodies = Unit {0}
    AreBuiltBodies (body_and b bs) = IsBuiltBody b × AreBuiltBodies bs
