-- There are as many lists of references as a gathered body has levels.
use Rattle.std.proofs.Common.{◌≡◌, ℕ, true, false, List, ◌∷◌, Option, None, Some, length, length-append, refl, sym, ap, ◌∙◌, arith}
use Rattle.msc_tree.specs.declared.reference.InlineForm.{InlineForm}
use Rattle.msc_tree.specs.Statements.{Inline, Reference}
use Rattle.msc_meaning.specs.Bodies.{Body, Bodies, WovenItem, WovenItems}
use Rattle.msc_meaning.specs.BodyLevels.{item_levels, items_levels, levels_from, operands_levels}
use Rattle.msc_meaning.specs.Levels.{IsWovenItem}
use Rattle.msc_meaning.specs.Levels as woven
use Rattle.msc_meaning.specs.Pieces.{Piece}
use Rattle.level_gathering.specs.Gathered.{AreGatheredItems, AreGatheredOperands, IsGatheredItem, IsGatheredLevel, an_inline, as_woven, gathered, gathered_and, gathered_operand_and, is_inline, no_gathered_operand, none_gathered}
use Rattle.level_gathering.specs.GatheringLaws.{EachLevelHasItsReferences}

-- what is no inline expression has no level inside it
none_inside : {cover : List (List ℕ)} {parts : List Piece} {item : WovenItem} (p : Piece) (ps : List Piece) → parts ≡ p ∷ ps → is_inline p.form ≡ false → IsWovenItem cover parts item → 0 ≡ length (item_levels item)
none_inside p ps e other (woven.an_event f l) = refl
none_inside p ps e other (woven.a_coregion f l) = refl
none_inside p ps e other (woven.an_inline {p = q} {ps = qs} {head = head} {operands = held} f l) =
    let same : q ≡ p = cc in
    let here : p.form ≡ Inline head held = sym (ap (λ (z : Piece). z.form) same) ∙ f in
    let bad : true ≡ false = sym (ap is_inline here) ∙ other in cc
none_inside p ps e other (woven.a_reference f) = refl

mutual
  level_count : {cover : List (List ℕ)} {ps : List Piece} {body : Body} {r : List (List Reference)} (form : Option InlineForm) → IsGatheredLevel cover ps body r → length r ≡ length (levels_from form body)
  level_count form (gathered is) = omega (arith, items_count is)

  items_count : {cover : List (List ℕ)} {all : List (List Piece)} {held : WovenItems} {r : List (List Reference)} → AreGatheredItems cover all held r → length r ≡ length (items_levels held)
  items_count none_gathered = refl
  items_count (gathered_and {item = item} {held = held} {own = own} {behind = behind} is are) = omega (arith, length-append own behind, length-append (item_levels item) (items_levels held), item_count is, items_count are)

  item_count : {cover : List (List ℕ)} {parts : List Piece} {item : WovenItem} {r : List (List Reference)} → IsGatheredItem cover parts item r → length r ≡ length (item_levels item)
  item_count (as_woven {p = p} {ps = ps} other is) = none_inside p ps refl other is
  item_count (an_inline {head = head} f held) = operands_count head.form held

  operands_count : {cover : List (List ℕ)} {parts : List Piece} {k n : ℕ} {held : Bodies} {r : List (List Reference)} (form : InlineForm) → AreGatheredOperands cover parts k n held r → length r ≡ length (operands_levels form held)
  operands_count form no_gathered_operand = refl
  operands_count form (gathered_operand_and {body = body} {others = others} {own = own} {behind = behind} is are) =
      omega (arith, length-append own behind, length-append (levels_from (Some form) body) (operands_levels form others), level_count (Some form) is, operands_count form are)

pub each_level : EachLevelHasItsReferences
each_level cover ps body references is = level_count None is
