use Rattle.std.proofs.Common.{◌≡◌, ◌∷◌, ◌∙◌, ℕ, List, Option, Some, None, ap, drop, map, subst, sym, take}
use Rattle.msc_base.specs.Places.{IsLeast, earliest}
use Rattle.msc_base.specs.declared.place.Place.{Place}
use Rattle.msc_meaning.specs.Bodies.{Bodies, WovenItem, bodies}
use Rattle.msc_meaning.specs.LevelItems.{cover_of}
use Rattle.msc_meaning.specs.Levels.{AreWovenOperands, IsWovenItem, operand_number}
use Rattle.level_weaving.specs.LonelyItems.{ItemLacksPartner, OneLacksPartner}
use Rattle.msc_meaning.specs.Pieces.{Piece}
use Rattle.msc_meaning.specs.Views.{body_view, item_view}
use Rattle.level_pieces.specs.ItemOperands.{operands_in}
use Rattle.level_pieces.specs.PieceViews.{piece_view}
use Rattle.level_weaving.specs.Answers.{AreLevelsAnswer, AreWovenLevels, ItemCrosses, OneCrosses, crossed_at}
use Rattle.level_weaving.specs.JointItems.{joint_item_of}
use Rattle.level_weaving.specs.declared.answers.Answer.TheVariants as answer
use Rattle.level_weaving.proofs.JointLaws.{item_least, joint_lacks, joint_woven, own_operands}
use Rattle.level_weaving.proofs.LevelLaws.{answer_least}
use Rattle.level_weaving.proofs.levels.joint_answer.Goals as goal

pub returns-in-Crossed : goal.returns-in-Crossed
returns-in-Crossed c = λ level lists are is own beyond.
    let p : Piece = piece_view c.args.item.now.first in
    let others : List Piece = map piece_view c.args.item.now.others.items in
    let cover : List (List ℕ) = c.args.cover.now in
    let n : ℕ = operand_number (operands_in p.form) in
    let mine : AreLevelsAnswer cover (take n lists) (answer.Crossed c.in-Crossed.place) = subst (λ a. AreLevelsAnswer cover (take n lists) a) c.in-Crossed.is own in
    let rest : IsLeast (OneCrosses cover (drop n lists)) (crossed_at c.args.beyond.now) =
    answer_least (λ v. AreWovenLevels cover (drop n lists) (map body_view v.items)) (λ v. OneLacksPartner (bodies (map body_view v.items))) (OneCrosses cover (drop n lists)) c.args.beyond.now beyond in
    let all : IsLeast (ItemCrosses level (p ∷ others)) (earliest (crossed_at c.args.beyond.now) c.in-Crossed.place) = item_least level cover p others lists n (Some c.in-Crossed.place) (crossed_at c.args.beyond.now) are is mine rest in
    let told : earliest (crossed_at c.args.beyond.now) c.in-Crossed.place ≡ Some c.earlier_than.result = ap (λ (o : Option Place). earliest o c.in-Crossed.place) (sym c.crossed_place.ensures) ∙ sym c.earlier_than.ensures in
    subst (λ (o : Option Place). IsLeast (ItemCrosses level (p ∷ others)) o) told all

pub returns-in-Some : goal.returns-in-Some
returns-in-Some c = λ level lists are is own beyond.
    let p : Piece = piece_view c.args.item.now.first in
    let others : List Piece = map piece_view c.args.item.now.others.items in
    let cover : List (List ℕ) = c.args.cover.now in
    let n : ℕ = operand_number (operands_in p.form) in
    let mine : AreLevelsAnswer cover (take n lists) (answer.Woven c.in-Woven.operands c.in-Woven.alone) = subst (λ a. AreLevelsAnswer cover (take n lists) a) c.in-Woven.is own in
    let rest : IsLeast (OneCrosses cover (drop n lists)) (crossed_at c.args.beyond.now) =
    answer_least (λ v. AreWovenLevels cover (drop n lists) (map body_view v.items)) (λ v. OneLacksPartner (bodies (map body_view v.items))) (OneCrosses cover (drop n lists)) c.args.beyond.now beyond in
    let all : IsLeast (ItemCrosses level (p ∷ others)) (crossed_at c.args.beyond.now) = item_least level cover p others lists n None (crossed_at c.args.beyond.now) are is mine.1 rest in
    let told : crossed_at c.args.beyond.now ≡ Some c.in-Some.place = sym c.crossed_place-in-Woven.ensures ∙ c.in-Some.is in
    subst (λ (o : Option Place). IsLeast (ItemCrosses level (p ∷ others)) o) told all

pub returns-in_ok-made-in-None : goal.returns-in_ok-made-in-None
returns-in_ok-made-in-None c = λ level lists are is own beyond.
    let p : Piece = piece_view c.args.item.now.first in
    let others : List Piece = map piece_view c.args.item.now.others.items in
    let cover : List (List ℕ) = c.args.cover.now in
    let n : ℕ = operand_number (operands_in p.form) in
    let mine : AreLevelsAnswer cover (take n lists) (answer.Woven c.in-Woven.operands c.in-Woven.alone) = subst (λ a. AreLevelsAnswer cover (take n lists) a) c.in-Woven.is own in
    let rest : IsLeast (OneCrosses cover (drop n lists)) (crossed_at c.args.beyond.now) =
    answer_least (λ v. AreWovenLevels cover (drop n lists) (map body_view v.items)) (λ v. OneLacksPartner (bodies (map body_view v.items))) (OneCrosses cover (drop n lists)) c.args.beyond.now beyond in
    let all : IsLeast (ItemCrosses level (p ∷ others)) (crossed_at c.args.beyond.now) = item_least level cover p others lists n None (crossed_at c.args.beyond.now) are is mine.1 rest in
    let told : crossed_at c.args.beyond.now ≡ None = sym c.crossed_place-in-Woven.ensures ∙ c.in-None.is in
    let held : Bodies = bodies (map body_view c.in-Woven.operands.items) in
    let operands : AreWovenOperands (cover_of level p) (p ∷ others) 0 n held = subst (λ (w : List (List ℕ)). AreWovenOperands w (p ∷ others) 0 n held) is (own_operands cover p others lists (map body_view c.in-Woven.operands.items) are mine.0) in
    let made : WovenItem = joint_item_of (cover_of level p) p.place p.form held in
    let shown : item_view c.in_ok-made-in-None.made ≡ made = c.in_ok-made-in-None.ensures ∙ ap (λ (w : List (List ℕ)). joint_item_of w p.place p.form held) is in (
      subst (λ (i : WovenItem). IsWovenItem level (p ∷ others) i) (sym shown) (joint_woven level p others held operands c.requires.events c.requires.item),
      subst (λ (o : Option Place). IsLeast (ItemCrosses level (p ∷ others)) o) told all,
      subst (λ (i : WovenItem). IsLeast (ItemLacksPartner i) c.in-Woven.alone) (sym shown) (joint_lacks level p others held operands c.requires.events c.requires.item c.in-Woven.alone mine.2),
    )
