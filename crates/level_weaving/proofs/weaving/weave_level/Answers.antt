use Rattle.std.proofs.Common.{List, Option, map, subst}
use Rattle.msc_base.specs.Places.{IsLeast}
use Rattle.msc_base.specs.declared.place.Place.{Place}
use Rattle.msc_meaning.specs.Partners.{LacksPartner}
use Rattle.msc_meaning.specs.Pieces.{Piece}
use Rattle.msc_meaning.specs.Views.{body_view}
use Rattle.level_pieces.specs.PieceViews.{piece_view}
use Rattle.level_weaving.specs.Answers.{IsLevelAnswer}
use Rattle.level_weaving.specs.declared.answers.Answer.TheVariants as answer
use Rattle.level_weaving.proofs.LevelLaws.{level_is_unmatched, level_is_woven}
use Rattle.level_weaving.proofs.weaving.weave_level.Goals as goal

pub returns-in-Woven-default-Some-clause-fault : goal.returns-in-Woven-default-Some-clause-fault
returns-in-Woven-default-Some-clause-fault c =
    let ps : List Piece = map piece_view c.args.pieces.now in
    let cover = c.args.cover.now in
    let own : IsLevelAnswer cover ps (answer.Woven c.in-Woven-default-Some.field-0 c.in-Woven-default-Some.field-1) = subst (λ a. IsLevelAnswer cover ps a) c.in-Woven-default-Some.is c.in_ok-place.ensures in
    level_is_unmatched cover ps (body_view c.in-Woven-default-Some.field-0) own.0 own.1 c.in-Woven-default-Some.place
    (subst (λ (o : Option Place). IsLeast (LacksPartner (body_view c.in-Woven-default-Some.field-0)) o) c.in-Woven-default-Some.field-1-is own.2)

pub returns-in-Woven-default-None-clause-ok : goal.returns-in-Woven-default-None-clause-ok
returns-in-Woven-default-None-clause-ok c =
    let ps : List Piece = map piece_view c.args.pieces.now in
    let cover = c.args.cover.now in
    let own : IsLevelAnswer cover ps (answer.Woven c.in-Woven-default-None.body c.in-Woven-default-None.field-1) = subst (λ a. IsLevelAnswer cover ps a) c.in-Woven-default-None.is c.in_ok-place.ensures in
    level_is_woven cover ps (body_view c.in-Woven-default-None.body) own.0 own.1
    (subst (λ (o : Option Place). IsLeast (LacksPartner (body_view c.in-Woven-default-None.body)) o) c.in-Woven-default-None.field-1-is own.2)
