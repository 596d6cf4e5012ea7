use Rattle.std.proofs.Common.{◌≡◌, ◌∷◌, ◌∙◌, List, Option, Some, ap, length, map, refl, slice_get, subst, sym}
use Rattle.std.proofs.lemmas.List.{length-map}
use Rattle.std.proofs.lemmas.Option.{slice_get_read}
use Rattle.msc_base.specs.Places.{IsLeast, earliest}
use Rattle.msc_base.specs.declared.place.Place.{Place}
use Rattle.msc_meaning.specs.Bodies.{items}
use Rattle.msc_meaning.specs.Crossings.{ColumnsCross}
use Rattle.msc_meaning.specs.LevelItems.{level_items}
use Rattle.msc_meaning.specs.Levels.{AreWovenItems}
use Rattle.level_weaving.specs.LonelyItems.{ItemsLackPartner}
use Rattle.msc_meaning.specs.Pieces.{Piece}
use Rattle.msc_meaning.specs.Views.{item_view}
use Rattle.level_pieces.specs.PieceViews.{parts_view, piece_view}
use Rattle.level_pieces.specs.declared.pieces.LevelItem as code
use Rattle.level_pieces.proofs.Walks.{map_at}
use Rattle.level_weaving.specs.Answers.{ItemsCross, crossed_at}
use Rattle.level_weaving.specs.LevelNumbers.{numbers_to}
use Rattle.level_weaving.proofs.LevelLaws.{answer_least, stuck_least}
use Rattle.level_weaving.proofs.levels.stuck_level.Goals as goal

pub returns : goal.returns
returns c =
    let ps : List Piece = map piece_view c.args.pieces.now in
    let cover = c.args.cover.now in
    let held : List code.LevelItem = c.args.items.now in
    let item : code.LevelItem = c.index-items-number.result in
    let read : slice_get held c.args.number ≡ Some item = slice_get_read held (length held) c.args.number item refl c.requires.low c.index-items-number.is in
    let at : slice_get (level_items ps) c.args.number ≡ Some (piece_view item.first ∷ map piece_view item.others.items) =
    subst (λ (l : List (List Piece)). slice_get l c.args.number ≡ Some (parts_view item)) c.requires.items (map_at parts_view held c.args.number item read) in
    let count : length (level_items ps) ≡ length held = ap length (sym c.requires.items) ∙ length-map held parts_view in
    let least : IsLeast (ItemsCross cover (map parts_view held) (numbers_to (length held))) (crossed_at c.args.answer.now) =
    answer_least (λ v. AreWovenItems cover (map parts_view held) (numbers_to (length held)) (items (map item_view v.items))) (λ v. ItemsLackPartner (items (map item_view v.items)))
    (ItemsCross cover (map parts_view held) (numbers_to (length held))) c.args.answer.now c.requires.answer in
    let own : IsLeast (ItemsCross cover (level_items ps) (numbers_to (length held))) (crossed_at c.args.answer.now) =
    subst (λ (l : List (List Piece)). IsLeast (ItemsCross cover l (numbers_to (length held))) (crossed_at c.args.answer.now)) c.requires.items least in
    let all : IsLeast (ColumnsCross cover ps) (earliest (crossed_at c.args.answer.now) item.first.place) =
    stuck_least cover ps c.args.number (piece_view item.first) (map piece_view item.others.items) c.requires.stuck at (length held) count (crossed_at c.args.answer.now) own in
    let is : earliest (crossed_at c.args.answer.now) item.first.place ≡ Some c.earlier_than.result = ap (λ (o : Option Place). earliest o item.first.place) (sym c.crossed_place.ensures) ∙ ap (λ (i : code.LevelItem). earliest c.crossed_place.result i.first.place) c.index-items-number.is ∙ sym c.earlier_than.ensures in
    subst (λ (o : Option Place). IsLeast (ColumnsCross cover ps) o) is all
