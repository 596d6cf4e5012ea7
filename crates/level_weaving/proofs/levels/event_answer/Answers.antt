use Rattle.std.proofs.Common.{◌∷◌, List, map}
use Rattle.level_pieces.specs.PieceViews.{piece_view}
use Rattle.msc_meaning.specs.Pieces.{Piece}
use Rattle.msc_meaning.specs.Views.{item_view}
use Rattle.level_weaving.proofs.EventItems.{IsEventItem, event_at_one, event_is}
use Rattle.level_weaving.proofs.levels.event_answer.Goals as goal

pub copied_events_of-requires-clause-at_one : goal.copied_events_of-requires-clause-at_one
copied_events_of-requires-clause-at_one c = event_at_one (piece_view c.args.item.now.first) (map piece_view c.args.item.now.others.items) c.requires.parts c.requires.events

pub returns : goal.returns
returns c =
    let p : Piece = piece_view c.args.item.now.first in
    let others : List Piece = map piece_view c.args.item.now.others.items in
    let is : IsEventItem c.args.level.now (p ∷ others) (item_view c.in_ok-copied.copied) = event_is c.args.level.now p others (item_view c.in_ok-copied.copied) c.requires.parts c.requires.events (c.in_ok-copied.ensures c.args.level.now) in
    (is.woven, is.uncrossed, is.matched)
