use Rattle.std.proofs.Common.{rules, ◌≡◌, ◌<◌, ◌∙◌, List, ℕ, Option, None, Some, length, map, ap, sym, subst}
use Rattle.std.proofs.lemmas.List.{length-map}
use Rattle.column_order.specs.declared.edge.Edge.{Edge}
use Rattle.column_order.specs.Pairing.{RiseFrom}
use Rattle.msc_base.specs.Lists.{AreDifferent}
use Rattle.msc_base.specs.Places.{IsLeast}
use Rattle.msc_base.specs.declared.place.Place.{Place}
use Rattle.msc_meaning.specs.Bodies.{Body, EventNode, WovenItems, items, level}
use Rattle.msc_meaning.specs.LevelItems.{level_items}
use Rattle.msc_meaning.specs.Levels.{IsWovenLevel}
use Rattle.msc_meaning.specs.Pairing.{ArePairs}
use Rattle.msc_meaning.specs.Partners.{LacksPartner}
use Rattle.msc_meaning.specs.Pieces.{Piece}
use Rattle.msc_meaning.specs.Views.{body_view, item_view}
use Rattle.level_pieces.specs.Earliest.{earliest_of}
use Rattle.level_pieces.specs.ItemNumbers.{first_parts}
use Rattle.level_pieces.specs.ItemParts.{AreItems}
use Rattle.level_pieces.specs.PieceViews.{parts_view, piece_view}
use Rattle.level_pieces.proofs.ItemLaws.{level_parts}
use Rattle.level_pieces.proofs.Walks.{all_low}
use Rattle.level_weaving.specs.Answers.{AreItemsAnswer, ItemsCross}
use Rattle.level_weaving.specs.EventViews.{event_view}
use Rattle.level_weaving.specs.LevelNodes.{ordered_nodes}
use Rattle.level_weaving.specs.LevelPairs.{number_of}
use Rattle.level_weaving.specs.Marks.{LeadsPairs}
use Rattle.level_weaving.specs.Messages.{IsUnmatched}
use Rattle.level_weaving.specs.declared.answers.Answer.TheVariants as answer
use Rattle.level_weaving.proofs.LevelLaws.{numbers_differ, whole_lacks, whole_least, whole_woven}
use Rattle.level_weaving.proofs.levels.whole_level.Goals as goal

pub ordered_events-requires : goal.ordered_events-requires
ordered_events-requires c =
    let ps : List Piece = map piece_view c.args.pieces.now in
    let count : length (level_items ps) ≡ length c.args.items.now = ap length (sym c.requires.items) ∙ length-map c.args.items.now parts_view in
    all_low c.args.order.now (length c.args.items.now) (λ x h. subst (λ (n : ℕ). x < n) count (c.requires.order.inside x h))

pub level_pairs-requires-clause-different : goal.level_pairs-requires-clause-different
level_pairs-requires-clause-different c =
    let ps : List Piece = map piece_view c.args.pieces.now in
    let events : c.in_ok-events-in-Woven.events ≡ ordered_nodes (first_parts (level_items ps)) c.args.order.now =
    c.in_ok-events-in-Woven.ensures ∙ ap (λ (l : List (List Piece)). ordered_nodes (first_parts l) c.args.order.now) c.requires.items in
    subst (λ (ns : List EventNode). AreDifferent (map number_of ns)) (sym (c.as_slice-in-Woven.ensures ∙ events)) (numbers_differ ps c.args.order.now c.requires.numbered c.requires.order.once)

pub level_pairs-requires-clause-pairs : goal.level_pairs-requires-clause-pairs
level_pairs-requires-clause-pairs c =
    let pairs : LeadsPairs (map event_view c.as_slice.result.now) c.in_ok-pairs-in-Woven.pairs.items = c.in_ok-pairs-in-Woven.ensures.pairs in
    subst (λ (es : List Edge). LeadsPairs (map event_view c.as_slice-in-Woven.result.now) es) (sym c.as_slice-in-Woven-2.ensures.value)
    (subst (λ (ns : List EventNode). LeadsPairs ns c.in_ok-pairs-in-Woven.pairs.items) (c.as_slice.ensures ∙ sym c.as_slice-in-Woven.ensures) pairs)

pub level_pairs-requires-clause-rising : goal.level_pairs-requires-clause-rising
level_pairs-requires-clause-rising c = subst (λ (es : List Edge). RiseFrom 0 es) (sym c.as_slice-in-Woven-2.ensures.value) c.in_ok-pairs-in-Woven.ensures.rising

pub first_unmatched-requires : goal.first_unmatched-requires
first_unmatched-requires c =
    let pairs : LeadsPairs (map event_view c.as_slice.result.now) c.in_ok-pairs-in-Woven.pairs.items = c.in_ok-pairs-in-Woven.ensures.pairs in
    subst (λ (es : List Edge). LeadsPairs (map event_view c.as_slice-in-Woven-3.result.now) es) (sym c.as_slice-in-Woven-4.ensures.value)
    (subst (λ (ns : List EventNode). LeadsPairs ns c.in_ok-pairs-in-Woven.pairs.items) (c.as_slice.ensures ∙ sym c.as_slice-in-Woven-3.ensures) pairs)

pub returns-in-Crossed : goal.returns-in-Crossed
returns-in-Crossed c =
    let ps : List Piece = map piece_view c.args.pieces.now in
    let answer : AreItemsAnswer c.args.cover.now (map parts_view c.args.items.now) c.args.order.now (answer.Crossed c.in-Crossed.place) =
    subst (λ a. AreItemsAnswer c.args.cover.now (map parts_view c.args.items.now) c.args.order.now a) c.in-Crossed.is c.requires.answer in
    whole_least c.args.cover.now ps c.args.order.now c.requires.order (Some c.in-Crossed.place)
    (subst (λ (l : List (List Piece)). IsLeast (ItemsCross c.args.cover.now l c.args.order.now) (Some c.in-Crossed.place)) c.requires.items answer)

pub returns-in_ok-names-in-Woven : goal.returns-in_ok-names-in-Woven
returns-in_ok-names-in-Woven c =
    let ps : List Piece = map piece_view c.args.pieces.now in
    let cover : List (List ℕ) = c.args.cover.now in
    let order : List ℕ = c.args.order.now in
    let held : WovenItems = items (map item_view c.in-Woven.list.items) in
    let given : AreItemsAnswer cover (level_items ps) order (answer.Woven c.in-Woven.list c.in-Woven.inner) =
    subst (λ (l : List (List Piece)). AreItemsAnswer cover l order (answer.Woven c.in-Woven.list c.in-Woven.inner)) c.requires.items
    (subst (λ a. AreItemsAnswer cover (map parts_view c.args.items.now) order a) c.in-Woven.is c.requires.answer) in
    let events : c.in_ok-events-in-Woven.events ≡ ordered_nodes (first_parts (level_items ps)) order =
    c.in_ok-events-in-Woven.ensures ∙ ap (λ (l : List (List Piece)). ordered_nodes (first_parts l) order) c.requires.items in
    let all : AreItems (level_items ps) = level_parts ps c.requires.formed c.requires.numbered in
    let paired : ArePairs (ordered_nodes (first_parts (level_items ps)) order) c.in_ok-by_number-in-Woven.by_number =
    subst (λ (ns : List EventNode). ArePairs ns c.in_ok-by_number-in-Woven.by_number) (c.as_slice-in-Woven.ensures ∙ events) c.in_ok-by_number-in-Woven.ensures in
    let own : IsLeast (IsUnmatched (ordered_nodes (first_parts (level_items ps)) order)) c.in_ok-own-in-Woven.own =
    subst (λ (ns : List EventNode). IsLeast (IsUnmatched ns) c.in_ok-own-in-Woven.own) (c.as_slice-in-Woven-3.ensures ∙ events) c.in_ok-own-in-Woven.ensures in
    let names : c.in_ok-names-in-Woven.names ≡ cover = search rules in
    let made : Body = level cover held c.in_ok-by_number-in-Woven.by_number in
    let shape : body_view c.made_body-body.result ≡ made = c.made_body-body.ensures ∙ ap (λ (ns : List (List ℕ)). level ns held c.in_ok-by_number-in-Woven.by_number) names in
    let woven : IsWovenLevel cover ps made = whole_woven cover ps order c.requires.order held c.in_ok-by_number-in-Woven.by_number all c.requires.numbered given.0 paired in
    let lacks : IsLeast (LacksPartner made) (earliest_of c.in_ok-own-in-Woven.own c.in-Woven.inner) =
    whole_lacks cover ps order c.requires.order held c.in_ok-by_number-in-Woven.by_number all c.requires.numbered given.0 paired c.in_ok-own-in-Woven.own c.in-Woven.inner own given.2 in (
      subst (λ (b : Body). IsWovenLevel cover ps b) (sym shape) woven,
      whole_least cover ps order c.requires.order None given.1,
      subst (λ (b : Body). IsLeast (LacksPartner b) c.earlier_of.result) (sym shape) (subst (λ (o : Option Place). IsLeast (LacksPartner made) o) (sym c.earlier_of.ensures) lacks),
    )
