use Rattle.std.proofs.Common.{rules, ◌≡◌, ◌<◌, All, List, subst, sym}
use Rattle.msc_base.specs.declared.label.Pair.{Pair}
use Rattle.msc_meaning.specs.Bodies.{events}
use Rattle.msc_meaning.specs.ItemViews.{items_view}
use Rattle.msc_meaning.specs.declared.body.Body.{out-Body}
use Rattle.msc_meaning.specs.declared.body.Item as rust_item
use Rattle.general_ordering.proofs.ViewFacts.{body_is}
use Rattle.written_order.specs.Rising.{AreRisingItems, IsRisingBody, RiseTo}
use Rattle.written_order.proofs.Rises.{body_rises}
use Rattle.written_order.proofs.rising.+rising.Goals as goal

pub is_rising-returns-in-Some : goal.is_rising-returns-in-Some
is_rising-returns-in-Some t c = λ e.
    let held = out-Body c.args.body.now in
    let sent : All (λ (p : Pair). p.first < p.second) held.pairs = search rules in
    let one : c.as_slice-2.result.now ≡ held.items.items = search rules in
    let two : c.as_slice-in-Some.result.now ≡ held.items.items = search rules in
    let rise = subst (λ (l : List rust_item.Item). RiseTo 0 (events (items_view l)) c.in-Some.field-0) one c.in-Some.ensures in
    let inside = subst (λ (l : List rust_item.Item). AreRisingItems (items_view l)) two (c.are_rising.ensures e) in
    subst IsRisingBody (sym (body_is c.args.body.now)) (body_rises held.cover (items_view held.items.items) held.pairs c.in-Some.field-0 sent rise inside)
