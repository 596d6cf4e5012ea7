use Rattle.std.proofs.Common.{◌&&◌, ◌∙◌, ℕ, List, Some, ap, ap₂, if◌then◌else◌, nat_eq}
use Rattle.std.specs.Borrow.{Bor}
use Rattle.msc_meaning.specs.Views.{node_view}
use Rattle.msc_meaning.specs.declared.body.EventNode.{EventNode}
use Rattle.refined_events.specs.Keys.{Key, is_same_key}
use Rattle.refined_events.specs.Sorted.{placed_at}
use Rattle.refined_events.specs.declared.placed.PlaceKey.{PlaceKey}
use Rattle.refined_events.proofs.CountLaws.{placed_in, placed_more}
use Rattle.refined_events.proofs.placed.PlacedEvents.add_key.Goals as goal

pub returns : goal.returns
returns c = record {
  counts = c.in_ok-add.ensures;
  placed = λ k n.
      ap (λ (es : List (PlaceKey × Bor EventNode)). placed_in es k n) c.in_ok-insert.ensures.entries
      ∙ placed_more c.args.self.now.held.entries (record { key = c.in_ok-copy.field-0; before = c.at-before.result }) _ k n
      ∙ ap₂ (λ (l : Key) (m : ℕ). if is_same_key k l && nat_eq n m then Some (node_view c.args.node.now) else placed_at c.args.self.now k n) c.in_ok-copy.ensures c.at-before.ensures;
}
