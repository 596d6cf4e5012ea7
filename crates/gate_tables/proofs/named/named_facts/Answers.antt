use Rattle.std.proofs.Common.{◌∙◌, ◌-◌, List, true, refl, sym, ap, arith}
use Rattle.msc_meaning.specs.ItemViews.{items_view}
use Rattle.msc_meaning.specs.declared.body.Item.{Item}
use Rattle.gate_tables.specs.KeptMaps.{kept_of}
use Rattle.gate_tables.specs.KnownFacts.{known_of}
use Rattle.gate_tables.proofs.KnownLaws.{both_same}
use Rattle.gate_ends.proofs.Walks.{dropped}
use Rattle.gate_tables.proofs.named.named_facts.Goals as goal

pub loop-left-preserved : goal.loop-left-preserved
loop-left-preserved c = record {
  low = omega arith;
  named = λ n g.
      c.in_ok-add_item.ensures n g
      ∙ both_same true refl (c.loop-left.invariant.named n g)
      ∙ ap (λ (xs : List Item). known_of (kept_of c.args.known.now) (items_view xs) n g) (sym (dropped c.args.items.now (c.loop-left.left - 1) c.loop-left.left c.index-items-left.result (omega arith) (omega arith) c.index-items-left.is));
}
