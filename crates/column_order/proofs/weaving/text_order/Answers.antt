use Rattle.std.proofs.Common.{rules, ◌≡◌, ◌++◌, ◌∷◌, []}
use Rattle.column_order.proofs.RisingColumns.{number_step}
use Rattle.column_order.proofs.weaving.text_order.Goals as goal

pub loop-item-preserved : goal.loop-item-preserved
loop-item-preserved c =
    let pushed : c.push.new.self.items ≡ c.loop-item.order.items ++ c.loop-item.item ∷ [] = search rules in
    number_step c.loop-item.order.items c.push.new.self.items c.loop-item.item c.args.count c.loop-item-test.true pushed c.loop-item.invariant
