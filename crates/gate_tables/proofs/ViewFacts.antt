-- What the plain items of a level are of the body's value.
use Rattle.std.proofs.Common.{◌≡◌, ap}
use Rattle.msc_meaning.specs.declared.body.Body.{Body, out-Body, fold_out-Body}
use Rattle.msc_meaning.specs.Bodies as body
use Rattle.msc_meaning.specs.Views.{item_step, body_step, inline_step, body_view}
use Rattle.msc_meaning.specs.ItemViews.{items_view}
use Rattle.gate_ends.specs.LevelGates.{items_in}

pub items_are : (b : Body) → items_in (body_view b) ≡ items_view (out-Body b).items.items
items_are b = ap items_in (fold_out-Body body.WovenItem body.Body body.WovenItem item_step body_step inline_step b)
