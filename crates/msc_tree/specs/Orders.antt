-- What a boxed general order stands for.
use Rattle.std.specs.Prelude.{List, ℕ, Option, Some, None, []}
use Rattle.std.specs.Box.{box_value}
use Rattle.std.specs.Global.{Box}
use Rattle.msc_tree.specs.declared.general_order.GeneralOrder.{GeneralOrder}

-- no name, and no events that it is ordered with
abbrev pub no_order : GeneralOrder
no_order = record { event_name = None; earlier_than = []; later_than = [] }

abbrev pub order_of : Option (Box GeneralOrder) → GeneralOrder
order_of None = no_order
order_of (Some b) = box_value b

abbrev pub with_name : Option (List ℕ) → GeneralOrder → GeneralOrder
with_name event_name order = record order { event_name = event_name }
