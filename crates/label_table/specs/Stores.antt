-- What holds of the labels of a table and of what finds them.
use Rattle.std.specs.Prelude.{ℕ, ◌≡◌, ◌≤◌, List, Some, length, slice_get}
use Rattle.std.specs.BTreeMap.{BTreeMap, get}
use Rattle.std.specs.declared.cmp.Ordering.{Ordering}
use Rattle.msc_base.specs.Stored.{most_numbered}
use Rattle.msc_base.specs.declared.label.Label.{Label}
use Rattle.label_table.specs.Keys.{TextNumbers, AreTextNumbers, IsKey}
use Rattle.label_table.specs.contracts.key.LabelKeyOrd.TheImpl as key_ord
use Rattle.label_table.specs.declared.key.LabelKey.{LabelKey}

-- the order of keys
abbrev pub key_order : LabelKey → LabelKey → Ordering
key_order = (key_ord.ghosts).cmp

-- keys and the numbers of their labels
abbrev pub KeyNumbers : Type 0
KeyNumbers = BTreeMap LabelKey ℕ

-- the label is found under this number
pub record IsFound (texts : TextNumbers) (keys : KeyNumbers) (l : Label) (n : ℕ) : Type 0 where
  pub key : LabelKey
  pub is : IsKey texts l key
  pub at : get key_order keys key ≡ Some n

-- there are as many labels as numbers of 32 bits, and each is found
pub record AreStored (texts : TextNumbers) (keys : KeyNumbers) (labels : List Label) : Type 0 where
  pub few : length labels ≤ most_numbered
  pub numbers : AreTextNumbers texts
  pub found : (n : ℕ) (l : Label) → slice_get labels n ≡ Some l → IsFound texts keys l n
