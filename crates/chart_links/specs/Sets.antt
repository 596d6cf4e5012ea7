-- Sets of the numbers of charts and instances: the numbers that a chart's expanded instances have, and the charts to which one leads.
use Rattle.std.specs.Prelude.{◌≡◌, ◌<◌, ℕ, true, List, max, min, length, slice_index}
use Rattle.std.specs.Int.Bits.{bit_and, bit_or}
use Rattle.bit_sets.specs.Blocks.{has_bit}
use Rattle.chart_links.specs.Rows.{RowHas}
use Rattle.chart_links.specs.Tables.{IsNumber}

-- each word has the bits that it had, and those that the other two have in common
pub record HasBitsOfCommon (words one other new : List ℕ) : Type 0 where
  pub long : length new ≡ max (length words) (min (length one) (length other))
  pub united : (k : ℕ) → slice_index new k ≡ bit_or (slice_index words k) (bit_and (slice_index one k) (slice_index other k))

-- the row of the chart's number has the number
pub record HasExpanded (names expanded : List (List ℕ)) (chart : List ℕ) (n : ℕ) : Type 0 where
  pub from : ℕ
  pub from_is : IsNumber names chart from
  pub has : RowHas expanded from n

-- a number of a set is in the row
pub record MeetsRow (rows : List (List ℕ)) (row : ℕ) (set : List ℕ) : Type 0 where
  pub number : ℕ
  pub there : RowHas rows row number
  pub among : has_bit set number ≡ true

-- a number of a set is one of the chart's
pub record MeetsExpanded (names expanded : List (List ℕ)) (chart : List ℕ) (set : List ℕ) : Type 0 where
  pub number : ℕ
  pub there : HasExpanded names expanded chart number
  pub among : has_bit set number ≡ true

-- the row has another number than its own below the count, which is in the set
pub record MeetsOther (rows : List (List ℕ)) (count row : ℕ) (set : List ℕ) : Type 0 where
  pub number : ℕ
  pub low : number < count
  pub other : number ≡ row → ⊥
  pub there : RowHas rows row number
  pub among : has_bit set number ≡ true

-- the chart leads to one of another number, which is in the set
pub record LeadsToOther (names reach : List (List ℕ)) (chart : List ℕ) (set : List ℕ) : Type 0 where
  pub from : ℕ
  pub from_is : IsNumber names chart from
  pub one : MeetsOther reach (length names) from set
