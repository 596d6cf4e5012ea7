-- Columns whose items rise are in the order of the text.
use Rattle.std.proofs.Common.{◌≡◌, ℕ, ◌<◌, ◌≤◌, ◌+◌, ◌-◌, ◌++◌, zero, suc, List, [], ◌∷◌, inl, inr, All, subst, arith, append_assoc}
use Rattle.msc_base.specs.Lists.{IsAmong}
use Rattle.column_order.specs.declared.edge.Edge.{Edge}
use Rattle.column_order.specs.Counts.{targets}
use Rattle.column_order.specs.Columns.{columns_from}
use Rattle.column_order.specs.Weaving.{ColumnOrders}
use Rattle.column_order.specs.Laws.{AreInOrder, numbers_from}
use Rattle.column_order.specs.RisingEntries.{DoRise, DoAllRise}
use Rattle.column_order.proofs.EntryColumns.{columns_low}

least_among : (n : ℕ) (xs : List ℕ) → DoRise n xs → (x : ℕ) → IsAmong xs x → n ≤ x
least_among n [] h x a = absurd a
least_among n (y ∷ xs) h x (inl e) = let low = h.0 in omega (arith, e, low)
least_among n (y ∷ xs) h x (inr a) = let low = h.0 in let rest = least_among (suc y) xs h.1 x a in omega (arith, low, rest)

rise_before : (n : ℕ) (xs : List ℕ) → DoRise n xs → (y x : ℕ) → ColumnOrders xs y x → y < x
rise_before n [] h y x b = absurd b
rise_before n (z ∷ xs) h y x (inl p) = let e = p.0 in let rest = least_among (suc z) xs h.1 x p.1 in omega (arith, e, rest)
rise_before n (z ∷ xs) h y x (inr b) = rise_before (suc z) xs h.1 y x b

columns_rise : (k n : ℕ) (entries : List Edge) → DoAllRise entries → (column : List ℕ) → IsAmong (columns_from k n entries) column → (y x : ℕ) → ColumnOrders column y x → y < x
columns_rise k zero entries h column a y x b = absurd a
columns_rise k (suc n) entries h column (inl e) y x b = rise_before 0 (targets entries k) (h k) y x (subst (λ (c : List ℕ). ColumnOrders c y x) e b)
columns_rise k (suc n) entries h column (inr a) y x b = columns_rise (suc k) n entries h column a y x b

pub in_order : (count columns : ℕ) (entries : List Edge) → All (λ (e : Edge). (e.from < columns) × (e.to < count)) entries → DoAllRise entries → AreInOrder count (columns_from 0 columns entries)
in_order count columns entries inside h column a = (columns_low columns count 0 columns entries inside column a, columns_rise 0 columns entries h column a)

-- one more number
pub number_step : (order new : List ℕ) (k n : ℕ) → k < n → new ≡ order ++ k ∷ [] → order ++ numbers_from k (n - k) ≡ numbers_from 0 n → new ++ numbers_from (k + 1) (n - (k + 1)) ≡ numbers_from 0 n
number_step order new k n low is h =
    let m = n - suc k in
    let left : n - k ≡ suc m = omega (arith, low) in
    let up : k + 1 ≡ suc k = omega arith in
    let h' : order ++ k ∷ numbers_from (suc k) m ≡ numbers_from 0 n = rw left at h in
    rw (is, append_assoc, up) h'
