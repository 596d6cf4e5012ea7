-- Ranks of two parts, of which the second has the greater numbers, together: those of the second above all those of the first.
use Rattle.std.specs.Prelude.{ℕ, zero, suc, ◌+◌, ◌<◌, ◌≤◌, Bool, true, false, if◌then◌else◌}
use Rattle.std.proofs.Common.{◌≡◌, refl, subst, ap, arith}
use Rattle.std.proofs.Math.Dec.{ltb}
use Rattle.std.proofs.lemmas.Bool.{lt-ltb, le-ltb, ltb-true, ltb-false}
use Rattle.expansion_tree.specs.Expansions.{Expansion, Expansions, no_parts, part_and, map_events, map_all_events}
use Rattle.expansion_tree.specs.Numbered as numbered
use Rattle.expansion_tree.specs.declared.tree.ExpandedEvent.{ExpandedEvent}
use Rattle.expansion_order.specs.Ranks.{IsRanked, AreRankedInRow, AreRanked}
use Rattle.expanded_charts.specs.Expanding.{NumberedEvent}
use Rattle.node_ranks.specs.NodeRanks.{KeepsNumbers}
use Rattle.node_ranks.proofs.Placed.{IsIn, IsWithin, AreWithin}
use Rattle.node_ranks.proofs.Reranked.{counted_in, all_counted_in, reranked, row_reranked}

-- above the ranks of all lower numbers
abbrev bound : (ℕ → ℕ) → ℕ → ℕ
bound r zero = 0
bound r (suc m) = suc (r m + bound r m)

below_bound : (r : ℕ → ℕ) (m j : ℕ) → j < m → r j < bound r m
below_bound r zero j h = absurd (omega (arith, h))
below_bound r (suc m) j h = by (ltb j m) refl (below_bound r m j)
  where
    by : (c : Bool) → ltb j m ≡ c → (j < m → r j < bound r m) → r j < suc (r m + bound r m)
    by true e below = omega (arith, below (ltb-true j m e))
    by false e below = let same : m ≡ j = omega (arith, h, ltb-false j m e) in subst (λ (k : ℕ). r k < suc (r m + bound r m)) same (omega arith)

abbrev pub joined : ℕ → (ℕ → ℕ) → (ℕ → ℕ) → ℕ → ℕ
joined m r q j = if ltb j m then r j else bound r m + q j

joined_low : (m : ℕ) (r q : ℕ → ℕ) (j : ℕ) → j < m → joined m r q j ≡ r j
joined_low m r q j h = ap (λ c. if c then r j else bound r m + q j) (lt-ltb j m h)

joined_high : (m : ℕ) (r q : ℕ → ℕ) (j : ℕ) → m ≤ j → joined m r q j ≡ bound r m + q j
joined_high m r q j h = ap (λ c. if c then r j else bound r m + q j) (le-ltb j m h)

-- parts in a row are ranked as parts side by side are
pub row_is_all : (r : ℕ → ℕ) (xs : numbered.Expansions) → AreRankedInRow r xs → AreRanked r xs
row_is_all r no_parts h = tt
row_is_all r (part_and x xs) (h, p, k) = (h, row_is_all r xs k)

module _ (g : NumberedEvent → ExpandedEvent) (keeps : KeepsNumbers g) where
  pub joined_row : (low m high : ℕ) (r q : ℕ → ℕ) (x : Expansion NumberedEvent) (xs : Expansions NumberedEvent) → IsWithin low m x → AreWithin m high xs → IsRanked r (map_events g x) → AreRankedInRow q (map_all_events g xs)
      → AreRankedInRow (joined m r q) (map_all_events g (part_and x xs))
  joined_row low m high r q x xs w v h k =
      (reranked g keeps low m r (joined m r q) x first w h, (λ e s t i j same. between s.number t.number (counted_in g keeps low m x w s i) (all_counted_in g keeps m high xs v t j)), row_reranked g keeps m high q (joined m r q) xs second v k)
    where
      first : (i j : ℕ) → IsIn low m i → IsIn low m j → r i < r j → joined m r q i < joined m r q j
      first i j (a, b) (c, d) l = omega (arith, joined_low m r q i b, joined_low m r q j d, l)

      second : (i j : ℕ) → IsIn m high i → IsIn m high j → q i < q j → joined m r q i < joined m r q j
      second i j (a, b) (c, d) l = omega (arith, joined_high m r q i a, joined_high m r q j c, l)

      between : (i j : ℕ) → IsIn low m i → IsIn m high j → joined m r q i < joined m r q j
      between i j (a, b) (c, d) = omega (arith, joined_low m r q i b, joined_high m r q j c, below_bound r m i b)
