-- Facts on bounds of pairs.
use Rattle.std.proofs.Common.{◌≡◌, ℕ, ◌==◌, ap₂, ◌≤◌, ◌||◌, ◌++◌, Bool, false, List, [], ◌∷◌, min, max, refl, arith}
use Rattle.std.specs.List.{list_any}
use Rattle.std.proofs.lemmas.Bool.Decides.{nat_tests}
use Rattle.std.proofs.lemmas.Bool.{or_parts}
use Rattle.msc_base.specs.declared.label.Pair.{Pair}
use Rattle.tie_list.specs.declared.facts.Bounds.{Bounds}
use Rattle.tie_list.specs.Facts.{IsWithin, AreWithin}
use Rattle.tie_list.specs.Names.{lies_in, overlap, has_end_in, has_second}

-- the bounds of both
abbrev pub joined : Bounds → Bounds → Bounds
joined a b = record { least_first = min a.least_first b.least_first; greatest_first = max a.greatest_first b.greatest_first; least_second = min a.least_second b.least_second; greatest_second = max a.greatest_second b.greatest_second }

-- the bounds with those of one more pair
abbrev pub added : Bounds → Pair → Bounds
added a p = record { least_first = min a.least_first p.first; greatest_first = max a.greatest_first p.first; least_second = min a.least_second p.second; greatest_second = max a.greatest_second p.second }

wider : (ps : List Pair) (a b : Bounds) → b.least_first ≤ a.least_first → a.greatest_first ≤ b.greatest_first → b.least_second ≤ a.least_second → a.greatest_second ≤ b.greatest_second → AreWithin ps a → AreWithin ps b
wider [] a b e f g h w = tt
wider (p ∷ ps) a b e f g h w = (
  record { least_first = omega (arith, e, w.0.least_first); greatest_first = omega (arith, f, w.0.greatest_first); least_second = omega (arith, g, w.0.least_second); greatest_second = omega (arith, h, w.0.greatest_second) },
  wider ps a b e f g h w.1,
)

both : (ps qs : List Pair) (b : Bounds) → AreWithin ps b → AreWithin qs b → AreWithin (ps ++ qs) b
both [] qs b w v = v
both (p ∷ ps) qs b w v = (w.0, both ps qs b w.1 v)

pub within_joined : (ps qs : List Pair) (a b : Bounds) → AreWithin ps a → AreWithin qs b → AreWithin (ps ++ qs) (joined a b)
within_joined ps qs a b w v =
    both ps qs (joined a b) (wider ps a (joined a b) (omega arith) (omega arith) (omega arith) (omega arith) w) (wider qs b (joined a b) (omega arith) (omega arith) (omega arith) (omega arith) v)

pub within_added : (ps : List Pair) (p : Pair) (a : Bounds) → AreWithin ps a → AreWithin (ps ++ p ∷ []) (added a p)
within_added ps p a w =
    both ps (p ∷ []) (added a p) (wider ps a (added a p) (omega arith) (omega arith) (omega arith) (omega arith) w)
    (record { least_first = omega arith; greatest_first = omega arith; least_second = omega arith; greatest_second = omega arith }, tt)

-- no pair passes a test that the bounds rule out
pub none_passes : (test : Pair → Bool) (ps : List Pair) (b : Bounds) → ((p : Pair) → IsWithin p b → test p ≡ false) → AreWithin ps b → list_any test ps ≡ false
none_passes test [] b f w = refl
none_passes test (p ∷ ps) b f w = rw (f p w.0) (none_passes test ps b f w.1)

outside : (least greatest low high n : ℕ) → overlap least greatest low high ≡ false → low ≤ n → n ≤ high → lies_in least greatest n ≡ false
outside least greatest low high n h f g = grind (arith, nat_tests)

-- bounds that lie apart from the numbers
pub no_end_in : (least greatest : ℕ) (ps : List Pair) (b : Bounds) → (overlap least greatest b.least_first b.greatest_first || overlap least greatest b.least_second b.greatest_second) ≡ false → AreWithin ps b → list_any (has_end_in least greatest) ps ≡ false
no_end_in least greatest ps b f w = none_passes (has_end_in least greatest) ps b none w
  where
    apart : (overlap least greatest b.least_first b.greatest_first ≡ false) × (overlap least greatest b.least_second b.greatest_second ≡ false)
    apart = or_parts (overlap least greatest b.least_first b.greatest_first) (overlap least greatest b.least_second b.greatest_second) f

    none : (p : Pair) → IsWithin p b → has_end_in least greatest p ≡ false
    none p v =
        ap₂ (λ s t. s || t) (outside least greatest b.least_first b.greatest_first p.first apart.0 v.least_first v.greatest_first)
        (outside least greatest b.least_second b.greatest_second p.second apart.1 v.least_second v.greatest_second)

other : (low high m n : ℕ) → lies_in low high n ≡ false → low ≤ m → m ≤ high → (m == n) ≡ false
other low high m n h f g = grind (arith, nat_tests)

pub no_second : (n : ℕ) (ps : List Pair) (b : Bounds) → lies_in b.least_second b.greatest_second n ≡ false → AreWithin ps b → list_any (has_second n) ps ≡ false
no_second n ps b f w = none_passes (has_second n) ps b (λ p v. other b.least_second b.greatest_second p.second n f v.least_second v.greatest_second) w

pub ruleset within = (within_joined, within_added)
