-- The test by floors is exact.
use Rattle.std.specs.Prelude.{ℕ, ◌<◌, Bool, false, true, ◌≡◌, max, cond, refl}
use Rattle.std.proofs.Common.{arith, inl, inr}
use Rattle.msc_base.specs.Patterns.{seq, par, Position, empty, one, join, bind, event_at, Before}
use Rattle.chart_term.specs.TermPatterns.{Both}
use Rattle.chart_term.specs.Terms.{TermEvent}
use Rattle.certificates.specs.Certificates.{PlacedShape, placed, place_at}
use Rattle.certificates.specs.Floors.{Floors, raised, floors_behind, IsAbove, DoPairsRise, Stands}
use Rattle.certificates.proofs.Meeting.{is_at, meets_at, at_meets}

-- all pairs go forward
abbrev IsForward : PlacedShape → Type 0
IsForward p = (i j : Position p) → Before placed p i j → place_at p i < place_at p j

-- each event stands above the floors
abbrev AreAbove : Floors → PlacedShape → Type 0
AreAbove f p = (i : Position p) → IsAbove f (event_at placed p i).event (place_at p i)

-- each event at the instance has a lower place
abbrev AreBelow : PlacedShape → ℕ → ℕ → Type 0
AreBelow p i m = (j : Position p) → is_at (event_at placed p j).event i ≡ true → place_at p j < m

floor_is : (f : Floors) (e : TermEvent) (n i m : ℕ) → raised f e n i < m → (f i < m) × (is_at e i ≡ true → n < m)
floor_is f e n i m h = go (is_at e i) h
  where
    go : (t : Bool) → cond t (max (f i) n) (f i) < m → (f i < m) × (t ≡ true → n < m)
    go true h = (omega arith, λ e. omega arith)
    go false h = (h, λ e. cc)

floor_below : (f : Floors) (e : TermEvent) (n i m : ℕ) → f i < m → (is_at e i ≡ true → n < m) → raised f e n i < m
floor_below f e n i m h k = go (is_at e i) k
  where
    go : (t : Bool) → (t ≡ true → n < m) → cond t (max (f i) n) (f i) < m
    go true k = let l = k refl in omega (arith, h, l)
    go false k = h

-- what is above the floors behind a pattern is above those before it, and above each of its events
behind_is : (f : Floors) (p : PlacedShape) (i m : ℕ) → floors_behind f p i < m → (f i < m) × AreBelow p i m
behind_is f empty i m h = (h, λ j e. absurd j)
behind_is f (one d) i m h = let r = floor_is f d.event d.place i m h in (r.0, λ j e. r.1 e)
behind_is f (join seq x y) i m h =
    let r = behind_is (floors_behind f x) y i m h in
    let s = behind_is f x i m r.0 in
    (s.0, both s.1 r.1)
  where
    both : AreBelow x i m → AreBelow y i m → AreBelow (join seq x y) i m
    both g k (inl j) e = g j e
    both g k (inr j) e = k j e
behind_is f (join par x y) i m h =
    let r = behind_is f y i m (omega arith) in
    let s = behind_is f x i m (omega arith) in
    (s.0, both s.1 r.1)
  where
    both : AreBelow x i m → AreBelow y i m → AreBelow (join par x y) i m
    both g k (inl j) e = g j e
    both g k (inr j) e = k j e
behind_is f (bind x q) i m h = behind_is f x i m h

behind_below : (f : Floors) (p : PlacedShape) (i m : ℕ) → f i < m → AreBelow p i m → floors_behind f p i < m
behind_below f empty i m h k = h
behind_below f (one d) i m h k = floor_below f d.event d.place i m h (k tt)
behind_below f (join seq x y) i m h k = behind_below (floors_behind f x) y i m (behind_below f x i m h (λ j. k (inl j))) (λ j. k (inr j))
behind_below f (join par x y) i m h k = let r = behind_below f x i m h (λ j. k (inl j)) in let s = behind_below f y i m h (λ j. k (inr j)) in omega (arith, r, s)
behind_below f (bind x q) i m h k = behind_below f x i m h k

-- the test says that all events stand above the floors, and all pairs go forward
stands_so : (f : Floors) (p : PlacedShape) → Stands f p → AreAbove f p × IsForward p
stands_so f empty h = (λ i. absurd i, λ i j b. absurd i)
stands_so f (one d) h = (λ i. h, λ i j b. absurd b)
stands_so f (join seq x y) h =
    let r = stands_so f x h.0 in
    let s = stands_so (floors_behind f x) y h.1 in
    (above r.0 s.0, forward r.1 s.1 s.0)
  where
    above : AreAbove f x → AreAbove (floors_behind f x) y → AreAbove f (join seq x y)
    above r s (inl i) k e = r i k e
    above r s (inr i) k e = (behind_is f x k (place_at y i) (s i k e)).0

    forward : IsForward x → IsForward y → AreAbove (floors_behind f x) y → IsForward (join seq x y)
    forward r s a (inl i) (inl j) b = r i j b
    forward r s a (inl i) (inr j) b =
        let (k, e, d) = meets_at (event_at placed x i).event (event_at placed y j).event b in
        (behind_is f x k (place_at y j) (a j k d)).1 i e
    forward r s a (inr i) (inl j) b = absurd b
    forward r s a (inr i) (inr j) b = s i j b
stands_so f (join par x y) h =
    let r = stands_so f x h.0 in
    let s = stands_so f y h.1 in
    (above r.0 s.0, forward r.1 s.1)
  where
    above : AreAbove f x → AreAbove f y → AreAbove f (join par x y)
    above r s (inl i) = r i
    above r s (inr i) = s i

    forward : IsForward x → IsForward y → IsForward (join par x y)
    forward r s (inl i) (inl j) b = r i j b
    forward r s (inl i) (inr j) b = absurd b
    forward r s (inr i) (inl j) b = absurd b
    forward r s (inr i) (inr j) b = s i j b
stands_so f (bind x q) h = let r = stands_so f x h.0 in (r.0, forward r.1 h.1)
  where
    forward : IsForward x → DoPairsRise x q → IsForward (bind x q)
    forward r d i j (inl b) = r i j b
    forward r d i j (inr b) = d i j b

so_stands : (f : Floors) (p : PlacedShape) → AreAbove f p → IsForward p → Stands f p
so_stands f empty a h = tt
so_stands f (one d) a h = a tt
so_stands f (join seq x y) a h = (
  so_stands f x (λ i. a (inl i)) (λ i j b. h (inl i) (inl j) b),
  so_stands (floors_behind f x) y (λ j k e. behind_below f x k (place_at y j) (a (inr j) k e) (λ i d. h (inl i) (inr j) (at_meets (event_at placed x i).event (event_at placed y j).event k d e))) (λ i j b. h (inr i) (inr j) b),
)
so_stands f (join par x y) a h = (so_stands f x (λ i. a (inl i)) (λ i j b. h (inl i) (inl j) b), so_stands f y (λ i. a (inr i)) (λ i j b. h (inr i) (inr j) b))
so_stands f (bind x q) a h = (so_stands f x a (λ i j b. h i j (inl b)), λ i j b. h i j (inr b))

pub floors_are_exact : (p : PlacedShape) → ((i : Position p) → 0 < place_at p i) → Both (IsForward p) (Stands (λ i. 0) p)
floors_are_exact p pos = record { to = λ h. so_stands (λ i. 0) p (λ i k e. pos i) h; from = λ h. (stands_so (λ i. 0) p h).1 }
