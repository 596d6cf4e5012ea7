-- Tests for what is to stand before what, and for linear orders, of a pattern that is given.
use Rattle.std.proofs.Common.{◌≡◌, ◌⊎◌, Bool, true, false, not, ◌&&◌, ◌||◌, List, [], ◌∷◌, refl, ap, subst, inl, inr}
use Rattle.msc_base.specs.Orders.{Among, first, later, Once, Kept, IsLinear}
use Rattle.msc_base.specs.Patterns.{Mode, seq, par, Pattern, empty, one, join, bind, Position, Reading, event_at, Crosses, Before}

-- ---- truth values

pub and_left : (a b : Bool) → (a && b) ≡ true → a ≡ true
and_left true b h = refl
and_left false b h = h

pub and_right : (a b : Bool) → (a && b) ≡ true → b ≡ true
and_right true b h = h
and_right false b h = absurd (apart h)
  where
    apart : false ≡ true → ⊥
    apart e = cc

pub not_both : (a : Bool) → not a ≡ true → a ≡ true → ⊥
not_both true h e = cc
not_both false h e = cc

-- ---- pairs

abbrev pub crosses : {E Q : Type 0} → Reading E Q → Mode → E → E → Bool
crosses r seq e f = r.meets e f
crosses r par e f = false

-- whether the first position is to stand before the second
abbrev pub is_before : {E Q : Type 0} → (r : Reading E Q) → (s : Pattern E Q) → Position s → Position s → Bool
is_before r empty p q = false
is_before r (one e) p q = false
is_before r (join m x y) (inl p) (inl q) = is_before r x p q
is_before r (join m x y) (inl p) (inr q) = crosses r m (event_at r x p) (event_at r y q)
is_before r (join m x y) (inr p) (inl q) = false
is_before r (join m x y) (inr p) (inr q) = is_before r y p q
is_before r (bind x t) p q = is_before r x p q || r.adds t (event_at r x p) (event_at r x q)

pub crosses_so : {E Q : Type 0} (r : Reading E Q) (m : Mode) (e f : E) → Crosses r m e f → crosses r m e f ≡ true
crosses_so r seq e f h = h
crosses_so r par e f h = absurd h

pub or_left : (a b : Bool) → a ≡ true → (a || b) ≡ true
or_left true b h = refl
or_left false b h = absurd (apart h)
  where
    apart : false ≡ true → ⊥
    apart e = cc

pub or_right : (a b : Bool) → b ≡ true → (a || b) ≡ true
or_right true b h = refl
or_right false b h = h

pub either_so : (a b : Bool) → (a || b) ≡ true → (a ≡ true) ⊎ (b ≡ true)
either_so true b h = inl refl
either_so false b h = inr h

pub before_so : {E Q : Type 0} (r : Reading E Q) (s : Pattern E Q) (p q : Position s) → Before r s p q → is_before r s p q ≡ true
before_so r empty p q h = absurd h
before_so r (one e) p q h = absurd h
before_so r (join m x y) (inl p) (inl q) h = before_so r x p q h
before_so r (join m x y) (inl p) (inr q) h = crosses_so r m (event_at r x p) (event_at r y q) h
before_so r (join m x y) (inr p) (inl q) h = absurd h
before_so r (join m x y) (inr p) (inr q) h = before_so r y p q h
before_so r (bind x t) p q (inl h) = or_left (is_before r x p q) _ (before_so r x p q h)
before_so r (bind x t) p q (inr h) = or_right (is_before r x p q) _ h

pub so_crosses : {E Q : Type 0} (r : Reading E Q) (m : Mode) (e f : E) → crosses r m e f ≡ true → Crosses r m e f
so_crosses r seq e f h = h
so_crosses r par e f h = apart h
  where
    apart : false ≡ true → ⊥
    apart e = cc

pub not_so : false ≡ true → ⊥
not_so h = cc

pub left_so : {A B C : Type 0} → (A → C) → A ⊎ B → C ⊎ B
left_so f (inl a) = inl (f a)
left_so f (inr b) = inr b

pub so_before : {E Q : Type 0} (r : Reading E Q) (s : Pattern E Q) (p q : Position s) → is_before r s p q ≡ true → Before r s p q
so_before r empty p q h = not_so h
so_before r (one e) p q h = not_so h
so_before r (join m x y) (inl p) (inl q) h = so_before r x p q h
so_before r (join m x y) (inl p) (inr q) h = so_crosses r m (event_at r x p) (event_at r y q) h
so_before r (join m x y) (inr p) (inl q) h = not_so h
so_before r (join m x y) (inr p) (inr q) h = so_before r y p q h
so_before r (bind x t) p q h = left_so (so_before r x p q) (either_so (is_before r x p q) _ h)

-- ---- positions

abbrev pub is_same : {E Q : Type 0} → (s : Pattern E Q) → Position s → Position s → Bool
is_same empty p q = true
is_same (one e) p q = true
is_same (join m x y) (inl p) (inl q) = is_same x p q
is_same (join m x y) (inl p) (inr q) = false
is_same (join m x y) (inr p) (inl q) = false
is_same (join m x y) (inr p) (inr q) = is_same y p q
is_same (bind x t) p q = is_same x p q

pub same_so : {E Q : Type 0} (s : Pattern E Q) (p q : Position s) → is_same s p q ≡ true → p ≡ q
same_so empty p q h = absurd p
same_so (one e) p q h = refl
same_so (join m x y) (inl p) (inl q) h = ap (λ k. inl k) (same_so x p q h)
same_so (join m x y) (inl p) (inr q) h = absurd (not_so h)
same_so (join m x y) (inr p) (inl q) h = absurd (not_so h)
same_so (join m x y) (inr p) (inr q) h = ap (λ k. inr k) (same_so y p q h)
same_so (bind x t) p q h = same_so x p q h

pub is_itself : {E Q : Type 0} (s : Pattern E Q) (p : Position s) → is_same s p p ≡ true
is_itself empty p = refl
is_itself (one e) p = refl
is_itself (join m x y) (inl p) = is_itself x p
is_itself (join m x y) (inr p) = is_itself y p
is_itself (bind x t) p = is_itself x p

abbrev pub is_among : {E Q : Type 0} → (s : Pattern E Q) → Position s → List (Position s) → Bool
is_among s p [] = false
is_among s p (q ∷ l) = is_same s p q || is_among s p l

pub among_so : {E Q : Type 0} (s : Pattern E Q) (p : Position s) (l : List (Position s)) → is_among s p l ≡ true → Among p l
among_so s p [] h = absurd (not_so h)
among_so s p (q ∷ l) h = go (among_so s p l) (either_so (is_same s p q) _ h)
  where
    go : (is_among s p l ≡ true → Among p l) → (is_same s p q ≡ true) ⊎ (is_among s p l ≡ true) → Among p (q ∷ l)
    go f (inl k) = subst (λ x. Among p (x ∷ l)) (same_so s p q k) first
    go f (inr k) = later (f k)

pub so_among : {E Q : Type 0} (s : Pattern E Q) {p : Position s} {l : List (Position s)} → Among p l → is_among s p l ≡ true
so_among s {p} {l} first = or_left (is_same s p p) _ (is_itself s p)
so_among s {p} {l} (later h) = or_right (is_same s p _) _ (so_among s h)

-- ---- tests of all positions

abbrev pub all_positions : {E Q : Type 0} → (s : Pattern E Q) → (Position s → Bool) → Bool
all_positions empty f = true
all_positions (one e) f = f tt
all_positions (join m x y) f = all_positions x (λ p. f (inl p)) && all_positions y (λ p. f (inr p))
all_positions (bind x t) f = all_positions x f

pub each_position : {E Q : Type 0} (s : Pattern E Q) (f : Position s → Bool) → all_positions s f ≡ true → (p : Position s) → f p ≡ true
each_position empty f h p = absurd p
each_position (one e) f h p = h
each_position (join m x y) f h (inl p) = each_position x (λ q. f (inl q)) (and_left (all_positions x (λ q. f (inl q))) _ h) p
each_position (join m x y) f h (inr p) = each_position y (λ q. f (inr q)) (and_right (all_positions x (λ q. f (inl q))) _ h) p
each_position (bind x t) f h p = each_position x f h p

-- ---- linear orders

abbrev pub is_once : {E Q : Type 0} → (s : Pattern E Q) → List (Position s) → Bool
is_once s [] = true
is_once s (p ∷ l) = not (is_among s p l) && is_once s l

pub once_so : {E Q : Type 0} (s : Pattern E Q) (l : List (Position s)) → is_once s l ≡ true → Once l
once_so s [] h = tt
once_so s (p ∷ l) h = (λ k. not_both (is_among s p l) (and_left (not (is_among s p l)) _ h) (so_among s k), once_so s l (and_right (not (is_among s p l)) _ h))

abbrev pub none_before : {E Q : Type 0} → (r : Reading E Q) → (s : Pattern E Q) → Position s → List (Position s) → Bool
none_before r s p [] = true
none_before r s p (q ∷ l) = not (is_before r s q p) && none_before r s p l

pub none_so : {E Q : Type 0} (r : Reading E Q) (s : Pattern E Q) (p : Position s) {q : Position s} {l : List (Position s)} → Among q l → none_before r s p l ≡ true → Before r s q p → ⊥
none_so r s p {q} first h b = not_both (is_before r s q p) (and_left (not (is_before r s q p)) _ h) (before_so r s q p b)
none_so r s p (later {q = o} k) h b = none_so r s p k (and_right (not (is_before r s o p)) _ h) b

abbrev pub is_kept : {E Q : Type 0} → (r : Reading E Q) → (s : Pattern E Q) → List (Position s) → Bool
is_kept r s [] = true
is_kept r s (p ∷ l) = none_before r s p (p ∷ l) && is_kept r s l

pub kept_so : {E Q : Type 0} (r : Reading E Q) (s : Pattern E Q) (l : List (Position s)) → is_kept r s l ≡ true → Kept (Before r s) l
kept_so r s [] h = tt
kept_so r s (p ∷ l) h = (λ q k b. none_so r s p k (and_left (none_before r s p (p ∷ l)) _ h) b, kept_so r s l (and_right (none_before r s p (p ∷ l)) _ h))

-- whether the list is a linear order
abbrev pub is_linear : {E Q : Type 0} → (r : Reading E Q) → (s : Pattern E Q) → List (Position s) → Bool
is_linear r s l = all_positions s (λ p. is_among s p l) && (is_once s l && is_kept r s l)

pub linear_so : {E Q : Type 0} (r : Reading E Q) (s : Pattern E Q) (l : List (Position s)) → is_linear r s l ≡ true → IsLinear (Before r s) l
linear_so r s l h = record {
  every = λ p. among_so s p l (each_position s (λ q. is_among s q l) (and_left (all_positions s (λ q. is_among s q l)) _ h) p);
  once = once_so s l (and_left (is_once s l) _ rest);
  kept = kept_so r s l (and_right (is_once s l) _ rest);
}
  where
    rest : (is_once s l && is_kept r s l) ≡ true
    rest = and_right (all_positions s (λ q. is_among s q l)) _ h
