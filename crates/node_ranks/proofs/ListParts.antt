-- What stands in lists that are made of others.
use Rattle.std.specs.Prelude.{Bool, true, false, filter, List, [], ◌∷◌, ◌++◌, map, if◌then◌else◌}
use Rattle.std.specs.List.{flat_map}
use Rattle.std.proofs.Common.{◌≡◌, ◌⊎◌, refl, inl, inr}
use Rattle.msc_base.specs.Orders.{Among, first, later}

pub split_among : {A : Type 0} (a b : List A) (e : A) → Among e (a ++ b) → Among e a ⊎ Among e b
split_among [] b e h = inr h
split_among (d ∷ a) b _ first = inl first
split_among (d ∷ a) b e (later h) = elim (split_among a b e h) [ inl i ↦ inl (later i) | inr i ↦ inr i ]

pub among_left : {A : Type 0} (a b : List A) (e : A) → Among e a → Among e (a ++ b)
among_left [] b e h = elim h [ ]
among_left (d ∷ a) b _ first = first
among_left (d ∷ a) b e (later h) = later (among_left a b e h)

pub among_right : {A : Type 0} (a b : List A) (e : A) → Among e b → Among e (a ++ b)
among_right [] b e h = h
among_right (d ∷ a) b e h = later (among_right a b e h)

pub among_map : {A B : Type 0} (f : A → B) (l : List A) (a : A) → Among a l → Among (f a) (map f l)
among_map f [] a h = elim h [ ]
among_map f (b ∷ l) _ first = first
among_map f (b ∷ l) a (later h) = later (among_map f l a h)

pub map_among : {A B : Type 0} (f : A → B) (l : List A) (b : B) → Among b (map f l) → (a : A) × (f a ≡ b) × Among a l
map_among f [] b h = elim h [ ]
map_among f (a ∷ l) _ first = (a, refl, first)
map_among f (a ∷ l) b (later h) = let (c, e, i) = map_among f l b h in (c, e, later i)

pub flat_among : {A B : Type 0} (f : A → List B) (l : List A) (b : B) → Among b (flat_map f l) → (a : A) × Among a l × Among b (f a)
flat_among f [] b h = elim h [ ]
flat_among f (a ∷ l) b h = elim (split_among (f a) (flat_map f l) b h) [ inl i ↦ (a, first, i) | inr i ↦ let (c, j, k) = flat_among f l b i in (c, later j, k) ]

wider : {A : Type 0} (l k : List A) (b a : A) → (Among a k → Among a l) → Among a (b ∷ k) → Among a (b ∷ l)
wider l k b _ g first = first
wider l k b a g (later i) = later (g i)

pub filter_among : {A : Type 0} (f : A → Bool) (l : List A) (a : A) → Among a (filter f l) → Among a l
filter_among f [] a h = elim h [ ]
filter_among f (b ∷ l) a h = by (f b) (filter_among f l a) h
  where
    by : (c : Bool) → (Among a (filter f l) → Among a l) → Among a (if c then b ∷ filter f l else filter f l) → Among a (b ∷ l)
    by true g i = wider l (filter f l) b a g i
    by false g i = later (g i)
