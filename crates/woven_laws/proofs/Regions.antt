-- Which numbers the events of pieces have, and lists of numbers that differ and have a property.
use Rattle.std.proofs.Common.{◌≡◌, ℕ, ◌≤◌, ◌<◌, ◌+◌, ◌⊎◌, inl, inr, List, [], ◌∷◌, ◌++◌, map, refl, sym, subst, ap, arith}
use Rattle.msc_base.specs.Orders.{Among, first, later, Once}
use Rattle.list_facts.proofs.Orders.{stands_either}
use Rattle.msc_meaning.specs.Bodies.{EventNode}
use Rattle.msc_meaning.specs.Pieces.{Piece, form_count}
use Rattle.level_pieces.proofs.NumberedPieces.{ArePlaced}

-- k is the number of an event of the piece, at any depth
abbrev pub IsIn : ℕ → Piece → Type 0
IsIn k p = (p.first ≤ k) × (k < p.first + form_count p.form)

-- of one of the pieces
abbrev pub Has : ℕ → List Piece → Type 0
Has k [] = ⊥
Has k (p ∷ ps) = IsIn k p ⊎ Has k ps

pub has_on : (k : ℕ) (ps qs : List Piece) → Has k (ps ++ qs) → Has k ps ⊎ Has k qs
has_on k [] qs h = inr h
has_on k (p ∷ ps) qs (inl h) = inl (inl h)
has_on k (p ∷ ps) qs (inr h) = elim (has_on k ps qs h) [ inl i ↦ inl (inr i) | inr i ↦ inr i ]

low_end : (n m : ℕ) (ps : List Piece) → ArePlaced n m ps → n ≤ m
low_end n m [] w = w
low_end n m (p ∷ ps) w = let rest = low_end (p.first + form_count p.form) m ps w.1 in omega (arith, w.0, rest)

-- the numbers of pieces that are placed are between their ends
pub has_between : (k n m : ℕ) (ps : List Piece) → ArePlaced n m ps → Has k ps → (n ≤ k) × (k < m)
has_between k n m [] w h = absurd h
has_between k n m (p ∷ ps) w (inl h) = let rest = low_end (p.first + form_count p.form) m ps w.1 in (omega (arith, w.0, h.0), omega (arith, h.1, rest))
has_between k n m (p ∷ ps) w (inr h) = let rest = has_between k (p.first + form_count p.form) m ps w.1 h in (omega (arith, w.0, rest.0), rest.1)

-- from a number on that is no higher
pub placed_before : (n m k : ℕ) (ps : List Piece) → n ≤ m → ArePlaced m k ps → ArePlaced n k ps
placed_before n m k [] le h = omega (arith, le, h)
placed_before n m k (p ∷ ps) le h = (omega (arith, le, h.0), h.1)

-- ---- numbers

pub numbers : List EventNode → List ℕ
numbers ns = map (λ (n : EventNode). n.number) ns

pub numbers_are : (ns : List EventNode) → numbers ns ≡ map (λ (n : EventNode). n.number) ns
unfolding numbers
numbers_are ns = refl

pub numbers_none : numbers [] ≡ []
unfolding numbers
numbers_none = refl

pub numbers_more : (n : EventNode) (ns : List EventNode) → numbers (n ∷ ns) ≡ n.number ∷ numbers ns
unfolding numbers
numbers_more n ns = refl

numbers_on : (ns ms : List EventNode) → numbers (ns ++ ms) ≡ numbers ns ++ numbers ms
unfolding numbers
numbers_on [] ms = refl
numbers_on (n ∷ ns) ms = ap (λ l. n.number ∷ l) (numbers_on ns ms)

-- they differ, and each has the property
pub record Differ (P : ℕ → Type 0) (ks : List ℕ) : Type 0 where
  pub within : (k : ℕ) → Among k ks → P k
  pub once : Once ks

pub differ_none : (P : ℕ → Type 0) → Differ P []
differ_none P = record { within = λ k h. elim h [ ]; once = tt }

among_case : (k j : ℕ) (ks : List ℕ) → Among k (j ∷ ks) → (k ≡ j) ⊎ Among k ks
among_case k _ ks first = inl refl
among_case k j ks (later h) = inr h

pub differ_more : (P : ℕ → Type 0) (j : ℕ) (ks : List ℕ) → P j → (Among j ks → ⊥) → Differ P ks → Differ P (j ∷ ks)
differ_more P j ks here new d = record { within = λ k h. elim (among_case k j ks h) [ inl e ↦ subst P (sym e) here | inr i ↦ d.within k i ]; once = (new, d.once) }

once_on : (ks js : List ℕ) → Once ks → Once js → ((k : ℕ) → Among k ks → Among k js → ⊥) → Once (ks ++ js)
once_on [] js a b f = b
once_on (i ∷ ks) js (n, a) b f = ((λ h. elim (stands_either ks js i h) [ inl g ↦ n g | inr g ↦ f i first g ]), once_on ks js a b (λ k g h. f k (later g) h))

-- two lists of events whose numbers have properties that exclude each other
pub differ_on : (P Q R : ℕ → Type 0) (ns ms : List EventNode) → Differ P (numbers ns) → Differ Q (numbers ms) → ((k : ℕ) → P k → R k) → ((k : ℕ) → Q k → R k) → ((k : ℕ) → P k → Q k → ⊥) → Differ R (numbers (ns ++ ms))
differ_on P Q R ns ms a b f g apart = subst (Differ R) (sym (numbers_on ns ms)) (record {
  within = λ k h. elim (stands_either (numbers ns) (numbers ms) k h) [ inl i ↦ f k (a.within k i) | inr i ↦ g k (b.within k i) ];
  once = once_on (numbers ns) (numbers ms) a.once b.once (λ k i j. apart k (a.within k i) (b.within k j));
})

pub differ_as : (P Q : ℕ → Type 0) (ks : List ℕ) → ((k : ℕ) → P k → Q k) → Differ P ks → Differ Q ks
differ_as P Q ks f d = record { within = λ k h. f k (d.within k h); once = d.once }
