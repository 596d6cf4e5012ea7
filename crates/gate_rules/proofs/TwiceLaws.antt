-- Where no caller takes another, no gate is called by two events.
use Rattle.std.proofs.Common.{◌≡◌, ℕ, Bool, true, false, not, ◌||◌, ◌&&◌, ◌⊎◌, inl, inr, List, [], ◌∷◌, ◌++◌, reverse, refl, sym, subst}
use Rattle.std.proofs.lemmas.Bool.{or_parts}
use Rattle.std.proofs.lemmas.List.{reverse-append}
use Rattle.std.specs.List.{flat_map, list_any}
use Rattle.chart_text.specs.Gathering.{place_if}
use Rattle.list_facts.proofs.Joining.{left_nil, right_nil}
use Rattle.list_facts.proofs.Orders.{stands_left, stands_right, stands_either}
use Rattle.msc_base.proofs.PlaceFacts.{before_through, never_before}
use Rattle.msc_base.specs.Orders.{Among, first, later, Once}
use Rattle.msc_base.specs.Places.{is_before}
use Rattle.msc_base.specs.declared.place.Place.{Place}
use Rattle.msc_unfolding.specs.Unfoldings.{Tag, On}
use Rattle.msc_meaning.specs.Bodies.{EventNode}
use Rattle.gate_rules.specs.GateRules.{Caller, by_event, by_join, GateName, is_same_gate, is_taken, place_of, taken_from, taken_places, takes_again}
use Rattle.gate_rules.proofs.BeforeFacts.{before_so}
use Rattle.gate_rules.proofs.GateNames.{gate_itself}

-- ---- lists

-- where an item of a list of pieces comes from
pub from_pieces : {A B : Type 0} (f : A → List B) (xs : List A) (b : B) → Among b (flat_map f xs) → (a : A) × Among a xs × Among b (f a)
from_pieces f [] b h = elim h [ ]
from_pieces f (x ∷ xs) b h = elim (stands_either (f x) (flat_map f xs) b h) [
  | inl i ↦ (x, first, i)
  | inr i ↦ let (a, j, k) = from_pieces f xs b i in (a, later j, k)
]

pub into_pieces : {A B : Type 0} (f : A → List B) (xs : List A) (a : A) (b : B) → Among a xs → Among b (f a) → Among b (flat_map f xs)
into_pieces f [] a b h i = elim h [ ]
into_pieces f (x ∷ xs) _ b first i = stands_left (f x) (flat_map f xs) b i
into_pieces f (x ∷ xs) a b (later h) i = stands_right (f x) (flat_map f xs) b (into_pieces f xs a b h i)

stands_turned : {A : Type 0} (xs : List A) (x : A) → Among x xs → Among x (reverse xs)
stands_turned {A} (y ∷ xs) _ first = let P : List A → Type 0 = λ l. Among y l in subst P (sym (reverse-append (y ∷ []) xs)) (stands_right (reverse xs) (y ∷ []) y first)
stands_turned {A} (y ∷ xs) x (later h) = let P : List A → Type 0 = λ l. Among x l in subst P (sym (reverse-append (y ∷ []) xs)) (stands_left (reverse xs) (y ∷ []) x (stands_turned xs x h))
stands_turned [] x h = elim h [ ]

-- a test of no item of a list
pub any_none : {A : Type 0} (test : A → Bool) (xs : List A) (x : A) → list_any test xs ≡ false → Among x xs → test x ≡ false
any_none test (y ∷ xs) _ h first = (or_parts (test y) (list_any test xs) h).0
any_none test (y ∷ xs) x h (later i) = any_none test xs x (or_parts (test y) (list_any test xs) h).1 i
any_none test [] x h i = elim i [ ]

pub not_noted : (b : Bool) (p : Place) → place_if b p ≡ [] → b ≡ false
not_noted true p h = cc
not_noted false p h = refl

-- ---- callers none of which takes another

module _ (b : List Caller) (c : Caller) (cs : List Caller) (none : taken_from b (c ∷ cs) ≡ []) where
  none_here : is_taken b c ≡ false
  none_here = not_noted (is_taken b c) (place_of c) (left_nil (place_if (is_taken b c) (place_of c)) (taken_from (c ∷ b) cs) none)

  none_behind : taken_from (c ∷ b) cs ≡ []
  none_behind = right_nil (place_if (is_taken b c) (place_of c)) (taken_from (c ∷ b) cs) none

-- an earlier one doesn't take a later one
earlier_takes : (b cs : List Caller) (c d : Caller) → taken_from b cs ≡ [] → Among c b → Among d cs → takes_again d c ≡ false
earlier_takes b (x ∷ cs) c _ none there first = any_none (takes_again x) b c (none_here b x cs none) there
earlier_takes b (x ∷ cs) c d none there (later h) = earlier_takes (x ∷ b) cs c d (none_behind b x cs none) (later there) h
earlier_takes b [] c d none there h = elim h [ ]

last_takes : (b cs : List Caller) (c d : Caller) → taken_from b (cs ++ c ∷ []) ≡ [] → Among d cs ⊎ Among d b → takes_again c d ≡ false
last_takes b [] c d none (inl h) = elim h [ ]
last_takes b [] c d none (inr h) = any_none (takes_again c) b d (none_here b c [] none) h
last_takes b (x ∷ cs) c _ none (inl first) = last_takes (x ∷ b) cs c x (none_behind b x (cs ++ c ∷ []) none) (inr first)
last_takes b (x ∷ cs) c d none (inl (later h)) = last_takes (x ∷ b) cs c d (none_behind b x (cs ++ c ∷ []) none) (inl h)
last_takes b (x ∷ cs) c d none (inr h) = last_takes (x ∷ b) cs c d (none_behind b x (cs ++ c ∷ []) none) (inr (later h))

without_last : (b cs : List Caller) (c : Caller) → taken_from b (cs ++ c ∷ []) ≡ [] → taken_from b cs ≡ []
without_last b [] c none = refl
without_last b (x ∷ cs) c none =
    let here : place_if (is_taken b x) (place_of x) ≡ [] = left_nil (place_if (is_taken b x) (place_of x)) (taken_from (x ∷ b) (cs ++ c ∷ [])) none in
    let behind : taken_from (x ∷ b) cs ≡ [] = without_last (x ∷ b) cs c (none_behind b x (cs ++ c ∷ []) none) in
    rw (here, behind) refl

-- of each two neither takes the other
abbrev pub AreApart : List Caller → Type 0
AreApart [] = Unit {0}
AreApart (c ∷ cs) = ((d : Caller) → Among d cs → (takes_again d c ≡ false) × (takes_again c d ≡ false)) × AreApart cs

are_apart : (b cs : List Caller) → taken_from b cs ≡ [] → taken_from [] (reverse cs) ≡ [] → AreApart cs
are_apart b [] none turned = tt
are_apart b (c ∷ cs) none turned =
    let last : taken_from [] (reverse cs ++ c ∷ []) ≡ [] = subst (λ (l : List Caller). taken_from [] l ≡ []) (reverse-append (c ∷ []) cs) turned in
    let behind : taken_from (c ∷ b) cs ≡ [] = none_behind b c cs none in (
      λ d h. (earlier_takes (c ∷ b) cs c d behind first h, last_takes [] (reverse cs) c d last (inl (stands_turned cs d h))),
      are_apart (c ∷ b) cs behind (without_last [] (reverse cs) c last),
    )

pub none_taken : (cs : List Caller) → taken_places cs ≡ [] → AreApart cs
none_taken cs none = are_apart [] cs (left_nil (taken_from [] cs) (taken_from [] (reverse cs)) none) (right_nil (taken_from [] cs) (taken_from [] (reverse cs)) none)

-- ---- events

-- the gate that an event calls
abbrev pub caller_tags : Caller → List Tag
caller_tags (by_event n name gate) = On name gate ∷ []
caller_tags (by_join part j) = []

module _ (n m : EventNode) (name gate : List ℕ) where
  before_other : takes_again (by_event n name gate) (by_event m name gate) ≡ false → is_before (place_of (by_event n name gate)) (place_of (by_event m name gate)) ≡ true
  before_other h = by (is_before (place_of (by_event n name gate)) (place_of (by_event m name gate))) (is_same_gate x x) (gate_itself x) h
    where
      x : GateName
      x = record { name = name; gate = gate }

      by : (a b : Bool) → b ≡ true → (not a && ((((b || false) || false) || false) || false)) ≡ false → a ≡ true
      by true b e h = refl
      by false true e h = sym h
      by false false e h = e

two_events : (n m : EventNode) (name gate : List ℕ) → takes_again (by_event n name gate) (by_event m name gate) ≡ false → takes_again (by_event m name gate) (by_event n name gate) ≡ false → ⊥
two_events n m name gate h i =
    let p : Place = place_of (by_event n name gate) in
    let q : Place = place_of (by_event m name gate) in
    never_before p (before_through p q p (before_so p q (before_other n m name gate h)) (before_so q p (before_other m n name gate i)))

pub tags_once : (cs : List Caller) → AreApart cs → Once (flat_map caller_tags cs)
tags_once [] apart = tt
tags_once (by_join part j ∷ cs) apart = tags_once cs apart.1
tags_once (by_event n name gate ∷ cs) apart = (λ h. let (d, i, k) = from_pieces caller_tags cs (On name gate) h in one d i k, tags_once cs apart.1)
  where
    one : (d : Caller) → Among d cs → Among (On name gate) (caller_tags d) → ⊥
    one (by_join part j) i k = elim k [ ]
    one (by_event m other far) i first = two_events m n other far (apart.0 (by_event m other far) i).0 (apart.0 (by_event m other far) i).1
    one (by_event m other far) i (later k) = elim k [ ]
