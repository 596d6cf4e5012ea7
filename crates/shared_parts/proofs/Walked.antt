-- Walks that note places.
use Rattle.std.proofs.Common.{◌≡◌, ◌↔◌, ◌⊎◌, inl, inr, ◌<◌, ◌≤◌, ◌+◌, ℕ, zero, suc, Bool, IsTrue, true, false, Option, Some, List, [], ◌∷◌, ◌++◌, drop, get_or, length, map, slice_get, not, refl, sym, ap, subst, ◌∙◌, arith}
use Rattle.msc_base.specs.Lists.{IsAmong}
use Rattle.msc_base.specs.Places.{IsLeast}
use Rattle.msc_base.specs.declared.place.Place.{Place}
use Rattle.list_facts.proofs.Reading.{drop_read, drop_end}
use Rattle.list_facts.proofs.Members.{among_either}
use Rattle.chart_text.specs.Gathering.{place_if}
use Rattle.level_pieces.proofs.LeastLaws.{least_same}
use Rattle.shared_parts.specs.Noting.{AreNoted, OneHolds}

-- what is noted, and what is left, is what there was, and all
abbrev pub IsWalked : {X A : Type 0} → (X → A) → (A → Place → Type 0) → List X → ℕ → List Place → List Place → Type 0
IsWalked f Holds xs k old now = (q : Place) → (IsAmong now q ⊎ OneHolds Holds (map f (drop k xs)) q) ↔ (IsAmong old q ⊎ OneHolds Holds (map f xs) q)

module _ {X A : Type 0} (f : X → A) (Holds : A → Place → Type 0) (xs : List X) where
  pub walked_start : (old : List Place) → IsWalked f Holds xs 0 old old
  walked_start old q = (λ h. h, λ h. h)

  -- one more
  pub walked_more : (k : ℕ) (x : X) (old now new : List Place) → k < length xs → x ≡ get_or xs k x → AreNoted (Holds (f x)) now new → IsWalked f Holds xs k old now → IsWalked f Holds xs (k + 1) old new
  walked_more k x old now new low is one h q =
      let split : map f (drop k xs) ≡ f x ∷ map f (drop (k + 1) xs) = ap (map f) (drop_read xs k x low is) in (
        λ g. (h q).0 (elim g [
          | inl n ↦ elim ((one q).0 n) [ inl o ↦ inl o | inr here ↦ inr (subst (λ (l : List A). OneHolds Holds l q) (sym split) (inl here)) ]
          | inr rest ↦ inr (subst (λ (l : List A). OneHolds Holds l q) (sym split) (inr rest))
        ]),
        λ g. elim ((h q).1 g) [
          | inl n ↦ inl ((one q).1 (inl n))
          | inr left ↦ elim (subst (λ (l : List A). OneHolds Holds l q) split left) [ inl here ↦ inl ((one q).1 (inr here)) | inr rest ↦ inr rest ]
        ],
      )

  -- all
  pub walked_all : (k : ℕ) (old now : List Place) → length xs ≤ k → IsWalked f Holds xs k old now → AreNoted (OneHolds Holds (map f xs)) old now
  walked_all k old now low h q =
      let none : map f (drop k xs) ≡ [] = ap (map f) (drop_end xs k (λ l. omega (arith, l, low))) in (
        λ n. (h q).0 (inl n),
        λ g. elim ((h q).1 g) [ inl n ↦ n | inr left ↦ absurd (subst (λ (l : List A). OneHolds Holds l q) none left) ],
      )

-- ---- single places

on_among : {A : Type 0} (xs ys : List A) (x : A) → IsAmong xs x ⊎ IsAmong ys x → IsAmong (xs ++ ys) x
on_among [] ys x (inl h) = absurd h
on_among [] ys x (inr h) = h
on_among (y ∷ xs) ys x (inl (inl e)) = inl e
on_among (y ∷ xs) ys x (inl (inr h)) = inr (on_among xs ys x (inl h))
on_among (y ∷ xs) ys x (inr h) = inr (on_among xs ys x (inr h))

-- the place is noted where the test holds
pub noted_if : (B : Type 0) (b : Bool) (place : Place) (old new : List Place) → (IsTrue b ↔ B) → new ≡ old ++ place_if b place → AreNoted (λ q. B × (place ≡ q)) old new
noted_if B true place old new is made q = (
  λ n. elim (among_either old (place ∷ []) q (subst (λ (l : List Place). IsAmong l q) made n)) [ inl o ↦ inl o | inr here ↦ elim here [ inl e ↦ inr (is.0 refl, sym e) | inr f ↦ absurd f ] ],
  λ h. subst (λ (l : List Place). IsAmong l q) (sym made) (on_among old (place ∷ []) q (elim h [ inl o ↦ inl o | inr b ↦ inr (inl (sym b.1)) ])),
)
noted_if B false place old new is made q = (
  λ n. elim (among_either old [] q (subst (λ (l : List Place). IsAmong l q) made n)) [ inl o ↦ inl o | inr f ↦ absurd f ],
  λ h. subst (λ (l : List Place). IsAmong l q) (sym made) (on_among old [] q (elim h [ inl o ↦ inl o | inr b ↦ absurd (let e : false ≡ true = is.1 b.0 in cc) ])),
)

-- ---- one after the other

pub noted_both : (P Q : Place → Type 0) (old now new : List Place) → AreNoted P old now → AreNoted Q now new → AreNoted (λ q. P q ⊎ Q q) old new
noted_both P Q old now new f g q = (
  λ n. elim ((g q).0 n) [ inl m ↦ elim ((f q).0 m) [ inl o ↦ inl o | inr p ↦ inr (inl p) ] | inr r ↦ inr (inr r) ],
  λ h. (g q).1 (elim h [ inl o ↦ inl ((f q).1 (inl o)) | inr s ↦ elim s [ inl p ↦ inl ((f q).1 (inr p)) | inr r ↦ inr r ] ]),
)

pub noted_none : (P : Place → Type 0) (old : List Place) → ((q : Place) → P q → ⊥) → AreNoted P old old
noted_none P old none q = (λ n. inl n, λ h. elim h [ inl o ↦ o | inr p ↦ absurd (none q p) ])

-- the same in other words
pub noted_same : (P Q : Place → Type 0) (old new : List Place) → ((q : Place) → P q ↔ Q q) → AreNoted P old new → AreNoted Q old new
noted_same P Q old new same h q = (
  λ n. elim ((h q).0 n) [ inl o ↦ inl o | inr p ↦ inr ((same q).0 p) ],
  λ g. (h q).1 (elim g [ inl o ↦ inl o | inr r ↦ inr ((same q).1 r) ]),
)

-- the earliest of all that are noted
pub noted_least : (P : Place → Type 0) (old new : List Place) (best : Option Place) → old ≡ [] → AreNoted P old new → IsLeast (IsAmong new) best → IsLeast P best
noted_least P old new best none h least =
    least_same (IsAmong new) P best
    (λ q n. elim ((h q).0 n) [ inl o ↦ absurd (subst (λ (l : List Place). IsAmong l q) none o) | inr p ↦ p ])
    (λ q p. (h q).1 (inr p)) least

-- ---- at a place of the list

pub one_at : {A : Type 0} (Holds : A → Place → Type 0) (xs : List A) (k : ℕ) (x : A) (q : Place) → slice_get xs k ≡ Some x → Holds x q → OneHolds Holds xs q
one_at Holds [] k x q at h = cc
one_at Holds (y ∷ xs) zero x q at h = let same : y ≡ x = cc in inl (subst (λ z. Holds z q) (sym same) h)
one_at Holds (y ∷ xs) (suc k) x q at h = inr (one_at Holds xs k x q at h)

pub at_one : {A : Type 0} (Holds : A → Place → Type 0) (xs : List A) (q : Place) → OneHolds Holds xs q → (k : ℕ) × (x : A) × (slice_get xs k ≡ Some x) × Holds x q
at_one Holds [] q h = absurd h
at_one Holds (x ∷ xs) q (inl h) = (0, x, refl, h)
at_one Holds (x ∷ xs) q (inr h) = let r = at_one Holds xs q h in (suc r.0, r.1, r.2, r.3)

pub one_among : {A : Type 0} (Holds : A → Place → Type 0) (xs : List A) (x : A) (q : Place) → IsAmong xs x → Holds x q → OneHolds Holds xs q
one_among Holds [] x q at h = absurd at
one_among Holds (y ∷ xs) x q (inl e) h = inl (subst (λ z. Holds z q) e h)
one_among Holds (y ∷ xs) x q (inr at) h = inr (one_among Holds xs x q at h)

pub among_one : {A : Type 0} (Holds : A → Place → Type 0) (xs : List A) (q : Place) → OneHolds Holds xs q → (x : A) × IsAmong xs x × Holds x q
among_one Holds [] q h = absurd h
among_one Holds (x ∷ xs) q (inl h) = (x, inl refl, h)
among_one Holds (x ∷ xs) q (inr h) = let r = among_one Holds xs q h in (r.0, inr r.1, r.2)

-- the item at a place is one of the list, also where each is seen by f
pub map_among : {X A : Type 0} (f : X → A) (xs : List X) (k : ℕ) (x : X) → k < length xs → x ≡ get_or xs k x → IsAmong (map f xs) (f x)
map_among f [] k x low is = absurd (omega (arith, low))
map_among f (y ∷ xs) zero x low is = inl (ap f is)
map_among f (y ∷ xs) (suc k) x low is = inr (map_among f xs k x (omega (arith, low)) is)

-- ---- tests

pub not_tells : {P : Type 0} (b : Bool) → (IsTrue b ↔ P) → IsTrue (not b) ↔ (P → ⊥)
not_tells true h = (λ t. cc, λ n. absurd (n (h.0 refl)))
not_tells false h = (λ t p. let e : false ≡ true = h.1 p in cc, λ n. refl)

pub told : {P : Type 0} (b c : Bool) → b ≡ c → (IsTrue c ↔ P) → IsTrue b ↔ P
told b c e h = (λ t. h.0 (sym e ∙ t), λ p. e ∙ h.1 p)
