-- Walks over lists: sets that grow, and the earliest place so far.
use Rattle.std.proofs.Common.{◌≡◌, ◌↔◌, ◌⊎◌, inl, inr, ◌<◌, ◌≤◌, ◌+◌, ℕ, Bool, IsTrue, true, false, List, [], ◌∷◌, drop, get_or, length, map, Option, Some, None, refl, sym, ap, subst, ◌∙◌, arith}
use Rattle.std.proofs.lemmas.Bool.{true≢false}
use Rattle.list_facts.proofs.Reading.{drop_end, drop_read}
use Rattle.msc_base.proofs.Narrowing.{Narrows, narrows_end, narrows_part, narrows_rest, narrows_step}
use Rattle.msc_base.proofs.PlaceFacts.{before_cases}
use Rattle.msc_base.specs.Lists.{IsAmong}
use Rattle.msc_base.specs.Places.{IsLeast, IsNoLater, earliest_if}
use Rattle.msc_base.specs.declared.place.Place.{Place}
use Rattle.refinement_rules.specs.Walks.{IsGrown, OneHolds, SoFarOr, is_wanted}

-- what it holds of so far and of what is left, it holds of before and of all
abbrev pub IsWalked : {A N : Type 0} → (A → N → Type 0) → (N → Type 0) → (N → Type 0) → List A → ℕ → Type 0
IsWalked {N = N} P Old Now xs i = (n : N) → (Now n ⊎ OneHolds P (drop i xs) n) ↔ (Old n ⊎ OneHolds P xs n)

module _ {A N : Type 0} (P : A → N → Type 0) where
  -- ---- sets

  pub grown_start : (Old : N → Type 0) (xs : List A) → IsWalked P Old Old xs 0
  grown_start Old xs n = (λ h. h, λ h. h)

  pub grown_none : (Now : N → Type 0) (xs : List A) → ((n : N) → Now n → ⊥) → IsWalked P (λ n. ⊥) Now xs 0
  grown_none Now xs none n = (λ s. elim s [ inl now ↦ absurd (none n now) | inr one ↦ inr one ], λ s. elim s [ inl old ↦ absurd old | inr one ↦ inr one ])

  pub grown_step : (Old Now New : N → Type 0) (xs : List A) (i : ℕ) (x : A) → i < length xs → x ≡ get_or xs i x → IsGrown Now (P x) New → IsWalked P Old Now xs i → IsWalked P Old New xs (i + 1)
  grown_step Old Now New xs i x low is grown h n = (
    λ s. at.0 (elim s [
      | inl new ↦ elim ((grown n).0 new) [ inl now ↦ inl now | inr here ↦ inr (inl here) ]
      | inr left ↦ inr (inr left)
    ]),
    λ s. elim (at.1 s) [
      | inl now ↦ inl ((grown n).1 (inl now))
      | inr left ↦ elim left [ inl here ↦ inl ((grown n).1 (inr here)) | inr rest ↦ inr rest ]
    ],
  )
    where
      at : (Now n ⊎ OneHolds P (x ∷ drop (i + 1) xs) n) ↔ (Old n ⊎ OneHolds P xs n)
      at = subst (λ (l : List A). (Now n ⊎ OneHolds P l n) ↔ (Old n ⊎ OneHolds P xs n)) (drop_read xs i x low is) (h n)

  pub grown_end : (Old Now : N → Type 0) (xs : List A) (i : ℕ) → length xs ≤ i → IsWalked P Old Now xs i → IsGrown Old (OneHolds P xs) Now
  grown_end Old Now xs i high h n =
      let none : OneHolds P (drop i xs) n → ⊥ = λ g. subst (λ (l : List A). OneHolds P l n) (drop_end xs i (λ lt. omega (arith, lt, high))) g in (
        λ now. (h n).0 (inl now),
        λ s. elim ((h n).1 s) [ inl now ↦ now | inr left ↦ absurd (none left) ],
      )

  -- begun with nothing
  pub grown_whole : (Old Now : N → Type 0) (xs : List A) (i : ℕ) → ((n : N) → Old n → ⊥) → length xs ≤ i → IsWalked P Old Now xs i → (n : N) → Now n ↔ OneHolds P xs n
  grown_whole Old Now xs i none high h n =
      let g = grown_end Old Now xs i high h n in
      (λ now. elim (g.0 now) [ inl old ↦ absurd (none n old) | inr one ↦ one ], λ one. g.1 (inr one))

  -- ---- members

  pub one_of : (xs : List A) (n : N) → OneHolds P xs n → (x : A) × IsAmong xs x × P x n
  one_of [] n h = absurd h
  one_of (x ∷ xs) n (inl h) = (x, inl refl, h)
  one_of (x ∷ xs) n (inr h) = let r = one_of xs n h in (r.0, inr r.1, r.2)

  pub one_from : (xs : List A) (n : N) (x : A) → IsAmong xs x → P x n → OneHolds P xs n
  one_from [] n x m h = absurd m
  one_from (y ∷ xs) n x (inl e) h = inl (subst (λ (z : A). P z n) e h)
  one_from (y ∷ xs) n x (inr m) h = inr (one_from xs n x m h)

-- it may be said in other words
pub one_same : {A N : Type 0} (P Q : A → N → Type 0) (xs : List A) (n : N) → ((x : A) → IsAmong xs x → P x n → Q x n) → OneHolds P xs n → OneHolds Q xs n
one_same P Q [] n f h = h
one_same P Q (x ∷ xs) n f (inl h) = inl (f x (inl refl) h)
one_same P Q (x ∷ xs) n f (inr h) = inr (one_same P Q xs n (λ y m. f y (inr m)) h)

-- of what a function makes of each
pub one_made : {A B N : Type 0} (f : A → B) (P : B → N → Type 0) (xs : List A) (n : N) → OneHolds (λ x. P (f x)) xs n ↔ OneHolds P (map f xs) n
one_made f P [] n = (λ h. h, λ h. h)
one_made f P (x ∷ xs) n = (
  λ s. elim s [ inl h ↦ inl h | inr h ↦ inr ((one_made f P xs n).0 h) ],
  λ s. elim s [ inl h ↦ inl h | inr h ↦ inr ((one_made f P xs n).1 h) ],
)

-- ---- places

pub least_same : (P Q : Place → Type 0) (o : Option Place) → ((q : Place) → P q ↔ Q q) → IsLeast P o → IsLeast Q o
least_same P Q None f h = λ q b. h q ((f q).1 b)
least_same P Q (Some p) f h = ((f p).0 h.0, λ q b. h.1 q ((f q).1 b))

pub so_far_same : (so_far : Option Place) (P Q : Place → Type 0) (o : Option Place) → ((q : Place) → P q ↔ Q q) → IsLeast (SoFarOr so_far P) o → IsLeast (SoFarOr so_far Q) o
so_far_same so_far P Q o f = least_same (SoFarOr so_far P) (SoFarOr so_far Q) o (λ q. (
  λ s. elim s [ inl e ↦ inl e | inr h ↦ inr ((f q).0 h) ],
  λ s. elim s [ inl e ↦ inl e | inr h ↦ inr ((f q).1 h) ],
))

-- nothing more holds
pub least_kept : (so_far : Option Place) (P : Place → Type 0) → ((q : Place) → P q → ⊥) → IsLeast (SoFarOr so_far P) so_far
least_kept None P none = λ q s. elim s [ inl e ↦ absurd (cc) | inr h ↦ none q h ]
least_kept (Some p) P none = (inl refl, λ q s. elim s [ inl e ↦ let same : p ≡ q = cc in inr same | inr h ↦ absurd (none q h) ])

-- from nothing on
pub least_first : (so_far : Option Place) (P : Place → Type 0) (o : Option Place) → so_far ≡ None → IsLeast (SoFarOr so_far P) o → IsLeast P o
least_first so_far P o none = least_same (SoFarOr so_far P) P o (λ q. (λ s. elim s [ inl e ↦ let no_place : None ≡ Some q = sym none ∙ e in absurd (cc) | inr h ↦ h ], λ h. inr h))

pub places_start : (so_far : Option Place) (All : Place → Type 0) → Narrows (SoFarOr so_far All) All so_far
places_start None All = record { holds = λ p e. cc; covers = λ q s. elim s [ inl e ↦ absurd (cc) | inr a ↦ inr a ]; within = λ q a. inr a }
places_start (Some o) All = record {
  holds = λ p e. inl e;
  covers = λ q s. elim s [ inl e ↦ let same : o ≡ q = cc in inl (inr same) | inr a ↦ inr a ];
  within = λ q a. inr a;
}

-- a place, where something holds
pub least_if : (so_far : Option Place) (place : Place) (b : Bool) (Bad : Type 0) → IsTrue b ↔ Bad → IsLeast (SoFarOr so_far (λ q. (place ≡ q) × Bad)) (earliest_if b so_far place)
least_if so_far place b Bad test =
    narrows_end (SoFarOr so_far (λ q. (place ≡ q) × Bad)) (λ q. ⊥) (earliest_if b so_far place) (narrows_step (SoFarOr so_far (λ q. (place ≡ q) × Bad)) (λ q. ⊥) so_far place b Bad begun test.0 test.1) (λ q n. n)
  where
    begun : Narrows (SoFarOr so_far (λ q. (place ≡ q) × Bad)) (λ q. ((place ≡ q) × Bad) ⊎ ⊥) so_far
    begun =
        narrows_rest (SoFarOr so_far (λ q. (place ≡ q) × Bad)) (λ q. (place ≡ q) × Bad) (λ q. ((place ≡ q) × Bad) ⊎ ⊥) so_far (places_start so_far (λ q. (place ≡ q) × Bad)) (λ q h. inl h)
        (λ q s. elim s [ inl h ↦ h | inr n ↦ absurd n ])

-- it isn't earlier than that so far
pub least_late : (so_far : Option Place) (place : Place) (Bad : Type 0) → is_wanted so_far place ≡ false → IsLeast (SoFarOr so_far (λ q. (place ≡ q) × Bad)) so_far
least_late None place Bad late = absurd (true≢false late)
least_late (Some o) place Bad late = (
  inl refl,
  λ q s. elim s [
    | inl e ↦ let same : o ≡ q = cc in inr same
    | inr h ↦ elim (before_cases place o) [
      | inl t ↦ absurd (true≢false (sym t.0 ∙ late))
      | inr f ↦ subst (λ (z : Place). IsNoLater o z) h.0 f.1
    ]
  ],
)

module _ {A : Type 0} (P : A → Place → Type 0) (all : Place → Type 0) (xs : List A) (i : ℕ) where
  pub place_step : (x : A) (best next : Option Place) → i < length xs → x ≡ get_or xs i x → IsLeast (SoFarOr best (P x)) next → Narrows all (OneHolds P (drop i xs)) best → Narrows all (OneHolds P (drop (i + 1) xs)) next
  place_step x best next low is least h =
      let now : Narrows all (OneHolds P (x ∷ drop (i + 1) xs)) best = subst (λ (l : List A). Narrows all (OneHolds P l) best) (drop_read xs i x low is) h in
      narrows_part all (P x) (OneHolds P (drop (i + 1) xs)) best next now least

  pub place_end : (best : Option Place) → length xs ≤ i → Narrows all (OneHolds P (drop i xs)) best → IsLeast all best
  place_end best high h = narrows_end all (OneHolds P (drop i xs)) best h (λ q a. subst (λ (l : List A). OneHolds P l q) (drop_end xs i (λ lt. omega (arith, lt, high))) a)
