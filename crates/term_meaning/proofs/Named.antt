-- Events that are named meet where the events do for which they stand.
use Rattle.std.specs.List.{list_any}
use Rattle.std.specs.Prelude.{ℕ, true, false, List, [], ◌∷◌, Option, Some, None, ◌≡◌, ◌||◌}
use Rattle.std.specs.Str.{bytes_eq}
use Rattle.std.proofs.Common.{sym, ◌∙◌, inl, inr, refl, subst}
use Rattle.msc_base.specs.declared.label.Label.{Label}
use Rattle.msc_base.specs.Orders.{Among, first, later, Once}
use Rattle.msc_unfolding.specs.Unfoldings.{Tag, Happening, instances_of, share, plain}
use Rattle.chart_term.specs.TermPatterns.{numbered, some_list, instances_of as block_of}
use Rattle.chart_term.specs.Terms.{TermEvent, has, has_some, hits}
use Rattle.term_meaning.specs.Naming.{IsInstance, IsNamed, IsSeen}
use Rattle.sound_terms.proofs.Places.{tests_agree, or_case, or_this, or_that, some_is, once_place, has_among, among_has, any_among, among_any}

-- a name that two events share
share_common : (is js : List (List ℕ)) → share is js ≡ true → (i : List ℕ) × Among i is × Among i js
share_common [] js h = absurd cc
share_common (i ∷ is) js h = elim (or_case (list_any (bytes_eq i) js) (share is js) h) [
  | inl e ↦ (i, first, any_among i js e)
  | inr k ↦ let (n, a, b) = share_common is js k in (n, later a, b)
]

common_share : (is js : List (List ℕ)) (i : List ℕ) → Among i is → Among i js → share is js ≡ true
common_share (i ∷ is) js _ first b = or_this (list_any (bytes_eq i) js) (share is js) (among_any i js b)
common_share (k ∷ is) js i (later a) b = or_that (list_any (bytes_eq k) js) (share is js) (common_share is js i a b)
common_share [] js i a b = elim a [ ]

-- the instances of an event as a list
among_instance : (e : TermEvent) (n : ℕ) → Among n (e.at ∷ some_list e.also) → IsInstance e n
among_instance e n first = inl refl
among_instance e n (later h) = inr (of_also e.also h)
  where
    of_also : (o : Option ℕ) → Among n (some_list o) → o ≡ Some n
    of_also None h = elim h [ ]
    of_also (Some m) first = refl
    of_also (Some m) (later h) = elim h [ ]

instance_among : (e : TermEvent) (n : ℕ) → IsInstance e n → Among n (e.at ∷ some_list e.also)
instance_among e n (inl h) = subst (λ k. Among k (e.at ∷ some_list e.also)) (sym h) first
instance_among e n (inr h) = later (of_also e.also h)
  where
    of_also : (o : Option ℕ) → o ≡ Some n → Among n (some_list o)
    of_also None h = absurd cc
    of_also (Some m) h = let e : m ≡ n = cc in subst (λ k. Among k (m ∷ [])) e first

-- an instance that two events of terms share
hits_common : (e f : TermEvent) → hits (block_of f) e ≡ true → (n : ℕ) × IsInstance e n × IsInstance f n
hits_common e f h = elim (or_case (has (f.at ∷ some_list f.also) e.at || has_some (f.at ∷ some_list f.also) e.also) false h) [
  | inl k ↦ elim (or_case (has (f.at ∷ some_list f.also) e.at) (has_some (f.at ∷ some_list f.also) e.also) k) [
    | inl a ↦ (e.at, inl refl, among_instance f e.at (has_among (f.at ∷ some_list f.also) e.at a))
    | inr a ↦ let (n, i, j) = of_also e.also a in (n, inr i, among_instance f n j)
  ]
  | inr k ↦ absurd cc
]
  where
    of_also : (o : Option ℕ) → has_some (f.at ∷ some_list f.also) o ≡ true → (n : ℕ) × (o ≡ Some n) × Among n (f.at ∷ some_list f.also)
    of_also None h = absurd cc
    of_also (Some n) h = (n, refl, has_among (f.at ∷ some_list f.also) n h)

common_hits : (e f : TermEvent) (n : ℕ) → IsInstance e n → IsInstance f n → hits (block_of f) e ≡ true
common_hits e f n i j = or_this (has (f.at ∷ some_list f.also) e.at || has_some (f.at ∷ some_list f.also) e.also) false (either i (among_has (f.at ∷ some_list f.also) n (instance_among f n j)))
  where
    either : IsInstance e n → has (f.at ∷ some_list f.also) n ≡ true → (has (f.at ∷ some_list f.also) e.at || has_some (f.at ∷ some_list f.also) e.also) ≡ true
    either (inl h) k = or_this (has (f.at ∷ some_list f.also) e.at) (has_some (f.at ∷ some_list f.also) e.also) (subst (λ m. has (f.at ∷ some_list f.also) m ≡ true) h k)
    either (inr h) k = or_that (has (f.at ∷ some_list f.also) e.at) (has_some (f.at ∷ some_list f.also) e.also) (subst (λ o. has_some (f.at ∷ some_list f.also) o ≡ true) (sym h) k)

-- where each name stands once
module _ (labels : List Label) (names : List (List ℕ)) (once : Once names) where
  pub named_meet : (e f : TermEvent) (g h : Happening) → IsNamed labels names e g → IsNamed labels names f h → numbered.meets e f ≡ plain.meets g h
  named_meet e f g h a b = tests_agree (hits (block_of f) e) (share (instances_of g) (instances_of h)) to from
    where
      to : hits (block_of f) e ≡ true → share (instances_of g) (instances_of h) ≡ true
      to k =
          let (n, i, j) = hits_common e f k in
          let p = a.there n i in
          let q = b.there n j in
          let e : q.name ≡ p.name = some_is q.name p.name (sym q.is ∙ p.is) in
          common_share (instances_of g) (instances_of h) p.name p.among (subst (λ z. Among z (instances_of h)) e q.among)

      from : share (instances_of g) (instances_of h) ≡ true → hits (block_of f) e ≡ true
      from k =
          let (i, x, y) = share_common (instances_of g) (instances_of h) k in
          let p = a.back i x in
          let q = b.back i y in
          let same : q.number ≡ p.number = once_place names once q.number p.number i q.name p.name in
          common_hits e f p.number p.is (subst (IsInstance f) same q.is)

  pub seen_meet : (tags : ℕ → List Tag) (e f : TermEvent) (g h : Happening) → IsSeen labels names tags e g → IsSeen labels names tags f h → numbered.meets e f ≡ plain.meets g h
  seen_meet tags e f g h a b = named_meet e f g h a.named b.named
