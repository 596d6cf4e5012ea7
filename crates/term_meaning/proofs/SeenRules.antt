-- Events that are named and seen with their tags: how they come about, ties over them, and tables that grow.
use Rattle.std.specs.List.{slice_get}
use Rattle.std.specs.Prelude.{ℕ, zero, suc, Bool, List, [], ◌∷◌, ◌++◌, Option, Some, None, ◌≡◌, ◌⊎◌}
use Rattle.std.proofs.Common.{sym, ◌∙◌, inl, inr, refl, subst, ap}
use Rattle.msc_base.specs.declared.label.Label.{Label}
use Rattle.msc_base.specs.Orders.{Among, first, later}
use Rattle.msc_unfolding.specs.Unfoldings.{Tag, Happening, Tie, Unfolding, plain, joins, past_all, instances_of}
use Rattle.std.specs.Option.{option_to_list}
use Rattle.chart_term.specs.TermMeanings.{NetTerms, HasPattern}
use Rattle.chart_term.specs.TermPatterns.{Shape, Occurs, pairs}
use Rattle.chart_term.specs.Terms.{TermEvent, Tree, Tied}
use Rattle.term_meaning.specs.Growing.{KeepsPlaces}
use Rattle.term_meaning.specs.Meanings.{Mean}
use Rattle.term_meaning.specs.Naming.{IsInstance, IsNameOf, HasNameIn, IsNamed, IsSeen}
use Rattle.term_meaning.specs.UnfoldingSets.{AreTied}
use Rattle.term_meaning.proofs.MeaningRules.{mean_tie, mean_as}

module _ (labels : List Label) (names : List (List ℕ)) where
  -- an event of one instance
  pub named_alone : (e : TermEvent) (h : Happening) → slice_get labels e.label ≡ Some h.label → slice_get names e.at ≡ Some h.label.at → e.also ≡ None → h.also ≡ None → IsNamed labels names e h
  named_alone e h l n a b = record { label = l; there = there; back = back }
    where
      there : (k : ℕ) → IsInstance e k → HasNameIn names h k
      there k (inl i) = record { name = h.label.at; is = ap (slice_get names) i ∙ n; among = first }
      there k (inr i) = absurd cc

      only : (i : List ℕ) (j : List ℕ) (o : Option (List ℕ)) → o ≡ None → Among i (j ∷ option_to_list o) → i ≡ j
      only _ j o e first = refl
      only i j None e (later x) = elim x [ ]
      only i j (Some k) e (later x) = absurd cc

      back : (i : List ℕ) → Among i (instances_of h) → IsNameOf names e i
      back i x = record { number = e.at; is = inl refl; name = n ∙ ap Some (sym (only i h.label.at h.also b x)) }

  -- an event of two instances, in either order
  pub named_both : (e : TermEvent) (h : Happening) (m : ℕ) (other : List ℕ) → slice_get labels e.label ≡ Some h.label → e.also ≡ Some m → h.also ≡ Some other
      → ((slice_get names e.at ≡ Some h.label.at) × (slice_get names m ≡ Some other)) ⊎ ((slice_get names m ≡ Some h.label.at) × (slice_get names e.at ≡ Some other))
      → IsNamed labels names e h
  named_both e h m other l a b n = record { label = l; there = there; back = back }
    where
      some_same : (j k : ℕ) → Some j ≡ Some k → j ≡ k
      some_same j k p = cc

      second : Among other (instances_of h)
      second = later (subst (λ o. Among other (option_to_list o)) (sym b) first)

      there : (k : ℕ) → IsInstance e k → HasNameIn names h k
      there k i = over n i
        where
          over : ((slice_get names e.at ≡ Some h.label.at) × (slice_get names m ≡ Some other)) ⊎ ((slice_get names m ≡ Some h.label.at) × (slice_get names e.at ≡ Some other)) → IsInstance e k → HasNameIn names h k
          over (inl (p, q)) (inl i) = record { name = h.label.at; is = ap (slice_get names) i ∙ p; among = first }
          over (inl (p, q)) (inr i) = record { name = other; is = ap (slice_get names) (some_same k m (sym i ∙ a)) ∙ q; among = second }
          over (inr (p, q)) (inl i) = record { name = other; is = ap (slice_get names) i ∙ q; among = second }
          over (inr (p, q)) (inr i) = record { name = h.label.at; is = ap (slice_get names) (some_same k m (sym i ∙ a)) ∙ p; among = first }

      either : (i j k : List ℕ) (o : Option (List ℕ)) → o ≡ Some k → Among i (j ∷ option_to_list o) → (i ≡ j) ⊎ (i ≡ k)
      either _ j k o e first = inl refl
      either i j k None e (later x) = absurd cc
      either i j k (Some y) e (later x) = let p : y ≡ k = cc in inr (of_one i y x ∙ p)
        where
          of_one : (i y : List ℕ) → Among i (y ∷ []) → i ≡ y
          of_one _ y first = refl
          of_one i y (later z) = elim z [ ]

      back : (i : List ℕ) → Among i (instances_of h) → IsNameOf names e i
      back i x = over n (either i h.label.at other h.also b x)
        where
          over : ((slice_get names e.at ≡ Some h.label.at) × (slice_get names m ≡ Some other)) ⊎ ((slice_get names m ≡ Some h.label.at) × (slice_get names e.at ≡ Some other)) → (i ≡ h.label.at) ⊎ (i ≡ other) → IsNameOf names e i
          over (inl (p, q)) (inl y) = record { number = e.at; is = inl refl; name = p ∙ ap Some (sym y) }
          over (inl (p, q)) (inr y) = record { number = m; is = inr a; name = q ∙ ap Some (sym y) }
          over (inr (p, q)) (inl y) = record { number = m; is = inr a; name = p ∙ ap Some (sym y) }
          over (inr (p, q)) (inr y) = record { number = e.at; is = inl refl; name = q ∙ ap Some (sym y) }

  -- seen, and its number is one of these
  abbrev Known : (ℕ → List Tag) → (ℕ → Type 0) → TermEvent → Happening → Type 0
  Known tags N e h = IsSeen labels names tags e h × N e.number

  -- a tie over events that are seen with the tags of their numbers: N holds of the numbers that occur
  pub mean_seen_tie : (w : NetTerms) (o : Bool) (x : Tree) (q : List (ℕ × ℕ)) (t : Tie) (A : Unfolding → Type 0) (tags above : ℕ → List Tag) (N : ℕ → Type 0)
      → ((s : Shape) → HasPattern w o x s → (n : ℕ) → Occurs n s → N n)
      → ((m n : ℕ) → N m → N n → pairs q m n ≡ joins t.pairs (tags m) (tags n))
      → ((n : ℕ) → N n → past_all t.past (tags n) ≡ above n)
      → Mean (IsSeen labels names tags) (HasPattern w o x) A → Mean (IsSeen labels names above) (HasPattern w o (Tied x q)) (AreTied A t)
  mean_seen_tie w o x q t A tags above N within tie past a =
      mean_tie (Known tags N) (IsSeen labels names above) w o x q t A up says
      (mean_as (IsSeen labels names tags) (Known tags N) (HasPattern w o x) A (λ s p e h i k. (k, within s p e.number i)) a)
    where
      up : (e : TermEvent) (h : Happening) → Known tags N e h → IsSeen labels names above e (plain.carries t h)
      up e h (k, n) = record {
        named = record { label = k.named.label; there = λ i j. let r = k.named.there i j in record { name = r.name; is = r.is; among = r.among }; back = k.named.back };
        tags_are = ap (past_all t.past) k.tags_are ∙ past e.number n;
      }

      says : (e f : TermEvent) (g h : Happening) → Known tags N e g → Known tags N f h → pairs q e.number f.number ≡ joins t.pairs g.tags h.tags
      says e f g h (k, m) (l, n) = tie e.number f.number m n ∙ (sym (ap (λ z. joins t.pairs z (tags f.number)) k.tags_are) ∙ sym (ap (λ z. joins t.pairs g.tags z) l.tags_are))

  -- at the outermost level tags don't count
  pub mean_named : (P : Shape → Type 0) (A : Unfolding → Type 0) (tags : ℕ → List Tag) → Mean (IsSeen labels names tags) P A → Mean (IsNamed labels names) P A
  mean_named P A tags a = mean_as (IsSeen labels names tags) (IsNamed labels names) P A (λ s p e h i k. k.named) a

-- tables that have grown name the same
pub named_later : (labels more : List Label) (names others : List (List ℕ)) → KeepsPlaces labels more → KeepsPlaces names others → (e : TermEvent) (h : Happening) → IsNamed labels names e h → IsNamed more others e h
named_later labels more names others l n e h k = record {
  label = l e.label h.label k.label;
  there = λ i j. let r = k.there i j in record { name = r.name; is = n i r.name r.is; among = r.among };
  back = λ i j. let r = k.back i j in record { number = r.number; is = r.is; name = n r.number i r.name };
}

pub mean_named_later : (labels more : List Label) (names others : List (List ℕ)) → KeepsPlaces labels more → KeepsPlaces names others → (P : Shape → Type 0) (A : Unfolding → Type 0)
    → Mean (IsNamed labels names) P A → Mean (IsNamed more others) P A
mean_named_later labels more names others l n P A a = mean_as (IsNamed labels names) (IsNamed more others) P A (λ s p e h i k. named_later labels more names others l n e h k) a

pub mean_seen_later : (labels more : List Label) (names others : List (List ℕ)) (tags : ℕ → List Tag) → KeepsPlaces labels more → KeepsPlaces names others → (P : Shape → Type 0) (A : Unfolding → Type 0)
    → Mean (IsSeen labels names tags) P A → Mean (IsSeen more others tags) P A
mean_seen_later labels more names others tags l n P A a =
    mean_as (IsSeen labels names tags) (IsSeen more others tags) P A (λ s p e h i k. record { named = named_later labels more names others l n e h k.named; tags_are = k.tags_are }) a

pub keeps_more : {X : Type 0} (old more : List X) → KeepsPlaces old (old ++ more)
keeps_more [] more i x h = absurd cc
keeps_more (y ∷ old) more zero x h = h
keeps_more (y ∷ old) more (suc i) x h = keeps_more old more i x h
