-- Matched events when one more event of the instance comes, and numbers that differ.
use Rattle.std.proofs.Common.{◌≡◌, ◌∙◌, ◌+◌, inl, inr, ℕ, Bool, true, false, if◌then◌else◌, List, [], ◌∷◌, ◌++◌, Option, None, Some, refl, sym, ap, ap₂, subst, arith, filter, slice_get, append_assoc}
use Rattle.std.proofs.lemmas.Bool.{and_parts, cases_eq}
use Rattle.std.proofs.lemmas.List.Sums.{sum_by-append}
use Rattle.std.proofs.lemmas.Slice.Eq.{bytes_eq-Decides}
use Rattle.std.specs.List.{count_by}
use Rattle.std.specs.Str.{bytes_eq}
use Rattle.msc_meaning.specs.Bodies.{EventNode}
use Rattle.msc_meaning.specs.EventLabels.{text_of}
use Rattle.msc_meaning.specs.Refinements.{Match, all_like, env_events, events_at, is_like, match_list, matches_behind}
use Rattle.refined_events.specs.Keys.{IsKeyOf, Key, goes, is_of, key_view, way}
use Rattle.refined_events.specs.Mismatches.{Mismatches}
use Rattle.refined_events.specs.Sorted.{AreCounts, AreSorted, HasOther, HasOtherBy, HaveOther, count_of, placed_at}
use Rattle.refined_events.specs.declared.counts.Counts.{Counts}
use Rattle.refined_events.specs.declared.keys.EventKey.{EventKey}
use Rattle.refined_events.specs.declared.placed.PlacedEvents.{PlacedEvents}
use Rattle.refined_events.proofs.KeyLaws.{like_key, like_none, like_of}

-- ---- the event that stands for the next one

pub next_found : (es ds : List EventNode) (e : EventNode) (key : EventKey) (before : Counts) (inner : PlacedEvents) → IsKeyOf e (Some key) → AreCounts es before → AreSorted ds inner
    → placed_at inner (key_view key) (count_of before (key_view key)) ≡ slice_get (all_like e ds) (count_by (is_like e) es)
next_found es ds e key before inner is c s =
    s.placed (key_view key) (count_of before (key_view key))
    ∙ ap₂ (λ (l : List EventNode) (n : ℕ). slice_get l n) (ap (λ (t : EventNode → Bool). filter t ds) (sym (like_key e key is))) (c (key_view key) ∙ ap (λ (t : EventNode → Bool). count_by t es) (sym (like_key e key is)))

all_none : (e : EventNode) → way e.event.kind ≡ None → (ds : List EventNode) → all_like e ds ≡ []
all_none e h [] = refl
all_none e h (d ∷ ds) = ap (λ (b : Bool). if b then d ∷ all_like e ds else all_like e ds) (like_none e h d) ∙ all_none e h ds

pub next_none : (es ds : List EventNode) (e : EventNode) → IsKeyOf e None → None ≡ slice_get (all_like e ds) (count_by (is_like e) es)
next_none es ds e h = ap (λ (l : List EventNode). slice_get l (count_by (is_like e) es)) (sym (all_none e h ds))

-- ---- numbers that differ

count_cons : (p : EventNode → Bool) (x : EventNode) (xs : List EventNode) → count_by p (x ∷ xs) ≡ (if p x then 1 else 0) + count_by p xs
count_cons p x xs = sum_by-append (λ y. if p y then 1 else 0) (x ∷ []) xs ∙ ap (λ (n : ℕ). n + count_by p xs) (omega arith)

pub none_counted : (e : EventNode) → way e.event.kind ≡ None → (es : List EventNode) → count_by (is_like e) es ≡ 0
none_counted e h [] = refl
none_counted e h (d ∷ es) = let same : ◌≡◌ {A = ℕ} (if is_like e d then 1 else 0) 0 = ap (λ (b : Bool). if b then 1 else 0) (like_none e h d) in omega (arith, count_cons (is_like e) d es, same, none_counted e h es)

-- an event of the key, of which there are other numbers
goes_so : (output : Bool) (o : Option Bool) → goes output o ≡ true → o ≡ Some output
goes_so output None e = absurd cc
goes_so true (Some true) e = refl
goes_so true (Some false) e = absurd cc
goes_so false (Some true) e = absurd cc
goes_so false (Some false) e = refl

of_other : (a b : Counts) (k : Key) (e : EventNode) → (count_of a k ≡ count_of b k → ⊥) → is_of k e ≡ true → HasOther a b e
of_other a b k e n t =
    let (w, x) = and_parts (goes k.output (way e.event.kind)) (bytes_eq k.text (text_of e)) t in
    subst (λ (o : Option Bool). HasOtherBy a b o (text_of e)) (sym (goes_so k.output (way e.event.kind) w))
    (subst (λ (l : List ℕ). HasOtherBy a b (Some k.output) l) ((bytes_eq-Decides k.text (text_of e)).0 x) n)

passed_by : (a b : Counts) (k : Key) (e : EventNode) (es : List EventNode) → (count_of a k ≡ count_of b k → ⊥) → (HaveOther a b (e ∷ es) → ⊥) → count_by (is_of k) es ≡ 0 → (t : Bool) → is_of k e ≡ t → count_by (is_of k) (e ∷ es) ≡ 0
passed_by a b k e es n f rest true q = absurd (f (inl (of_other a b k e n q)))
passed_by a b k e es n f rest false q = let same : ◌≡◌ {A = ℕ} (if is_of k e then 1 else 0) 0 = ap (λ (t : Bool). if t then 1 else 0) q in omega (arith, count_cons (is_of k) e es, same, rest)

pub none_of : (a b : Counts) (k : Key) (es : List EventNode) → (count_of a k ≡ count_of b k → ⊥) → (HaveOther a b es → ⊥) → count_by (is_of k) es ≡ 0
none_of a b k [] n f = refl
none_of a b k (e ∷ es) n f = passed_by a b k e es n f (none_of a b k es n (λ h. f (inr h))) (is_of k e) refl

like_counts : (es : List EventNode) (c : Counts) (e : EventNode) (output : Bool) → way e.event.kind ≡ Some output → AreCounts es c → count_by (is_like e) es ≡ count_of c (record { output = output; text = text_of e })
like_counts es c e output h a = ap (λ (t : EventNode → Bool). count_by t es) (like_of e output h) ∙ sym (a (record { output = output; text = text_of e }))

-- none of the events of both, so no numbers differ
pub none_differ : (es ds : List EventNode) (a b : Counts) → AreCounts es a → AreCounts ds b → (HaveOther a b es → ⊥) → (HaveOther a b ds → ⊥) → (e : EventNode) → count_by (is_like e) es ≡ count_by (is_like e) ds
none_differ es ds a b ca cb f g e = by (way e.event.kind) refl
  where
    by : (o : Option Bool) → way e.event.kind ≡ o → count_by (is_like e) es ≡ count_by (is_like e) ds
    by None h = none_counted e h es ∙ sym (none_counted e h ds)
    by (Some output) h =
        let k : Key = record { output = output; text = text_of e } in
        let left = like_counts es a e output h ca in
        let right = like_counts ds b e output h cb in
        elim (cases_eq (count_of a k) (count_of b k)) [
          | inl is ↦ left ∙ is ∙ sym right
          | inr n ↦ omega (arith, left, right, ca k, cb k, none_of a b k es n f, none_of a b k ds n g)
        ]

-- one of them, of which numbers differ
pub one_differs : (es ds : List EventNode) (a b : Counts) → AreCounts es a → AreCounts ds b → (xs : List EventNode) → HaveOther a b xs → (e : EventNode) × (count_by (is_like e) es ≡ count_by (is_like e) ds → ⊥)
one_differs es ds a b ca cb [] h = absurd h
one_differs es ds a b ca cb (x ∷ xs) h = elim h [
  | inl here ↦ (x, by (way x.event.kind) refl here)
  | inr there ↦ one_differs es ds a b ca cb xs there
]
  where
    by : (o : Option Bool) → way x.event.kind ≡ o → HasOtherBy a b o (text_of x) → count_by (is_like x) es ≡ count_by (is_like x) ds → ⊥
    by None q h e = h
    by (Some output) q h e = h (sym (like_counts es a x output q ca) ∙ e ∙ like_counts ds b x output q cb)

pub told_mismatch : (instance : List ℕ) (held inner : List EventNode) (a b : Counts) → AreCounts (events_at instance held) a → AreCounts (env_events inner) b → (xs : List EventNode) → HaveOther a b xs → Mismatches instance held inner
told_mismatch instance held inner a b ca cb xs h = let (e, n) = one_differs (events_at instance held) (env_events inner) a b ca cb xs h in record { like = e; differs = n }

pub told_none : (instance : List ℕ) (held inner : List EventNode) (a b : Counts) → AreCounts (events_at instance held) a → AreCounts (env_events inner) b → (HaveOther a b (events_at instance held) → ⊥) → (HaveOther a b (env_events inner) → ⊥)
    → Mismatches instance held inner → ⊥
told_none instance held inner a b ca cb f g m = m.differs (none_differ (events_at instance held) (env_events inner) a b ca cb f g m.like)

-- ---- walks

pub behind_more : (ds before : List EventNode) (e : EventNode) (es : List EventNode) (done after : List Match) (found : Option EventNode) → found ≡ slice_get (all_like e ds) (count_by (is_like e) before) → after ≡ done ++ match_list e found
    → after ++ matches_behind ds (before ++ e ∷ []) es ≡ done ++ matches_behind ds before (e ∷ es)
behind_more ds before e es done after found q r =
    ap (λ (l : List Match). l ++ matches_behind ds (before ++ e ∷ []) es) (r ∙ ap (λ (o : Option EventNode). done ++ match_list e o) q)
    ∙ append_assoc done (match_list e (slice_get (all_like e ds) (count_by (is_like e) before))) (matches_behind ds (before ++ e ∷ []) es)
