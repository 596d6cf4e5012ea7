-- The numbering of events has their instances and labels, each once.
use Rattle.std.specs.Prelude.{ℕ, suc, ◌+◌, ◌<◌, Bool, true, false, List, [], ◌∷◌, ◌++◌, Option, Some, None, length, if◌then◌else◌}
use Rattle.std.specs.List.{list_any, position, slice_get}
use Rattle.std.specs.Str.{bytes_eq}
use Rattle.std.proofs.Common.{◌≡◌, ◌⊎◌, ◌∙◌, refl, sym, ap, subst, inl, inr, arith}
use Rattle.std.proofs.lemmas.Slice.Eq.{bytes_eq-Decides}
use Rattle.msc_base.specs.declared.label.Label.{Label}
use Rattle.msc_base.specs.Orders.{Among, first, later, Once}
use Rattle.label_table.specs.Labels.{same_label}
use Rattle.label_table.proofs.Equality.{label_self, same_label_is_exact}
use Rattle.label_table.proofs.Positions as places
use Rattle.expanded_charts.specs.Expanding.{NumberedEvent}
use Rattle.expanded_charts.specs.Numbering.{with_event, with_events, with_second}
use Rattle.expanded_charts.specs.declared.numbering.Numbering.{Numbering}

-- ---- lists, by an exact test

module _ {X : Type 0} where
  in_front : (xs ys : List X) (x : X) → Among x xs → Among x (xs ++ ys)
  in_front (y ∷ xs) ys _ first = first
  in_front (y ∷ xs) ys x (later h) = later (in_front xs ys x h)
  in_front [] ys x h = elim h [ ]

  at_last : (xs : List X) (x : X) → Among x (xs ++ x ∷ [])
  at_last [] x = first
  at_last (y ∷ xs) x = later (at_last xs x)

  same_last : (x y : X) → Among y (x ∷ []) → y ≡ x
  same_last x _ first = refl
  same_last x y (later i) = elim i [ ]

  last_or : (xs : List X) (x y : X) → Among y (xs ++ x ∷ []) → Among y xs ⊎ (y ≡ x)
  last_or [] x y h = inr (same_last x y h)
  last_or (z ∷ xs) x _ first = inl first
  last_or (z ∷ xs) x y (later h) = elim (last_or xs x y h) [ inl i ↦ inl (later i) | inr e ↦ inr e ]

  once_last : (xs : List X) (x : X) → Once xs → (Among x xs → ⊥) → Once (xs ++ x ∷ [])
  once_last [] x o n = ((λ i. elim i [ ]), tt)
  once_last (y ∷ xs) x (o, p) n = (
    (λ i. elim (last_or xs x y i) [ inl j ↦ o j | inr e ↦ n (subst (λ (z : X). Among x (z ∷ xs)) (sym e) first) ]),
    once_last xs x p (λ k. n (later k)),
  )

  module _ (p : X → X → Bool) (sound : (a b : X) → p a b ≡ true → a ≡ b) (whole : (a : X) → p a a ≡ true) where
    abbrev put : Bool → List X → X → List X
    put b xs x = if b then xs else xs ++ x ∷ []

    any_there : (xs : List X) (x : X) → list_any (p x) xs ≡ true → Among x xs
    any_there [] x h = absurd cc
    any_there (y ∷ xs) x h = by (p x y) refl (any_there xs x)
      where
        by : (b : Bool) → p x y ≡ b → (list_any (p x) xs ≡ true → Among x xs) → Among x (y ∷ xs)
        by true e f = subst (λ (z : X). Among x (z ∷ xs)) (sound x y e) first
        by false e f = later (f (rest e))
          where
            rest : p x y ≡ false → list_any (p x) xs ≡ true
            rest e = sym (rw e refl) ∙ h

    there_any : (xs : List X) (x : X) → Among x xs → list_any (p x) xs ≡ true
    there_any (y ∷ xs) x h = by (p x y) refl h (there_any xs x)
      where
        by : (b : Bool) → p x y ≡ b → Among x (y ∷ xs) → (Among x xs → list_any (p x) xs ≡ true) → list_any (p x) (y ∷ xs) ≡ true
        by true e h f = rw e refl
        by false e h f = let k : Among x xs = not_first y e h in rw e (f k)
          where
            not_first : (y : X) → p x y ≡ false → Among x (y ∷ xs) → Among x xs
            not_first _ e first = absurd (clash (sym (whole x) ∙ e))
              where
                clash : true ≡ false → ⊥
                clash q = cc
            not_first y e (later i) = i
    there_any [] x h = elim h [ ]

    pub put_has : (xs : List X) (x : X) → Among x (put (list_any (p x) xs) xs x)
    put_has xs x = by (list_any (p x) xs) refl
      where
        by : (b : Bool) → list_any (p x) xs ≡ b → Among x (put b xs x)
        by true e = any_there xs x e
        by false e = at_last xs x

    pub put_keeps : (b : Bool) (xs : List X) (x y : X) → Among y xs → Among y (put b xs x)
    put_keeps true xs x y h = h
    put_keeps false xs x y h = in_front xs (x ∷ []) y h

    pub put_once : (xs : List X) (x : X) → Once xs → Once (put (list_any (p x) xs) xs x)
    put_once xs x o = by (list_any (p x) xs) refl
      where
        by : (b : Bool) → list_any (p x) xs ≡ b → Once (put b xs x)
        by true e = o
        by false e = once_last xs x o (λ i. clash (sym (there_any xs x i) ∙ e))
          where
            clash : true ≡ false → ⊥
            clash q = cc

    -- what is there is found at its place
    pub found : (xs : List X) (x : X) → Among x xs → (k : ℕ) × (position (p x) xs ≡ Some k) × (slice_get xs k ≡ Some x) × (k < length xs)
    found (y ∷ xs) x h = by (p x y) refl h (found xs x)
      where
        by : (b : Bool) → p x y ≡ b → Among x (y ∷ xs) → (Among x xs → (k : ℕ) × (position (p x) xs ≡ Some k) × (slice_get xs k ≡ Some x) × (k < length xs))
            → (k : ℕ) × (position (p x) (y ∷ xs) ≡ Some k) × (slice_get (y ∷ xs) k ≡ Some x) × (k < length (y ∷ xs))
        by true e h f = (0, places.position-first (p x) y xs e, ap Some (sym (sound x y e)), omega arith)
        by false e h f = behind (f (not_first y e h))
          where
            not_first : (y : X) → p x y ≡ false → Among x (y ∷ xs) → Among x xs
            not_first _ e first = absurd (clash (sym (whole x) ∙ e))
              where
                clash : true ≡ false → ⊥
                clash q = cc
            not_first y e (later i) = i

            behind : (k : ℕ) × (position (p x) xs ≡ Some k) × (slice_get xs k ≡ Some x) × (k < length xs) → (k : ℕ) × (position (p x) (y ∷ xs) ≡ Some k) × (slice_get (y ∷ xs) k ≡ Some x) × (k < length (y ∷ xs))
            behind (k, a, b, c) = (suc k, places.position-later (p x) y xs e ∙ (ap places.later a ∙ ap Some (let q : 1 + k ≡ suc k = omega arith in q)), b, omega (arith, c))
    found [] x h = elim h [ ]

name_sound : (a b : List ℕ) → bytes_eq a b ≡ true → a ≡ b
name_sound a b h = (bytes_eq-Decides a b).0 h

name_whole : (a : List ℕ) → bytes_eq a a ≡ true
name_whole a = (bytes_eq-Decides a a).1 refl

pub name_found : (names : List (List ℕ)) (i : List ℕ) → Among i names → (k : ℕ) × (position (bytes_eq i) names ≡ Some k) × (slice_get names k ≡ Some i) × (k < length names)
name_found names i h = found bytes_eq name_sound name_whole names i h

pub label_found : (labels : List Label) (l : Label) → Among l labels → (k : ℕ) × (position (same_label l) labels ≡ Some k) × (slice_get labels k ≡ Some l) × (k < length labels)
label_found labels l h = found same_label same_label_is_exact.sound label_self labels l h

-- ---- events

-- the numbering has what the event needs
pub record Has (s : Numbering) (e : NumberedEvent) : Type 0 where
  pub at : Among e.happening.label.at s.names
  pub also : (i : List ℕ) → e.happening.also ≡ Some i → Among i s.names
  pub label : Among e.happening.label s.labels

second_keeps : (names : List (List ℕ)) (o : Option (List ℕ)) (i : List ℕ) → Among i names → Among i (with_second names o)
second_keeps names None i h = h
second_keeps names (Some j) i h = put_keeps bytes_eq name_sound name_whole (list_any (bytes_eq j) names) names j i h

second_has : (names : List (List ℕ)) (o : Option (List ℕ)) (i : List ℕ) → o ≡ Some i → Among i (with_second names o)
second_has names o i e = subst (λ (o : Option (List ℕ)). Among i (with_second names o)) (sym e) (put_has bytes_eq name_sound name_whole names i)

second_once : (names : List (List ℕ)) (o : Option (List ℕ)) → Once names → Once (with_second names o)
second_once names None h = h
second_once names (Some j) h = put_once bytes_eq name_sound name_whole names j h

abbrev first_names : Numbering → NumberedEvent → List (List ℕ)
first_names s e = put bytes_eq name_sound name_whole (list_any (bytes_eq e.happening.label.at) s.names) s.names e.happening.label.at

has_event : (s : Numbering) (e : NumberedEvent) → Has (with_event s e) e
has_event s e = record {
  at = second_keeps (first_names s e) e.happening.also e.happening.label.at (put_has bytes_eq name_sound name_whole s.names e.happening.label.at);
  also = λ i q. second_has (first_names s e) e.happening.also i q;
  label = put_has same_label same_label_is_exact.sound label_self s.labels e.happening.label;
}

event_keeps : (s : Numbering) (e d : NumberedEvent) → Has s d → Has (with_event s e) d
event_keeps s e d h = record {
  at = name d.happening.label.at h.at;
  also = λ i q. name i (h.also i q);
  label = put_keeps same_label same_label_is_exact.sound label_self (list_any (same_label e.happening.label) s.labels) s.labels e.happening.label d.happening.label h.label;
}
  where
    name : (i : List ℕ) → Among i s.names → Among i (with_event s e).names
    name i k = second_keeps (first_names s e) e.happening.also i (put_keeps bytes_eq name_sound name_whole (list_any (bytes_eq e.happening.label.at) s.names) s.names e.happening.label.at i k)

events_keep : (es : List NumberedEvent) (s : Numbering) (d : NumberedEvent) → Has s d → Has (with_events s es) d
events_keep [] s d h = h
events_keep (e ∷ es) s d h = events_keep es (with_event s e) d (event_keeps s e d h)

pub have_events : (es : List NumberedEvent) (s : Numbering) (e : NumberedEvent) → Among e es → Has (with_events s es) e
have_events (e ∷ es) s _ first = events_keep es (with_event s e) e (has_event s e)
have_events (d ∷ es) s e (later h) = have_events es (with_event s d) e h
have_events [] s e h = elim h [ ]

-- ---- each once

pub record AreNamedOnce (s : Numbering) : Type 0 where
  pub names : Once s.names
  pub labels : Once s.labels

event_once : (s : Numbering) (e : NumberedEvent) → AreNamedOnce s → AreNamedOnce (with_event s e)
event_once s e h = record {
  names = second_once (first_names s e) e.happening.also (put_once bytes_eq name_sound name_whole s.names e.happening.label.at h.names);
  labels = put_once same_label same_label_is_exact.sound label_self s.labels e.happening.label h.labels;
}

pub events_once : (es : List NumberedEvent) (s : Numbering) → AreNamedOnce s → AreNamedOnce (with_events s es)
events_once [] s h = h
events_once (e ∷ es) s h = events_once es (with_event s e) (event_once s e h)
