-- A graph with few lines, in which no label is unknown or stands twice, has its net, whose edges lead to its lines.
use Rattle.std.specs.List.{cons_option, flat_map, list_any, slice_get}
use Rattle.std.specs.Option.{is_some}
use Rattle.std.specs.Str.{bytes_eq}
use Rattle.std.specs.Prelude.{ℕ, zero, suc, ◌<◌, true, false, List, [], ◌∷◌, ◌++◌, Option, None, Some, length, map}
use Rattle.std.proofs.Common.{◌≡◌, ◌∙◌, refl, sym, ap, ap₂, subst, inl, inr, arith, get_or}
use Rattle.std.proofs.lemmas.Bool.{or_left, or_right}
use Rattle.std.proofs.lemmas.List.{length-map}
use Rattle.std.proofs.lemmas.Option.{same_Some}
use Rattle.std.proofs.lemmas.Slice.Eq.{bytes_eq-Decides}
use Rattle.msc_base.specs.declared.label.LabelRef.{LabelRef}
use Rattle.msc_base.specs.declared.place.Place.{Place}
use Rattle.msc_base.specs.Lists.{IsIn}
use Rattle.hmsc_graph.specs.declared.shape.ShapeLine.{ShapeLine}
use Rattle.hmsc_graph.specs.Shapes.{AreNext, AreNumbers, HasLabel, IsUnknown, line_number}
use Rattle.hmsc_graph.proofs.LabelFacts.{is_some-position, position_below}
use Rattle.expansion_terms.specs.MadeTerms.{numbers_of}
use Rattle.expanded_terms.specs.GraphWalks.{NetsAreWhole}

module _ (lines : List ShapeLine) where
  abbrev names : List (List ℕ)
  names = map (λ (line : ShapeLine). line.label) lines

-- a line's label is listed
listed : (lines : List ShapeLine) (number : ℕ) (name : List ℕ) → HasLabel lines number name → list_any (bytes_eq name) (names lines) ≡ true
listed [] number name h = absurd (none h.at)
  where
    none : {line : ShapeLine} → slice_get [] number ≡ Some line → ⊥
    none e = cc
listed (l ∷ lines) zero name h = or_left (bytes_eq name l.label) (list_any (bytes_eq name) (names lines)) ((bytes_eq-Decides name l.label).1 (sym (ap (λ (line : ShapeLine). line.label) (same_Some l h.line h.at) ∙ h.is)))
listed (l ∷ lines) (suc n) name h = or_right (bytes_eq name l.label) (list_any (bytes_eq name) (names lines)) (listed lines n name (record { line = h.line; at = h.at; is = h.is }))

module _ (lines : List ShapeLine) where
  unknown_left : (before after : List LabelRef) (p : Place) → IsUnknown lines before p → IsUnknown lines (before ++ after) p
  unknown_left [] after p h = absurd h
  unknown_left (l ∷ before) after p (inl h) = inl h
  unknown_left (l ∷ before) after p (inr h) = inr (unknown_left before after p h)

  unknown_right : (before after : List LabelRef) (p : Place) → IsUnknown lines after p → IsUnknown lines (before ++ after) p
  unknown_right [] after p h = h
  unknown_right (l ∷ before) after p h = inr (unknown_right before after p h)

  -- the number of a known label is that of a line
  number_found : (l : LabelRef) (ls : List LabelRef) → ((p : Place) → IsUnknown lines (l ∷ ls) p → ⊥) → (k : ℕ) × (line_number lines l.name ≡ Some k) × (k < length lines)
  number_found l ls known = by (line_number lines l.name) refl
    where
      by : (o : Option ℕ) → line_number lines l.name ≡ o → (k : ℕ) × (line_number lines l.name ≡ Some k) × (k < length lines)
      by (Some k) e = let low = position_below (bytes_eq l.name) (names lines) k e in let many = length-map lines (λ (line : ShapeLine). line.label) in (k, e, omega (arith, low, many))
      by None e = absurd (known l.place (inl (refl, λ number has. clash (sym (listed lines number l.name has) ∙ sym (is_some-position (bytes_eq l.name) (names lines)) ∙ ap is_some e))))
        where
          clash : true ≡ false → ⊥
          clash q = cc

  numbers_are : (ls : List LabelRef) → ((p : Place) → IsUnknown lines ls p → ⊥) → AreNumbers lines ls (numbers_of lines ls)
  numbers_are [] known = refl
  numbers_are (l ∷ ls) known = by (number_found l ls known) (numbers_are ls (λ p h. known p (inr h)))
    where
      by : (k : ℕ) × (line_number lines l.name ≡ Some k) × (k < length lines) → AreNumbers lines ls (numbers_of lines ls) → AreNumbers lines (l ∷ ls) (numbers_of lines (l ∷ ls))
      by (k, e, low) rest = ap (λ (o : Option ℕ). map (λ n. Some n) (cons_option o (numbers_of lines ls))) e ∙ ap₂ (λ (x : Option ℕ) (xs : List (Option ℕ)). x ∷ xs) (sym e) rest

  numbers_below : (ls : List LabelRef) → ((p : Place) → IsUnknown lines ls p → ⊥) → (m : ℕ) → IsIn m (numbers_of lines ls) → m < length lines
  numbers_below [] known m i = absurd i
  numbers_below (l ∷ ls) known m i = by (number_found l ls known) (numbers_below ls (λ p h. known p (inr h)) m)
    where
      by : (k : ℕ) × (line_number lines l.name ≡ Some k) × (k < length lines) → (IsIn m (numbers_of lines ls) → m < length lines) → m < length lines
      by (k, e, low) rest = at (subst (λ (o : Option ℕ). IsIn m (cons_option o (numbers_of lines ls))) e i)
        where
          at : IsIn m (k ∷ numbers_of lines ls) → m < length lines
          at (inl q) = omega (arith, low, q)
          at (inr j) = rest j

  next_are : (rest : List ShapeLine) → ((p : Place) → IsUnknown lines (flat_map (λ line. line.next) rest) p → ⊥) → AreNext lines rest (map (λ (line : ShapeLine). numbers_of lines line.next) rest)
  next_are [] known = tt
  next_are (line ∷ rest) known = (
    numbers_are line.next (λ p h. known p (unknown_left line.next (flat_map (λ k. k.next) rest) p h)),
    next_are rest (λ p h. known p (unknown_right line.next (flat_map (λ k. k.next) rest) p h)),
  )

  next_below : (rest : List ShapeLine) → ((p : Place) → IsUnknown lines (flat_map (λ line. line.next) rest) p → ⊥) → (k m : ℕ) → IsIn m (get_or (map (λ (line : ShapeLine). numbers_of lines line.next) rest) k []) → m < length lines
  next_below [] known k m i = absurd i
  next_below (line ∷ rest) known zero m i = numbers_below line.next (λ p h. known p (unknown_left line.next (flat_map (λ k. k.next) rest) p h)) m i
  next_below (line ∷ rest) known (suc k) m i = next_below rest (λ p h. known p (unknown_right line.next (flat_map (λ k. k.next) rest) p h)) k m i

pub nets_are_whole : NetsAreWhole
nets_are_whole g faultless few =
    let lines = g.lines in
    let ends = length-map lines (λ (line : ShapeLine). line.ends) in
    let next = length-map lines (λ (line : ShapeLine). numbers_of lines line.next) in
    record {
      drawn = record { starts = numbers_are lines g.starts start_known; next = next_are lines lines next_known; ends = refl };
      faultless = faultless;
      net = record {
        few = omega (arith, ends, few);
        each = next ∙ sym ends;
        starts_below = λ m i. let low = numbers_below lines g.starts start_known m i in omega (arith, low, ends);
        next_below = λ k m i. let low = next_below lines lines next_known k m i in omega (arith, low, ends);
      };
    }
  where
    start_known : (p : Place) → IsUnknown g.lines g.starts p → ⊥
    start_known p h = faultless p (inl (unknown_left g.lines g.starts (flat_map (λ line. line.next) g.lines) p h))

    next_known : (p : Place) → IsUnknown g.lines (flat_map (λ line. line.next) g.lines) p → ⊥
    next_known p h = faultless p (inl (unknown_right g.lines g.starts (flat_map (λ line. line.next) g.lines) p h))
