-- A join in normal form has the patterns of its parts.
use Rattle.std.specs.Prelude.{Bool, List, [], ◌∷◌, ◌++◌, ◌⊎◌, true, false, ◌≡◌, refl}
use Rattle.msc_base.specs.Patterns.{Mode, seq, par, empty, join}
use Rattle.chart_term.specs.NormalForms.{open_part, flat, join_of, join_all, choice_of, unless_same, without, distinct, open_choice, open_choices, choice_form}
use Rattle.chart_term.specs.TermMeanings.{NetTerms, HasPattern, has_nil, has_join, has_choice, HasParts, no_part, one_part, HasChoice, this_one, that_one, PatternSet, ◌⊑◌, PatternsOf}
use Rattle.chart_term.specs.TermPatterns.{Shape, ◌≈◌, same, back, on, in_join, assoc, left, right}
use Rattle.chart_term.specs.Terms.{Tree, Nil, Event, Join, Choice, Tied, Loop, Walk, items}
use Rattle.chart_term.proofs.Lists.{items-trees}
use Rattle.chart_term.specs.Equality.{same_tree}
use Rattle.chart_term.proofs.Equal.{tree_is}
use Rattle.std.proofs.Common.{inl, inr}

pub trans : (p q r : PatternSet) → p ⊑ q → q ⊑ r → p ⊑ r
trans p q r f g s h = let k = f s h in let l = g k.0 k.1 in (l.0, l.1, on k.2 l.2)

module _ (w : NetTerms) (o : Bool) where
  parts_app : (m : Mode) (xs : List Tree) {ys : List Tree} {s t : Shape} → HasParts w o m xs s → HasParts w o m ys t → (u : Shape) × HasParts w o m (xs ++ ys) u × (join m s t ≈ u)
  parts_app m [] no_part h = (_, h, left)
  parts_app m (x ∷ xs) (one_part a r) h = let k = parts_app m xs r h in (_, one_part a k.1, on assoc (in_join same k.2))

  parts_cut : (m : Mode) (xs : List Tree) {ys : List Tree} {u : Shape} → HasParts w o m (xs ++ ys) u → (s : Shape) × (t : Shape) × HasParts w o m xs s × HasParts w o m ys t × (u ≈ join m s t)
  parts_cut m [] h = (empty, _, no_part, h, back left)
  parts_cut m (x ∷ xs) (one_part a r) = let k = parts_cut m xs r in (_, k.1, one_part a k.2, k.3, on (in_join same k.4) (back assoc))

  alone_to : (m : Mode) (x : Tree) → HasParts w o m (x ∷ []) ⊑ HasPattern w o x
  alone_to m x s (one_part a no_part) = (_, a, right)

  alone_from : (m : Mode) (x : Tree) → HasPattern w o x ⊑ HasParts w o m (x ∷ [])
  alone_from m x s a = (_, one_part a no_part, back right)

  nil_to : (m : Mode) → HasParts w o m [] ⊑ HasPattern w o Nil
  nil_to m s no_part = (empty, has_nil, same)

  nil_from : (m : Mode) → HasPattern w o Nil ⊑ HasParts w o m []
  nil_from m s has_nil = (empty, no_part, same)

  open_to : (m : Mode) (x : Tree) → HasParts w o m (open_part m x) ⊑ HasPattern w o x
  open_to m Nil = nil_to m
  open_to seq (Join seq xs) = λ s h. (s, has_join h, same)
  open_to seq (Join par xs) = alone_to seq (Join par xs)
  open_to par (Join seq xs) = alone_to par (Join seq xs)
  open_to par (Join par xs) = λ s h. (s, has_join h, same)
  open_to m (Event e) = alone_to m (Event e)
  open_to m (Choice xs) = alone_to m (Choice xs)
  open_to m (Tied x q) = alone_to m (Tied x q)
  open_to m (Loop x lo hi r) = alone_to m (Loop x lo hi r)
  open_to m (Walk n f t c) = alone_to m (Walk n f t c)

  join_from_parts : {m : Mode} {xs : _} (s : Shape) → HasPattern w o (Join m xs) s → (t : Shape) × HasParts w o m (items xs) t × (s ≈ t)
  join_from_parts s (has_join h) = (s, h, same)

  open_from : (m : Mode) (x : Tree) → HasPattern w o x ⊑ HasParts w o m (open_part m x)
  open_from m Nil = nil_from m
  open_from seq (Join seq xs) = join_from_parts
  open_from seq (Join par xs) = alone_from seq (Join par xs)
  open_from par (Join seq xs) = alone_from par (Join seq xs)
  open_from par (Join par xs) = join_from_parts
  open_from m (Event e) = alone_from m (Event e)
  open_from m (Choice xs) = alone_from m (Choice xs)
  open_from m (Tied x q) = alone_from m (Tied x q)
  open_from m (Loop x lo hi r) = alone_from m (Loop x lo hi r)
  open_from m (Walk n f t c) = alone_from m (Walk n f t c)

  flat_to : (m : Mode) (xs : List Tree) → HasParts w o m (flat m xs) ⊑ HasParts w o m xs
  flat_to m [] s h = (s, h, same)
  flat_to m (x ∷ xs) s h =
      let k = parts_cut m (open_part m x) h in
      let p = open_to m x k.0 k.2 in
      let r = flat_to m xs k.1 k.3 in
      (_, one_part p.1 r.1, on k.4 (in_join p.2 r.2))

  flat_from : (m : Mode) (xs : List Tree) → HasParts w o m xs ⊑ HasParts w o m (flat m xs)
  flat_from m [] s h = (s, h, same)
  flat_from m (x ∷ xs) s (one_part a h) =
      let p = open_from m x _ a in
      let r = flat_from m xs _ h in
      let k = parts_app m (open_part m x) p.1 r.1 in
      (k.0, k.1, on (in_join p.2 r.2) k.2)

  of_to : (m : Mode) (xs : List Tree) → HasPattern w o (join_of m xs) ⊑ HasParts w o m xs
  of_to m [] s h = nil_from m s h
  of_to m (x ∷ []) s h = alone_from m x s h
  of_to m (x ∷ y ∷ ys) s (has_join h) = (s, rw (items-trees ys) at h, same)

  of_from : (m : Mode) (xs : List Tree) → HasParts w o m xs ⊑ HasPattern w o (join_of m xs)
  of_from m [] s h = nil_to m s h
  of_from m (x ∷ []) s h = alone_to m x s h
  of_from m (x ∷ y ∷ ys) s h = (s, has_join (rw (items-trees ys) h), same)

  pub join_to : (m : Mode) (xs : List Tree) → HasPattern w o (join_all m xs) ⊑ HasParts w o m xs
  join_to m xs = trans (HasPattern w o (join_all m xs)) (HasParts w o m (flat m xs)) (HasParts w o m xs) (of_to m (flat m xs)) (flat_to m xs)

  pub join_from : (m : Mode) (xs : List Tree) → HasParts w o m xs ⊑ HasPattern w o (join_all m xs)
  join_from m xs = trans (HasParts w o m xs) (HasParts w o m (flat m xs)) (HasPattern w o (join_all m xs)) (flat_from m xs) (of_from m (flat m xs))

  form_to : (ys : List Tree) (s : Shape) → PatternsOf w o (choice_form ys) s → HasChoice w o ys s
  form_to [] s h = absurd h
  form_to (x ∷ []) s h = this_one h
  form_to (x ∷ y ∷ ys) s (has_choice h) = rw (items-trees ys) at h

  form_from : (ys : List Tree) (s : Shape) → HasChoice w o ys s → PatternsOf w o (choice_form ys) s
  form_from [] s h = elim h [ ]
  form_from (x ∷ []) s (this_one a) = a
  form_from (x ∷ []) s (that_one a) = elim a [ ]
  form_from (x ∷ y ∷ ys) s h = has_choice (rw (items-trees ys) h)

  -- equal parts
  same_to : (t : Bool) (y : Tree) (zs ys : List Tree) (s : Shape) → (HasChoice w o zs s → HasChoice w o ys s) → HasChoice w o (unless_same t y zs) s → HasChoice w o (y ∷ ys) s
  same_to true y zs ys s f h = that_one (f h)
  same_to false y zs ys s f (this_one a) = this_one a
  same_to false y zs ys s f (that_one h) = that_one (f h)

  without_to : (x : Tree) (ys : List Tree) (s : Shape) → HasChoice w o (without x ys) s → HasChoice w o ys s
  without_to x [] s h = h
  without_to x (y ∷ ys) s h = same_to (same_tree x y) y (without x ys) ys s (without_to x ys s) h

  same_from : (x y : Tree) (t : Bool) (ys : List Tree) (s : Shape) → same_tree x y ≡ t → HasPattern w o y s → HasPattern w o x s ⊎ HasChoice w o (unless_same t y ys) s
  same_from x y true ys s e a = inl (moved x y (tree_is x y e) a)
    where
      moved : (x y : Tree) → x ≡ y → HasPattern w o y s → HasPattern w o x s
      moved x y p a = rw p a
  same_from x y false ys s e a = inr (this_one a)

  unless_from : (t : Bool) (y : Tree) (ys : List Tree) (s : Shape) → HasChoice w o ys s → HasChoice w o (unless_same t y ys) s
  unless_from true y ys s h = h
  unless_from false y ys s h = that_one h

  without_from : (x : Tree) (ys : List Tree) (s : Shape) → HasChoice w o ys s → HasPattern w o x s ⊎ HasChoice w o (without x ys) s
  without_from x [] s h = inr h
  without_from x (y ∷ ys) s (this_one a) = same_from x y (same_tree x y) (without x ys) s refl a
  without_from x (y ∷ ys) s (that_one h) = elim (without_from x ys s h) [ inl a ↦ inl a | inr i ↦ inr (unless_from (same_tree x y) y (without x ys) s i) ]

  distinct_to : (xs : List Tree) (s : Shape) → HasChoice w o (distinct xs) s → HasChoice w o xs s
  distinct_to [] s h = h
  distinct_to (x ∷ xs) s (this_one a) = this_one a
  distinct_to (x ∷ xs) s (that_one h) = that_one (distinct_to xs s (without_to x (distinct xs) s h))

  distinct_from : (xs : List Tree) (s : Shape) → HasChoice w o xs s → HasChoice w o (distinct xs) s
  distinct_from [] s h = h
  distinct_from (x ∷ xs) s (this_one a) = this_one a
  distinct_from (x ∷ xs) s (that_one h) = elim (without_from x (distinct xs) s (distinct_from xs s h)) [ inl a ↦ this_one a | inr i ↦ that_one i ]

  -- parts that are choices
  cut_to : (xs ys : List Tree) (s : Shape) → HasChoice w o (xs ++ ys) s → HasChoice w o xs s ⊎ HasChoice w o ys s
  cut_to [] ys s h = inr h
  cut_to (x ∷ xs) ys s (this_one a) = inl (this_one a)
  cut_to (x ∷ xs) ys s (that_one h) = elim (cut_to xs ys s h) [ inl i ↦ inl (that_one i) | inr i ↦ inr i ]

  app_left : (xs ys : List Tree) (s : Shape) → HasChoice w o xs s → HasChoice w o (xs ++ ys) s
  app_left [] ys s h = elim h [ ]
  app_left (x ∷ xs) ys s (this_one a) = this_one a
  app_left (x ∷ xs) ys s (that_one h) = that_one (app_left xs ys s h)

  app_right : (xs ys : List Tree) (s : Shape) → HasChoice w o ys s → HasChoice w o (xs ++ ys) s
  app_right [] ys s h = h
  app_right (x ∷ xs) ys s h = that_one (app_right xs ys s h)

  lone_to : (x : Tree) (s : Shape) → HasChoice w o (x ∷ []) s → HasPattern w o x s
  lone_to x s (this_one a) = a
  lone_to x s (that_one a) = elim a [ ]

  opened_to : (x : Tree) (s : Shape) → HasChoice w o (open_choice x) s → HasPattern w o x s
  opened_to (Choice xs) s h = has_choice h
  opened_to Nil s h = lone_to Nil s h
  opened_to (Event e) s h = lone_to (Event e) s h
  opened_to (Join m xs) s h = lone_to (Join m xs) s h
  opened_to (Tied x q) s h = lone_to (Tied x q) s h
  opened_to (Loop x lo hi r) s h = lone_to (Loop x lo hi r) s h
  opened_to (Walk n f t c) s h = lone_to (Walk n f t c) s h

  opened_from : (x : Tree) (s : Shape) → HasPattern w o x s → HasChoice w o (open_choice x) s
  opened_from (Choice xs) s (has_choice h) = h
  opened_from Nil s h = this_one h
  opened_from (Event e) s h = this_one h
  opened_from (Join m xs) s h = this_one h
  opened_from (Tied x q) s h = this_one h
  opened_from (Loop x lo hi r) s h = this_one h
  opened_from (Walk n f t c) s h = this_one h

  choices_to : (xs : List Tree) (s : Shape) → HasChoice w o (open_choices xs) s → HasChoice w o xs s
  choices_to [] s h = h
  choices_to (x ∷ xs) s h = elim (cut_to (open_choice x) (open_choices xs) s h) [ inl a ↦ this_one (opened_to x s a) | inr i ↦ that_one (choices_to xs s i) ]

  choices_from : (xs : List Tree) (s : Shape) → HasChoice w o xs s → HasChoice w o (open_choices xs) s
  choices_from [] s h = h
  choices_from (x ∷ xs) s (this_one a) = app_left (open_choice x) (open_choices xs) s (opened_from x s a)
  choices_from (x ∷ xs) s (that_one h) = app_right (open_choice x) (open_choices xs) s (choices_from xs s h)

  -- a choice has the patterns of its parts
  pub choice_to : (ys : List Tree) (s : Shape) → PatternsOf w o (choice_of ys) s → HasChoice w o ys s
  choice_to ys s h = choices_to ys s (distinct_to (open_choices ys) s (form_to (distinct (open_choices ys)) s h))

  pub choice_from : (ys : List Tree) (s : Shape) → HasChoice w o ys s → PatternsOf w o (choice_of ys) s
  choice_from ys s h = form_from (distinct (open_choices ys)) s (distinct_from (open_choices ys) s (choices_from ys s h))
