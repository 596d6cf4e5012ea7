-- Labels of lines, and the faults that are met.
use Rattle.std.proofs.Common.{ℕ, zero, suc, ◌+◌, ◌<◌, ◌≤◌, ◌≡◌, inl, inr, List, [], ◌∷◌, ◌++◌, length, map, take, Bool, true, false, cond, not, nat_lt, Option, Some, None, fold, refl, sym, subst, arith, ap, ap₂, ◌∙◌, filter_map, get_or, Result, Ok, Err, OnOk}
use Rattle.std.proofs.lemmas.Bool.{ltb-true, lt-ltb, le-ltb, true≢false}
use Rattle.std.proofs.lemmas.List.{take_more, append-nil, length-map}
use Rattle.std.proofs.lemmas.List.Sums.{fold_more}
use Rattle.std.proofs.lemmas.List.Elements.{filter_map-append}
use Rattle.std.specs.List.{position, list_any, prefix_len, cons_option}
use Rattle.std.specs.Option.{is_some}
use Rattle.std.specs.Str.{bytes_eq}
use Rattle.msc_base.specs.NameTables.{with_name}
use Rattle.msc_base.specs.declared.label.LabelRef.{LabelRef}
use Rattle.msc_base.specs.declared.place.Place.{Place}
use Rattle.hmsc_graph.specs.declared.shape.ShapeLine.{ShapeLine}
use Rattle.hmsc_graph.specs.declared.shape.Shape.{Shape}
use Rattle.hmsc_graph.specs.declared.labels.Labels.{Labels}
use Rattle.msc_base.specs.declared.limits.TheConstants.Limits.{NODE_LINES}
use Rattle.msc_base.specs.Lists.{IsIn}
use Rattle.hmsc_graph.specs.Nets.{IsNet}
use Rattle.msc_base.specs.Places.{earliest}
use Rattle.hmsc_graph.specs.Labels.{has_name, with_line, with_label, number_in, graph_in}

-- whether a test passes, and where it passes first
module _ {X : Type 0} (p : X → Bool) where
  first_below : (xs : List X) → list_any p xs ≡ true → prefix_len (λ x. not (p x)) xs < length xs
  first_below [] h = absurd (true≢false (sym h))
  first_below (x ∷ xs) h = choose (p x) refl (first_below xs)
    where
      choose : (b : Bool) → p x ≡ b → (list_any p xs ≡ true → prefix_len (λ y. not (p y)) xs < length xs) → cond (not b) (1 + prefix_len (λ y. not (p y)) xs) 0 < length (x ∷ xs)
      choose true e below = omega arith
      choose false e below = let there : list_any p xs ≡ true = rw e at h in omega (arith, below there)

  first_past : (xs : List X) → list_any p xs ≡ false → length xs ≤ prefix_len (λ x. not (p x)) xs
  first_past [] h = omega arith
  first_past (x ∷ xs) h = choose (p x) refl (first_past xs)
    where
      choose : (b : Bool) → p x ≡ b → (list_any p xs ≡ false → length xs ≤ prefix_len (λ y. not (p y)) xs) → length (x ∷ xs) ≤ cond (not b) (1 + prefix_len (λ y. not (p y)) xs) 0
      choose true e past = let bad : true ≡ false = rw e at h in cc
      choose false e past = let none : list_any p xs ≡ false = rw e at h in omega (arith, past none)

  pub is_some-position : (xs : List X) → is_some (position p xs) ≡ list_any p xs
  is_some-position xs = choose (list_any p xs) refl
    where
      choose : (b : Bool) → list_any p xs ≡ b → is_some (position p xs) ≡ b
      choose true e = let low : nat_lt (prefix_len (λ x. not (p x)) xs) (length xs) ≡ true = lt-ltb _ _ (first_below xs e) in rw low refl
      choose false e = let high : nat_lt (prefix_len (λ x. not (p x)) xs) (length xs) ≡ false = le-ltb _ _ (first_past xs e) in rw high refl

  pub position_below : (xs : List X) (n : ℕ) → position p xs ≡ Some n → n < length xs
  position_below xs n h = choose (nat_lt (prefix_len (λ x. not (p x)) xs) (length xs)) refl h
    where
      choose : (b : Bool) → nat_lt (prefix_len (λ x. not (p x)) xs) (length xs) ≡ b → cond b (Some (prefix_len (λ x. not (p x)) xs)) None ≡ Some n → n < length xs
      choose true e h = let is : prefix_len (λ x. not (p x)) xs ≡ n = cc in omega (arith, ltb-true _ _ e)
      choose false e h = cc

-- the labels with one more line
abbrev pub labels_of : List (List ℕ) → Option Place → Labels
labels_of table twice = record { table = table; twice = twice }

pub known_line : (labels : Labels) (line : ShapeLine) (found : Option Place) → has_name labels.table line.label ≡ true → found ≡ earliest labels.twice line.place → labels_of labels.table found ≡ with_line labels line
known_line labels line found h e = rw h (ap (λ (o : Option Place). labels_of labels.table o) e)

pub new_line : (labels : Labels) (line : ShapeLine) (table : List (List ℕ)) → has_name labels.table line.label ≡ false → table ≡ with_name labels.table line.label → labels_of table labels.twice ≡ with_line labels line
new_line labels line table h e = rw h (ap (λ (t : List (List ℕ)). labels_of t labels.twice) (e ∙ rw h refl))

pub new_line_ok : {T E : Type 0} (labels : Labels) (line : ShapeLine) (table : List (List ℕ)) (r : Result T E) → has_name labels.table line.label ≡ false → OnOk r (table ≡ with_name labels.table line.label) → OnOk r (labels_of table labels.twice ≡ with_line labels line)
new_line_ok labels line table (Ok t) h e = new_line labels line table h e
new_line_ok labels line table (Err t) h e = tt

-- a label that the names have, or lack
has_number : (names : List (List ℕ)) (label : LabelRef) → has_name names label.name ≡ is_some (number_in names label)
has_number names label = sym (is_some-position (bytes_eq label.name) names)

pub label_known : (names : List (List ℕ)) (found : Option Place) (label : LabelRef) (n : ℕ) → number_in names label ≡ Some n → with_label names found label ≡ found
label_known names found label n e = let known : has_name names label.name ≡ true = has_number names label ∙ ap is_some e in rw known refl

pub label_new : (names : List (List ℕ)) (found : Option Place) (label : LabelRef) → number_in names label ≡ None → with_label names found label ≡ earliest found label.place
label_new names found label e = let new : has_name names label.name ≡ false = has_number names label ∙ ap is_some e in rw new refl

module _ {X Y : Type 0} (f : X → Option Y) where
  number_added : (xs : List X) (x : X) (y : Y) → f x ≡ Some y → filter_map f (xs ++ x ∷ []) ≡ filter_map f xs ++ y ∷ []
  number_added xs x y e = filter_map-append f xs (x ∷ []) ∙ rw e refl

  number_left_out : (xs : List X) (x : X) → f x ≡ None → filter_map f (xs ++ x ∷ []) ≡ filter_map f xs
  number_left_out xs x e = filter_map-append f xs (x ∷ []) ∙ rw e (append-nil (filter_map f xs))

-- one more label
module _ (names : List (List ℕ)) (labels : List LabelRef) (i : ℕ) (label : LabelRef) (below : i < length labels) (is : label ≡ get_or labels i label) (start found : Option Place) (numbers : List ℕ)
    (numbers_are : numbers ≡ filter_map (number_in names) (take i labels)) (found_is : found ≡ fold (with_label names) start (take i labels)) where
  taken : take (i + 1) labels ≡ take i labels ++ label ∷ []
  taken = take_more labels i label below ∙ ap (λ (l : LabelRef). take i labels ++ l ∷ []) (sym is)

  folded : fold (with_label names) start (take (i + 1) labels) ≡ with_label names found label
  folded = fold_more (with_label names) start labels i label below ∙ ap₂ (λ (o : Option Place) (l : LabelRef). with_label names o l) (sym found_is) (sym is)

  pub known_numbers : (n : ℕ) → number_in names label ≡ Some n → numbers ++ n ∷ [] ≡ filter_map (number_in names) (take (i + 1) labels)
  known_numbers n e = ap (λ (l : List ℕ). l ++ n ∷ []) numbers_are ∙ sym (ap (filter_map (number_in names)) taken ∙ number_added (number_in names) (take i labels) label n e)

  pub known_found : (n : ℕ) → number_in names label ≡ Some n → found ≡ fold (with_label names) start (take (i + 1) labels)
  known_found n e = sym (folded ∙ label_known names found label n e)

  pub new_numbers : number_in names label ≡ None → numbers ≡ filter_map (number_in names) (take (i + 1) labels)
  new_numbers e = numbers_are ∙ sym (ap (filter_map (number_in names)) taken ∙ number_left_out (number_in names) (take i labels) label e)

  pub new_found : number_in names label ≡ None → earliest found label.place ≡ fold (with_label names) start (take (i + 1) labels)
  new_found e = sym (folded ∙ label_new names found label e)

-- the numbers are those of the names
number_below : (names : List (List ℕ)) (labels : List LabelRef) (m : ℕ) → IsIn m (filter_map (number_in names) labels) → m < length names
number_below names [] m h = absurd h
number_below names (label ∷ labels) m h = choose (number_in names label) refl (λ i. number_below names labels m i) h
  where
    choose : (o : Option ℕ) → number_in names label ≡ o → (IsIn m (filter_map (number_in names) labels) → m < length names) → IsIn m (cons_option o (filter_map (number_in names) labels)) → m < length names
    choose None e rest i = rest i
    choose (Some n) e rest (inl is) = subst (λ (k : ℕ). k < length names) (sym is) (position_below (bytes_eq label.name) names n e)
    choose (Some n) e rest (inr i) = rest i

next_number_below : (names : List (List ℕ)) (lines : List ShapeLine) (k m : ℕ) → IsIn m (get_or (map (λ line. filter_map (number_in names) line.next) lines) k []) → m < length names
next_number_below names [] k m h = absurd h
next_number_below names (line ∷ lines) zero m h = number_below names line.next m h
next_number_below names (line ∷ lines) (suc k) m h = next_number_below names lines k m h

pub graph_net : (names : List (List ℕ)) (shape : Shape) → length shape.lines ≤ NODE_LINES → length names ≤ length shape.lines → IsNet (graph_in names shape)
graph_net names shape few table = record {
  few = omega (arith, few, size);
  each = length-map shape.lines (λ line. filter_map (number_in names) line.next) ∙ sym size;
  starts_below = λ m i. omega (arith, number_below names shape.starts m i, table, size);
  next_below = λ k m i. omega (arith, next_number_below names shape.lines k m i, table, size);
}
  where
    size : length (map (λ line. line.ends) shape.lines) ≡ length shape.lines
    size = length-map shape.lines (λ line. line.ends)
