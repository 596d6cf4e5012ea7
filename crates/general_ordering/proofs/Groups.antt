-- Groups of numbers by names: what an event more does to them, and the general ordering by them.
use Rattle.std.specs.List.{position, list_any}
use Rattle.std.specs.Option.{is_some, unwrap_or}
use Rattle.std.specs.Str.{bytes_eq}
use Rattle.std.proofs.Common.{ℕ, zero, suc, ◌+◌, ◌<◌, ◌≡◌, ◌||◌, Bool, true, false, List, [], ◌∷◌, ◌++◌, map, Option, Some, None, codes, Result, Ok, Err, OnOk, length, set, get_or, drop, drop-cons, slice_get, if◌then◌else◌, refl, sym, ◌∙◌, ap, subst, arith}
use Rattle.std.proofs.lemmas.List.{append-nil}
use Rattle.std.proofs.lemmas.List.Quantifiers.{position-Some}
use Rattle.std.proofs.lemmas.Option.{slice_get-get_or}
use Rattle.std.proofs.lemmas.Slice.Eq.{bytes_eq-Decides}
use Rattle.general_ordering.proofs.NameNumbers.{numbered_new, keeps_with}
use Rattle.msc_base.proofs.NameFacts.{any_with_name, number_of_one, numbered, with_new}
use Rattle.msc_base.specs.Lists.{IsAmong}
use Rattle.msc_base.specs.NameTables.{with_name}
use Rattle.msc_meaning.specs.Bodies.{EventNode, events, item_events, items}
use Rattle.msc_meaning.specs.Views.{item_view}
use Rattle.msc_meaning.specs.declared.body.Item as code
use Rattle.msc_meaning.specs.Ties.{after_pairs, before_pairs, each_after, each_before, is_labelled, labelled, order_pairs}
use Rattle.general_ordering.specs.NamedEvents.{own_group, value_at}

assoc : {A : Type 0} (xs ys zs : List A) → xs ++ (ys ++ zs) ≡ (xs ++ ys) ++ zs
assoc [] ys zs = refl
assoc (x ∷ xs) ys zs = ap (λ l. x ∷ l) (assoc xs ys zs)

-- ---- lists of events

pub labelled_both : (ns ms : List EventNode) (name : List ℕ) → labelled (ns ++ ms) name ≡ labelled ns name ++ labelled ms name
labelled_both [] ms name = refl
labelled_both (n ∷ ns) ms name = by (is_labelled n.event.order.event_name name) (labelled_both ns ms name)
  where
    by : (b : Bool) → labelled (ns ++ ms) name ≡ labelled ns name ++ labelled ms name
        → (if b then n.number ∷ labelled (ns ++ ms) name else labelled (ns ++ ms) name) ≡ (if b then n.number ∷ labelled ns name else labelled ns name) ++ labelled ms name
    by true e = ap (λ l. n.number ∷ l) e
    by false e = e

pub order_both : (named : List ℕ → List ℕ) (ns ms : List EventNode) → order_pairs named (ns ++ ms) ≡ order_pairs named ns ++ order_pairs named ms
order_both named [] ms = refl
order_both named (n ∷ ns) ms =
    ap (λ l. before_pairs named n.number n.event.order.earlier_than ++ (after_pairs named n.number n.event.order.later_than ++ l)) (order_both named ns ms)
    ∙ ap (λ l. before_pairs named n.number n.event.order.earlier_than ++ l) (assoc (after_pairs named n.number n.event.order.later_than) (order_pairs named ns) (order_pairs named ms))
    ∙ assoc (before_pairs named n.number n.event.order.earlier_than) (after_pairs named n.number n.event.order.later_than ++ order_pairs named ns) (order_pairs named ms)

-- the item at k, and those behind it
pub behind : (xs : List code.Item) (k : ℕ) (x : code.Item) → k < length xs → x ≡ get_or xs k x → drop k xs ≡ x ∷ drop (k + 1) xs
behind xs k x low is = let n : suc k ≡ k + 1 = omega arith in drop-cons xs k x low ∙ (ap (λ y. y ∷ drop (suc k) xs) (sym is) ∙ ap (λ (m : ℕ). x ∷ drop m xs) n)

-- one item more
module _ {A : Type 0} (f : List EventNode → List A) (parts : (ns ms : List EventNode) → f (ns ++ ms) ≡ f ns ++ f ms) where
  pub walk_step : (xs : List code.Item) (k : ℕ) (x : code.Item) (held longer all : List A) → k < length xs → x ≡ get_or xs k x → longer ≡ held ++ f (item_events (item_view x))
      → held ++ f (events (items (map item_view (drop k xs)))) ≡ all → longer ++ f (events (items (map item_view (drop (k + 1) xs)))) ≡ all
  walk_step xs k x held longer all low is e h =
      ap (λ l. l ++ f (events (items (map item_view (drop (k + 1) xs))))) e
      ∙ (sym (assoc held (f (item_events (item_view x))) (f (events (items (map item_view (drop (k + 1) xs))))))
      ∙ (ap (λ l. held ++ l) (sym (parts (item_events (item_view x)) (events (items (map item_view (drop (k + 1) xs)))))
      ∙ ap (λ (l : List code.Item). f (events (items (map item_view l)))) (sym (behind xs k x low is)))
      ∙ h))

-- ---- the same groups

module _ (f g : List ℕ → List ℕ) (same : (name : List ℕ) → f name ≡ g name) where
  before_same : (x : ℕ) (names : List (List ℕ)) → before_pairs f x names ≡ before_pairs g x names
  before_same x [] = refl
  before_same x (name ∷ names) = ap (λ l. each_after x l ++ before_pairs f x names) (same name) ∙ ap (λ l. each_after x (g name) ++ l) (before_same x names)

  after_same : (x : ℕ) (names : List (List ℕ)) → after_pairs f x names ≡ after_pairs g x names
  after_same x [] = refl
  after_same x (name ∷ names) = ap (λ l. each_before x l ++ after_pairs f x names) (same name) ∙ ap (λ l. each_before x (g name) ++ l) (after_same x names)

  pub order_same : (ns : List EventNode) → order_pairs f ns ≡ order_pairs g ns
  order_same [] = refl
  order_same (n ∷ ns) =
      ap (λ l. l ++ (after_pairs f n.number n.event.order.later_than ++ order_pairs f ns)) (before_same n.number n.event.order.earlier_than)
      ∙ ap (λ l. before_pairs g n.number n.event.order.earlier_than ++ (l ++ order_pairs f ns)) (after_same n.number n.event.order.later_than)
      ∙ ap (λ l. before_pairs g n.number n.event.order.earlier_than ++ (after_pairs g n.number n.event.order.later_than ++ l)) (order_same ns)

-- ---- one number more

pub when_ok : {T E : Type 0} (r : Result T E) (P Q : Type 0) → OnOk r P → (P → Q) → OnOk r Q
when_ok (Ok x) P Q h f = f h
when_ok (Err e) P Q h f = tt

set_here : {A : Type 0} (xs : List A) (i : ℕ) (x : A) → i < length xs → slice_get (set xs i x) i ≡ Some x
set_here [] i x low = absurd (omega (arith, low))
set_here (y ∷ xs) zero x low = refl
set_here (y ∷ xs) (suc i) x low = set_here xs i x (omega (arith, low))

set_there : {A : Type 0} (xs : List A) (i j : ℕ) (x : A) → (i ≡ j → ⊥) → slice_get (set xs i x) j ≡ slice_get xs j
set_there [] i j x n = refl
set_there (y ∷ xs) zero zero x n = absurd (n refl)
set_there (y ∷ xs) zero (suc j) x n = refl
set_there (y ∷ xs) (suc i) zero x n = refl
set_there (y ∷ xs) (suc i) (suc j) x n = set_there xs i j x (λ e. n (ap suc e))

more_here : {A : Type 0} (xs : List A) (x : A) → slice_get (xs ++ x ∷ []) (length xs) ≡ Some x
more_here [] x = refl
more_here (y ∷ xs) x = more_here xs x

more_there : {A : Type 0} (xs : List A) (j : ℕ) (x : A) → j < length xs → slice_get (xs ++ x ∷ []) j ≡ slice_get xs j
more_there [] j x low = absurd (omega (arith, low))
more_there (y ∷ xs) zero x low = refl
more_there (y ∷ xs) (suc j) x low = more_there xs j x (omega (arith, low))

-- the name of a number is one
at_one : (names : List (List ℕ)) (own other : List ℕ) (i : ℕ) → position (bytes_eq own) names ≡ Some i → position (bytes_eq other) names ≡ Some i → own ≡ other
at_one names own other i e f =
    let a = position-Some (bytes_eq own) names i [] e in
    let b = position-Some (bytes_eq other) names i [] f in
    (bytes_eq-Decides own (get_or names i [])).0 a.1 ∙ sym ((bytes_eq-Decides other (get_or names i [])).0 b.1)

not_both : {A : Type 0} → false ≡ true → A
not_both c = absurd cc

-- a value more, or another value, for a name
module _ {V : Type 0} (names : List (List ℕ)) (vs : List V) (own : List ℕ) (even : length vs ≡ length names) (v : V) where
  pub below : (name : List ℕ) (i : ℕ) → position (bytes_eq name) names ≡ Some i → i < length vs
  below name i e = let p = position-Some (bytes_eq name) names i (codes "") e in omega (arith, p.0, even)

  -- the value of a name afterwards
  after : Bool → Option V → Option V
  after b o = if b then Some v else o

  apart : (name : List ℕ) → bytes_eq own name ≡ false → own ≡ name → ⊥
  apart name t same = not_both (sym t ∙ (bytes_eq-Decides own name).1 same)

  -- where the name has one
  pub value_set : (i : ℕ) → position (bytes_eq own) names ≡ Some i → (name : List ℕ)
      → value_at (position (bytes_eq name) names) (set vs i v) ≡ (if bytes_eq own name then Some v else value_at (position (bytes_eq name) names) vs)
  value_set i e name = by (bytes_eq own name) refl (position (bytes_eq name) names) refl
    where
      by : (b : Bool) → bytes_eq own name ≡ b → (o : Option ℕ) → position (bytes_eq name) names ≡ o → value_at o (set vs i v) ≡ (if b then Some v else value_at o vs)
      by true t o f =
          let same : own ≡ name = (bytes_eq-Decides own name).0 t in
          let here : o ≡ Some i = sym f ∙ subst (λ (k : List ℕ). position (bytes_eq k) names ≡ Some i) same e in
          ap (λ (p : Option ℕ). value_at p (set vs i v)) here ∙ set_here vs i v (below own i e)
      by false t None f = refl
      by false t (Some j) f = set_there vs i j v (λ k. apart name t (at_one names own name i e (f ∙ ap (λ (n : ℕ). Some n) (sym k))))

  -- where it is new
  pub value_added : position (bytes_eq own) names ≡ None → (name : List ℕ)
      → value_at (position (bytes_eq name) (with_name names own)) (vs ++ v ∷ []) ≡ (if bytes_eq own name then Some v else value_at (position (bytes_eq name) names) vs)
  value_added e name = by (bytes_eq own name) refl (position (bytes_eq name) names) refl
    where
      all : List V
      all = vs ++ v ∷ []

      by : (b : Bool) → bytes_eq own name ≡ b → (o : Option ℕ) → position (bytes_eq name) names ≡ o → value_at (position (bytes_eq name) (with_name names own)) all ≡ (if b then Some v else value_at o vs)
      by true t o f =
          let same : own ≡ name = (bytes_eq-Decides own name).0 t in
          let last : position (bytes_eq name) (with_name names own) ≡ Some (length names) = subst (λ (k : List ℕ). position (bytes_eq k) (with_name names own) ≡ Some (length names)) same (numbered_new names own e) in
          ap (λ (p : Option ℕ). value_at p all) last ∙ (ap (λ (n : ℕ). slice_get all n) (sym even) ∙ more_here vs v)
      by false t (Some j) f = ap (λ (p : Option ℕ). value_at p all) (keeps_with names own name j f) ∙ more_there vs j v (below name j f)
      by false t None f = ap (λ (p : Option ℕ). value_at p all) (absent (position (bytes_eq name) (with_name names own)) refl)
        where
          turned : bytes_eq name own ≡ false
          turned = other (bytes_eq name own) refl
            where
              other : (c : Bool) → bytes_eq name own ≡ c → c ≡ false
              other false u = refl
              other true u = absurd (apart name t (sym ((bytes_eq-Decides name own).0 u)))

          unknown : list_any (bytes_eq name) (with_name names own) ≡ false
          unknown =
              any_with_name names own name
              ∙ ap (λ (c : Bool). list_any (bytes_eq name) names || c) turned
              ∙ ap (λ (c : Bool). c || false) (sym (numbered (bytes_eq name) names) ∙ ap (λ (p : Option ℕ). is_some p) f)

          absent : (o : Option ℕ) → position (bytes_eq name) (with_name names own) ≡ o → o ≡ None
          absent None u = refl
          absent (Some k) u =
              let yes : true ≡ false = sym (ap (λ (p : Option ℕ). is_some p) u) ∙ (numbered (bytes_eq name) (with_name names own) ∙ unknown) in
              not_both (sym yes)

-- a number more in a group
module _ (own : List ℕ) (number : ℕ) where
  pub group_more : (old : List ℕ) (name : List ℕ) (before after : Option (List ℕ)) → ((bytes_eq own name ≡ true) → unwrap_or before [] ≡ old)
      → after ≡ (if bytes_eq own name then Some (old ++ number ∷ []) else before) → unwrap_or after [] ≡ unwrap_or before [] ++ own_group own number name
  group_more old name before after is made = by (bytes_eq own name) refl made
    where
      by : (b : Bool) → bytes_eq own name ≡ b → after ≡ (if b then Some (old ++ number ∷ []) else before) → unwrap_or after [] ≡ unwrap_or before [] ++ own_group own number name
      by true t e = ap (λ (o : Option (List ℕ)). unwrap_or o []) e ∙ (ap (λ l. l ++ number ∷ []) (sym (is t)) ∙ ap (λ (c : Bool). unwrap_or before [] ++ (if c then number ∷ [] else [])) (sym t))
      by false t e = ap (λ (o : Option (List ℕ)). unwrap_or o []) e ∙ (sym (append-nil (unwrap_or before [])) ∙ ap (λ (c : Bool). unwrap_or before [] ++ (if c then number ∷ [] else [])) (sym t))

module _ (names groups : List (List ℕ)) (own : List ℕ) (number : ℕ) (even : length groups ≡ length names) where
  value : List ℕ → Option (List ℕ)
  value name = value_at (position (bytes_eq name) names) groups

  pub added_old : (i : ℕ) (old new : List ℕ) → position (bytes_eq own) names ≡ Some i → old ≡ get_or groups i old → new ≡ old ++ number ∷ []
      → (name : List ℕ) → unwrap_or (value_at (position (bytes_eq name) names) (set groups i new)) [] ≡ unwrap_or (value_at (position (bytes_eq name) names) groups) [] ++ own_group own number name
  added_old i old new e is made name =
      group_more own number old name (value_at (position (bytes_eq name) names) groups) (value_at (position (bytes_eq name) names) (set groups i new)) old_is
      (subst (λ (l : List ℕ). value_at (position (bytes_eq name) names) (set groups i new) ≡ (if bytes_eq own name then Some l else value_at (position (bytes_eq name) names) groups)) made (value_set names groups own even new i e name))
    where
      old_is : bytes_eq own name ≡ true → unwrap_or (value_at (position (bytes_eq name) names) groups) [] ≡ old
      old_is t =
          let same : own ≡ name = (bytes_eq-Decides own name).0 t in
          let here : position (bytes_eq name) names ≡ Some i = subst (λ (k : List ℕ). position (bytes_eq k) names ≡ Some i) same e in
          ap (λ (p : Option ℕ). unwrap_or (value_at p groups) []) here
          ∙ (ap (λ (o : Option (List ℕ)). unwrap_or o []) (slice_get-get_or groups i old (below names groups own even old own i e)) ∙ sym is)

  pub added_new : position (bytes_eq own) names ≡ None
      → (name : List ℕ) → unwrap_or (value_at (position (bytes_eq name) (with_name names own)) (groups ++ (number ∷ []) ∷ [])) [] ≡ unwrap_or (value_at (position (bytes_eq name) names) groups) [] ++ own_group own number name
  added_new e name =
      group_more own number [] name (value_at (position (bytes_eq name) names) groups) (value_at (position (bytes_eq name) (with_name names own)) (groups ++ (number ∷ []) ∷ [])) none
      (value_added names groups own even (number ∷ []) e name)
    where
      none : bytes_eq own name ≡ true → unwrap_or (value_at (position (bytes_eq name) names) groups) [] ≡ []
      none t =
          let same : own ≡ name = (bytes_eq-Decides own name).0 t in
          let here : position (bytes_eq name) names ≡ None = subst (λ (k : List ℕ). position (bytes_eq k) names ≡ None) same e in
          ap (λ (p : Option ℕ). unwrap_or (value_at p groups) []) here

pub even_new : {V : Type 0} (names : List (List ℕ)) (groups : List V) (own : List ℕ) → length groups ≡ length names → position (bytes_eq own) names ≡ None → (value : V) (more : List V) (longer : List (List ℕ))
    → more ≡ groups ++ value ∷ [] → longer ≡ with_name names own → length more ≡ length longer
even_new names groups own even none value more longer made is =
    ap length made ∙ (long groups value ∙ (ap suc even ∙ (sym (long names own) ∙ sym (ap length (is ∙ with_new names own absent)))))
  where
    long : {A : Type 0} (xs : List A) (x : A) → length (xs ++ x ∷ []) ≡ suc (length xs)
    long [] x = refl
    long (y ∷ xs) x = ap suc (long xs x)

    absent : IsAmong names own → ⊥
    absent h = clash (sym (number_of_one names own h) ∙ ap (λ (p : Option ℕ). is_some p) none)
      where
        clash : true ≡ false → ⊥
        clash c = absurd cc
