-- The numbers of items whose parts may stand in several columns.
use Rattle.std.proofs.Common.{◌≡◌, inl, inr, ℕ, ◌<◌, ◌≤◌, ◌+◌, zero, suc, Bool, true, false, cond, List, [], ◌∷◌, ◌++◌, Option, Some, None, length, map, nat_eq, nat_lt, slice_get, slice_set, refl, sym, subst, ap, ap₂, ◌∙◌, arith, Result, Ok, Err, IfOk, OnOk, get_or}
use Rattle.std.specs.List.{position, position_or_len}
use Rattle.std.specs.Option.{is_some}
use Rattle.std.specs.Str.{bytes_eq}
use Rattle.std.proofs.lemmas.Bool.{cases_order, lt-ltb, ltb-true, ne_eqb, eq-eqb, true≢false}
use Rattle.std.proofs.lemmas.List.{length-map}
use Rattle.std.proofs.lemmas.List.Folds.{position_or_len_push}
use Rattle.std.proofs.lemmas.Option.{cond_some}
use Rattle.msc_base.specs.NameTables.{with_name}
use Rattle.msc_base.proofs.NameFacts.{number_of_one, with_new}
use Rattle.list_facts.proofs.Reading.{get_behind}
use Rattle.msc_meaning.specs.LevelItems.{is_joined, is_part_of, name_of, number_in, with_piece}
use Rattle.msc_meaning.specs.Pieces.{Piece}
use Rattle.level_pieces.specs.ItemNumbers.{IsKnown, IsNumbering, begins_named, is_named, joint_name, joint_of, named_in, with_part}
use Rattle.level_pieces.specs.PieceViews.{parts_view}
use Rattle.level_pieces.specs.declared.numbering.Numbering.{Numbering}
use Rattle.level_pieces.specs.declared.pieces.LevelItem as code_item
use Rattle.level_pieces.proofs.ItemLaws.{length_snoc}
use Rattle.level_pieces.proofs.Positions.{first_low}

-- ---- where a name stands in a table with one more

module _ {X : Type 0} (p : X → Bool) (xs : List X) (y : X) where
  at_end : position p xs ≡ None → position_or_len p xs ≡ length xs
  at_end h = by (nat_lt (position_or_len p xs) (length xs)) refl h
    where
      by : (b : Bool) → nat_lt (position_or_len p xs) (length xs) ≡ b → cond b (Some (position_or_len p xs)) None ≡ None → position_or_len p xs ≡ length xs
      by true is g = cc
      by false is g = omega (arith, first_low p xs, not_below is)
        where
          not_below : nat_lt (position_or_len p xs) (length xs) ≡ false → length xs ≤ position_or_len p xs
          not_below e = elim (cases_order (position_or_len p xs) (length xs)) [
            | inl same ↦ omega (arith, same)
            | inr order ↦ elim order [ inl below ↦ absurd (true≢false (sym (lt-ltb (position_or_len p xs) (length xs) below) ∙ e)) | inr above ↦ omega (arith, above) ]
          ]

  found_too : (i : ℕ) → position p xs ≡ Some i → position p (xs ++ y ∷ []) ≡ Some i
  found_too i h =
      let parts = cond_some (nat_lt (position_or_len p xs) (length xs)) (position_or_len p xs) i h in
      let low : position_or_len p xs < length xs = ltb-true (position_or_len p xs) (length xs) parts.0 in
      let ne : nat_eq (position_or_len p xs) (length xs) ≡ false = ne_eqb (position_or_len p xs) (length xs) (λ e. omega (arith, e, low)) in
      let same : position_or_len p (xs ++ y ∷ []) ≡ position_or_len p xs = position_or_len_push p xs y ∙ ap (λ (b : Bool). cond b (length xs + cond (p y) 0 1) (position_or_len p xs)) ne in
      ap₂ (λ (n m : ℕ). cond (nat_lt n m) (Some n) None) same (length_snoc xs y)
      ∙ ap (λ (b : Bool). cond b (Some (position_or_len p xs)) None) (lt-ltb (position_or_len p xs) (suc (length xs)) (omega (arith, low))) ∙ ap (λ (n : ℕ). Some n) parts.1

  behind_all : position p xs ≡ None → position_or_len p (xs ++ y ∷ []) ≡ length xs + cond (p y) 0 1
  behind_all h =
      position_or_len_push p xs y ∙ ap (λ (b : Bool). cond b (length xs + cond (p y) 0 1) (position_or_len p xs)) (eq-eqb (position_or_len p xs) (length xs) (at_end h))

  found_last : position p xs ≡ None → p y ≡ true → position p (xs ++ y ∷ []) ≡ Some (length xs)
  found_last h is =
      let here : position_or_len p (xs ++ y ∷ []) ≡ length xs = behind_all h ∙ ap (λ (b : Bool). length xs + cond b 0 1) is ∙ omega arith in
      ap₂ (λ (n m : ℕ). cond (nat_lt n m) (Some n) None) here (length_snoc xs y)
      ∙ ap (λ (b : Bool). cond b (Some (length xs)) None) (lt-ltb (length xs) (suc (length xs)) (omega arith))

  found_nowhere : position p xs ≡ None → p y ≡ false → position p (xs ++ y ∷ []) ≡ None
  found_nowhere h is =
      let here : position_or_len p (xs ++ y ∷ []) ≡ suc (length xs) = behind_all h ∙ ap (λ (b : Bool). length xs + cond b 0 1) is ∙ omega arith in
      ap₂ (λ (n m : ℕ). cond (nat_lt n m) (Some n) None) here (length_snoc xs y) ∙ none (nat_lt (suc (length xs)) (suc (length xs))) refl
    where
      none : (b : Bool) → nat_lt (suc (length xs)) (suc (length xs)) ≡ b → cond b (Some (suc (length xs))) None ≡ None
      none true is = absurd (omega (arith, ltb-true (suc (length xs)) (suc (length xs)) is))
      none false is = refl

-- ---- which item a piece is a part of

joined_named : (c d e f : Option (List ℕ)) (a : List ℕ) → joint_of c d ≡ Some a → is_joined c d e f ≡ is_named (joint_of e f) a
joined_named None d e f a h = cc
joined_named (Some i) None e f a h = cc
joined_named (Some i) (Some n) None f a h = refl
joined_named (Some i) (Some n) (Some j) None a h = refl
joined_named (Some i) (Some n) (Some j) (Some b) a h = let same : n ≡ a = cc in ap (λ (x : List ℕ). bytes_eq x b) same

joined_none : (c d e f : Option (List ℕ)) → joint_of c d ≡ None → is_joined c d e f ≡ false
joined_none None d e f h = refl
joined_none (Some i) None e f h = refl
joined_none (Some i) (Some n) e f h = cc

part_named : (p : Piece) (x : List Piece) (a : List ℕ) → joint_name p ≡ Some a → is_part_of p x ≡ begins_named x a
part_named p [] a h = refl
part_named p (q ∷ qs) a h = joined_named p.column (name_of p.form) q.column (name_of q.form) a h

part_none : (p : Piece) (x : List Piece) → joint_name p ≡ None → is_part_of p x ≡ false
part_none p [] h = refl
part_none p (q ∷ qs) h = joined_none p.column (name_of p.form) q.column (name_of q.form) h

pub number_named : (xs : List (List Piece)) (p : Piece) (a : List ℕ) → joint_name p ≡ Some a → number_in xs p ≡ named_in xs a
number_named [] p a h = refl
number_named (x ∷ xs) p a h = ap₂ (λ (b : Bool) (n : ℕ). cond b zero (suc n)) (part_named p x a h) (number_named xs p a h)

pub number_none : (xs : List (List Piece)) (p : Piece) → joint_name p ≡ None → number_in xs p ≡ length xs
number_none [] p h = refl
number_none (x ∷ xs) p h = ap (λ (b : Bool). cond b zero (suc (number_in xs p))) (part_none p x h) ∙ ap suc (number_none xs p h)

pub with_none : (xs : List (List Piece)) (p : Piece) → joint_name p ≡ None → with_piece xs p ≡ xs ++ (p ∷ []) ∷ []
with_none [] p h = refl
with_none (x ∷ xs) p h = ap (λ (b : Bool). cond b ((x ++ p ∷ []) ∷ xs) (x ∷ with_piece xs p)) (part_none p x h) ∙ ap (λ (l : List (List Piece)). x ∷ l) (with_none xs p h)

with_new_name : (xs : List (List Piece)) (p : Piece) (a : List ℕ) → joint_name p ≡ Some a → named_in xs a ≡ length xs → with_piece xs p ≡ xs ++ (p ∷ []) ∷ []
with_new_name [] p a h lacks = refl
with_new_name (x ∷ xs) p a h lacks = by (begins_named x a) (part_named p x a h) lacks (λ l. with_new_name xs p a h l)
  where
    by : (b : Bool) → is_part_of p x ≡ b → cond b zero (suc (named_in xs a)) ≡ suc (length xs) → (named_in xs a ≡ length xs → with_piece xs p ≡ xs ++ (p ∷ []) ∷ []) → with_piece (x ∷ xs) p ≡ x ∷ (xs ++ (p ∷ []) ∷ [])
    by true is l rest = absurd (omega (arith, l))
    by false is l rest = ap (λ (c : Bool). cond c ((x ++ p ∷ []) ∷ xs) (x ∷ with_piece xs p)) is ∙ ap (λ (m : List (List Piece)). x ∷ m) (rest (omega (arith, l)))

-- a part more of an item leaves the items as they begin
record IsSameStart (xs ys : List (List Piece)) : Type 0 where
  pub count : length ys ≡ length xs
  pub named : (n : List ℕ) → named_in ys n ≡ named_in xs n

same_more : (x : List Piece) (xs ys : List (List Piece)) → IsSameStart xs ys → IsSameStart (x ∷ xs) (x ∷ ys)
same_more [] xs ys s = record { count = omega (arith, s.count); named = λ n. ap suc (s.named n) }
same_more (q ∷ qs) xs ys s = record { count = omega (arith, s.count); named = λ n. ap (λ (k : ℕ). cond (is_named (joint_name q) n) zero (suc k)) (s.named n) }

same_part : (x : List Piece) (xs : List (List Piece)) (p : Piece) → is_part_of p x ≡ true → IsSameStart (x ∷ xs) ((x ++ p ∷ []) ∷ xs)
same_part [] xs p h = absurd (true≢false (sym h))
same_part (q ∷ qs) xs p h = record { count = refl; named = λ n. refl }

same_start : (xs : List (List Piece)) (p : Piece) (a : List ℕ) → joint_name p ≡ Some a → named_in xs a < length xs → IsSameStart xs (with_piece xs p)
same_start [] p a h lt = absurd (omega arith)
same_start (x ∷ xs) p a h lt = by (is_part_of p x) refl (λ l. same_start xs p a h l)
  where
    by : (b : Bool) → is_part_of p x ≡ b → (named_in xs a < length xs → IsSameStart xs (with_piece xs p)) → IsSameStart (x ∷ xs) (cond b ((x ++ p ∷ []) ∷ xs) (x ∷ with_piece xs p))
    by true is rest = same_part x xs p is
    by false is rest =
        let none : begins_named x a ≡ false = sym (part_named p x a h) ∙ is in
        let number : cond (begins_named x a) zero (suc (named_in xs a)) ≡ suc (named_in xs a) = ap (λ (c : Bool). cond c zero (suc (named_in xs a))) none in
        same_more x xs (with_piece xs p) (rest (omega (arith, lt, number)))

-- ---- one item more

named_kept : (xs : List (List Piece)) (y : List Piece) (n : List ℕ) → named_in xs n < length xs → named_in (xs ++ y ∷ []) n ≡ named_in xs n
named_kept [] y n lt = absurd (omega arith)
named_kept (x ∷ xs) y n lt = by (begins_named x n) lt (λ l. named_kept xs y n l)
  where
    by : (b : Bool) → cond b zero (suc (named_in xs n)) < suc (length xs) → (named_in xs n < length xs → named_in (xs ++ y ∷ []) n ≡ named_in xs n) → cond b zero (suc (named_in (xs ++ y ∷ []) n)) ≡ cond b zero (suc (named_in xs n))
    by true l rest = refl
    by false l rest = ap suc (rest (omega (arith, l)))

named_behind : (xs : List (List Piece)) (y : List Piece) (n : List ℕ) → named_in xs n ≡ length xs → named_in (xs ++ y ∷ []) n ≡ length xs + cond (begins_named y n) zero 1
named_behind [] y n h = by (begins_named y n)
  where
    by : (b : Bool) → cond b zero (suc zero) ≡ zero + cond b zero 1
    by true = refl
    by false = refl
named_behind (x ∷ xs) y n h = by (begins_named x n) h (λ l. named_behind xs y n l)
  where
    by : (b : Bool) → cond b zero (suc (named_in xs n)) ≡ suc (length xs) → (named_in xs n ≡ length xs → named_in (xs ++ y ∷ []) n ≡ length xs + cond (begins_named y n) zero 1)
        → cond b zero (suc (named_in (xs ++ y ∷ []) n)) ≡ suc (length xs) + cond (begins_named y n) zero 1
    by true l rest = absurd (omega (arith, l))
    by false l rest = omega (arith, rest (omega (arith, l)))

at_kept : (numbers : List ℕ) (k i j : ℕ) → slice_get numbers i ≡ Some j → slice_get (numbers ++ k ∷ []) i ≡ Some j
at_kept [] k i j h = cc
at_kept (n ∷ numbers) k zero j h = h
at_kept (n ∷ numbers) k (suc i) j h = at_kept numbers k i j h

abbrev Knows : List (List Piece) → List (List ℕ) → List ℕ → Type 0
Knows xs names numbers = (n : List ℕ) → IsKnown xs numbers (position (bytes_eq n) names) n

known_none : (xs : List (List Piece)) (p : Piece) (numbers : List ℕ) (n : List ℕ) (o : Option ℕ) → joint_name p ≡ None → IsKnown xs numbers o n → IsKnown (xs ++ (p ∷ []) ∷ []) numbers o n
known_none xs p numbers n None none h =
    let unnamed : begins_named (p ∷ []) n ≡ false = ap (λ (o : Option (List ℕ)). is_named o n) none in
    named_behind xs (p ∷ []) n h ∙ ap (λ (b : Bool). length xs + cond b zero 1) unnamed ∙ omega (arith, length_snoc xs (p ∷ []))
known_none xs p numbers n (Some i) none h =
    let kept : named_in (xs ++ (p ∷ []) ∷ []) n ≡ named_in xs n = named_kept xs (p ∷ []) n h.1 in
    (h.0 ∙ ap (λ (k : ℕ). Some k) (sym kept), omega (arith, kept, h.1, length_snoc xs (p ∷ [])))

known_same : (xs ys : List (List Piece)) (numbers : List ℕ) (n : List ℕ) (o : Option ℕ) → IsSameStart xs ys → IsKnown xs numbers o n → IsKnown ys numbers o n
known_same xs ys numbers n None s h = s.named n ∙ h ∙ sym s.count
known_same xs ys numbers n (Some i) s h = (h.0 ∙ ap (λ (k : ℕ). Some k) (sym (s.named n)), omega (arith, s.named n, s.count, h.1))

module _ (xs : List (List Piece)) (p : Piece) (a : List ℕ) (names : List (List ℕ)) (numbers : List ℕ) (joint : joint_name p ≡ Some a) (long : length numbers ≡ length names)
    (lacks : position (bytes_eq a) names ≡ None) (knows : Knows xs names numbers) where
  ys : List (List Piece)
  ys = xs ++ (p ∷ []) ∷ []

  begins : (n : List ℕ) → begins_named (p ∷ []) n ≡ bytes_eq n a
  begins n = ap (λ (o : Option (List ℕ)). is_named o n) joint

  known_new : (n : List ℕ) → IsKnown (xs ++ (p ∷ []) ∷ []) (numbers ++ length xs ∷ []) (position (bytes_eq n) (names ++ a ∷ [])) n
  known_new n = by (position (bytes_eq n) names) refl (knows n)
    where
      by : (o : Option ℕ) → position (bytes_eq n) names ≡ o → IsKnown xs numbers o n → IsKnown (xs ++ (p ∷ []) ∷ []) (numbers ++ length xs ∷ []) (position (bytes_eq n) (names ++ a ∷ [])) n
      by (Some i) is h =
          let kept : named_in (xs ++ (p ∷ []) ∷ []) n ≡ named_in xs n = named_kept xs (p ∷ []) n h.1 in
          subst (λ (o : Option ℕ). IsKnown (xs ++ (p ∷ []) ∷ []) (numbers ++ length xs ∷ []) o n) (sym (found_too (bytes_eq n) names a i is))
          (at_kept numbers (length xs) i (named_in (xs ++ (p ∷ []) ∷ []) n) (h.0 ∙ ap (λ (k : ℕ). Some k) (sym kept)), omega (arith, kept, h.1, length_snoc xs (p ∷ [])))
      by None is h = last (bytes_eq n a) refl
        where
          last : (b : Bool) → bytes_eq n a ≡ b → IsKnown (xs ++ (p ∷ []) ∷ []) (numbers ++ length xs ∷ []) (position (bytes_eq n) (names ++ a ∷ [])) n
          last true e =
              let here : named_in (xs ++ (p ∷ []) ∷ []) n ≡ length xs = named_behind xs (p ∷ []) n h ∙ ap (λ (b : Bool). length xs + cond b zero 1) (begins n ∙ e) ∙ omega arith in
              subst (λ (o : Option ℕ). IsKnown (xs ++ (p ∷ []) ∷ []) (numbers ++ length xs ∷ []) o n) (sym (found_last (bytes_eq n) names a is e))
              (subst (λ (k : ℕ). slice_get (numbers ++ length xs ∷ []) k ≡ Some (named_in (xs ++ (p ∷ []) ∷ []) n)) long (get_behind numbers (length xs) [] ∙ ap (λ (k : ℕ). Some k) (sym here)), omega (arith, here, length_snoc xs (p ∷ [])))
          last false e =
              subst (λ (o : Option ℕ). IsKnown (xs ++ (p ∷ []) ∷ []) (numbers ++ length xs ∷ []) o n) (sym (found_nowhere (bytes_eq n) names a is e))
              (named_behind xs (p ∷ []) n h ∙ ap (λ (b : Bool). length xs + cond b zero 1) (begins n ∙ e) ∙ omega (arith, length_snoc xs (p ∷ [])))

-- ---- the code's numbering

pub count_of : (xs : List (List Piece)) (numbering : Numbering) → IsNumbering xs numbering → length numbering.items.items ≡ length xs
count_of xs numbering h = sym (length-map numbering.items.items parts_view) ∙ ap length h.items

pub next_none : (xs : List (List Piece)) (p : Piece) (old new : Numbering) → IsNumbering xs old → joint_name p ≡ None
    → map parts_view new.items.items ≡ map parts_view old.items.items ++ (p ∷ []) ∷ [] → new.names ≡ old.names → new.numbers ≡ old.numbers → IsNumbering (with_piece xs p) new
next_none xs p old new h none items names numbers =
    let numbers_are : new.numbers.items ≡ old.numbers.items = ap (λ v. v.items) numbers in
    subst (λ (ys : List (List Piece)). IsNumbering ys new) (sym (with_none xs p none)) (record {
      items = items ∙ ap (λ (l : List (List Piece)). l ++ (p ∷ []) ∷ []) h.items;
      long = ap length numbers_are ∙ h.long ∙ ap length (sym names);
      known = λ n. subst (λ (t : List (List ℕ)). IsKnown (xs ++ (p ∷ []) ∷ []) new.numbers.items (position (bytes_eq n) t) n) (sym names)
          (subst (λ (ks : List ℕ). IsKnown (xs ++ (p ∷ []) ∷ []) ks (position (bytes_eq n) old.names) n) (sym numbers_are) (known_none xs p old.numbers.items n (position (bytes_eq n) old.names) none (h.known n)));
    })

-- a part more stands with the item of its number
pub with_number : (xs : List (List Piece)) (p : Piece) → number_in xs p < length xs → with_piece xs p ≡ with_part xs (number_in xs p) p
with_number [] p lt = absurd (omega arith)
with_number (x ∷ xs) p lt = by (is_part_of p x) lt (λ l. with_number xs p l)
  where
    by : (b : Bool) → cond b zero (suc (number_in xs p)) < suc (length xs) → (number_in xs p < length xs → with_piece xs p ≡ with_part xs (number_in xs p) p)
        → cond b ((x ++ p ∷ []) ∷ xs) (x ∷ with_piece xs p) ≡ with_part (x ∷ xs) (cond b zero (suc (number_in xs p))) p
    by true l rest = refl
    by false l rest = ap (λ (ys : List (List Piece)). x ∷ ys) (rest (omega (arith, l)))

pub next_old : (xs : List (List Piece)) (p : Piece) (old new : Numbering) (a : List ℕ) (number : ℕ) → IsNumbering xs old → joint_name p ≡ Some a → named_in xs a < length xs → number ≡ named_in xs a
    → map parts_view new.items.items ≡ with_part (map parts_view old.items.items) number p → new.names ≡ old.names → new.numbers ≡ old.numbers → IsNumbering (with_piece xs p) new
next_old xs p old new a number h joint lt is items names numbers =
    let s = same_start xs p a joint lt in
    let own : number_in xs p ≡ named_in xs a = number_named xs p a joint in
    let numbers_are : new.numbers.items ≡ old.numbers.items = ap (λ v. v.items) numbers in
    record {
      items = items ∙ ap₂ (λ (ys : List (List Piece)) (k : ℕ). with_part ys k p) h.items (is ∙ sym own) ∙ sym (with_number xs p (omega (arith, own, lt)));
      long = ap length numbers_are ∙ h.long ∙ ap length (sym names);
      known = λ n. subst (λ (t : List (List ℕ)). IsKnown (with_piece xs p) new.numbers.items (position (bytes_eq n) t) n) (sym names)
          (subst (λ (ks : List ℕ). IsKnown (with_piece xs p) ks (position (bytes_eq n) old.names) n) (sym numbers_are) (known_same xs (with_piece xs p) old.numbers.items n (position (bytes_eq n) old.names) s (h.known n)));
    }

lacking : (names : List (List ℕ)) (a : List ℕ) → position (bytes_eq a) names ≡ None → with_name names a ≡ names ++ a ∷ []
lacking names a h = with_new names a (λ k. true≢false (sym (number_of_one names a k) ∙ ap is_some h))

pub next_new : (xs : List (List Piece)) (p : Piece) (old new : Numbering) (a : List ℕ) → IsNumbering xs old → joint_name p ≡ Some a → position (bytes_eq a) old.names ≡ None
    → map parts_view new.items.items ≡ map parts_view old.items.items ++ (p ∷ []) ∷ [] → new.names ≡ with_name old.names a → new.numbers.items ≡ old.numbers.items ++ length old.items.items ∷ [] → IsNumbering (with_piece xs p) new
next_new xs p old new a h joint lacks items names numbers =
    let none : named_in xs a ≡ length xs = subst (λ (o : Option ℕ). IsKnown xs old.numbers.items o a) lacks (h.known a) in
    let names_are : new.names ≡ old.names ++ a ∷ [] = names ∙ lacking old.names a lacks in
    let numbers_are : new.numbers.items ≡ old.numbers.items ++ length xs ∷ [] = numbers ∙ ap (λ (k : ℕ). old.numbers.items ++ k ∷ []) (count_of xs old h) in
    subst (λ (ys : List (List Piece)). IsNumbering ys new) (sym (with_new_name xs p a joint none)) (record {
      items = items ∙ ap (λ (l : List (List Piece)). l ++ (p ∷ []) ∷ []) h.items;
      long = ap length numbers_are ∙ length_snoc old.numbers.items (length xs) ∙ ap suc h.long ∙ sym (length_snoc old.names a) ∙ ap length (sym names_are);
      known = λ n. subst (λ (t : List (List ℕ)). IsKnown (xs ++ (p ∷ []) ∷ []) new.numbers.items (position (bytes_eq n) t) n) (sym names_are)
          (subst (λ (ks : List ℕ). IsKnown (xs ++ (p ∷ []) ∷ []) ks (position (bytes_eq n) (old.names ++ a ∷ [])) n) (sym numbers_are) (known_new xs p a old.names old.numbers.items joint h.long lacks h.known n));
    })

-- a part more of the item at a place
pub part_set : (items : List code_item.LevelItem) (n : ℕ) (old new : code_item.LevelItem) (p : Piece) → slice_get items n ≡ Some old → parts_view new ≡ parts_view old ++ p ∷ []
    → map parts_view (slice_set items n new) ≡ with_part (map parts_view items) n p
part_set [] n old new p at is = cc
part_set (i ∷ items) zero old new p at is = let same : i ≡ old = cc in ap (λ (x : List Piece). x ∷ map parts_view items) (is ∙ ap (λ (j : code_item.LevelItem). parts_view j ++ p ∷ []) (sym same))
part_set (i ∷ items) (suc n) old new p at is = ap (λ (l : List (List Piece)). parts_view i ∷ l) (part_set items n old new p at is)

pub number_answer : {E : Type 0} (result : Result ℕ E) (k m : ℕ) → IfOk result (λ n. n ≡ k) → k ≡ m → IfOk result (λ n. n ≡ m)
number_answer (Ok n) k m h e = h ∙ e
number_answer (Err x) k m h e = h

pub on_ok : {A E P Q R S : Type 0} (result : Result A E) → OnOk result P → OnOk result Q → OnOk result R → (P → Q → R → S) → OnOk result S
on_ok (Ok x) p q r f = f p q r
on_ok (Err e) p q r f = p

pub read_number : (numbers : List ℕ) (i x k : ℕ) → x ≡ get_or numbers i x → slice_get numbers i ≡ Some k → x ≡ k
read_number [] i x k is at = cc
read_number (n ∷ numbers) zero x k is at = let same : n ≡ k = cc in is ∙ same
read_number (n ∷ numbers) (suc i) x k is at = read_number numbers i x k is at
