-- Which parts of an item aren't shared, by what the parts have in common.
use Rattle.std.proofs.Common.{◌≡◌, ◌↔◌, ◌⊎◌, inl, inr, ◌&&◌, ◌||◌, ℕ, Bool, IsTrue, true, false, not, Option, None, Some, List, [], ◌∷◌, refl, sym, ap, subst, ◌∙◌}
use Rattle.std.proofs.lemmas.Bool.{or_cases, or_left, or_right, and_parts, true≢false, not-true, not_from_false, false_from_ne_true, and_from}
use Rattle.std.proofs.lemmas.Slice.Eq.{bytes_eq-Decides}
use Rattle.std.specs.List.{list_any}
use Rattle.std.specs.Str.{bytes_eq}
use Rattle.msc_base.specs.Lists.{IsAmong}
use Rattle.msc_base.proofs.NameFacts.{any_from_one, one_from_any}
use Rattle.msc_meaning.specs.LevelItems.{cover_of, name_of}
use Rattle.msc_meaning.specs.Pieces.{Piece}
use Rattle.shared_parts.specs.PartRules.{HasPart, stands_first, stands_later, IsUnshared, lacks_own, lacks_part, differs, unnamed}
use Rattle.shared_parts.specs.Sharing.{AllAmong, AllCover, AllHaveParts, IsSharing, OneIsMissing, OneCoversOthers, OneHasNoPart, StandsOne, Tells, has_several, is_unshared_in, lacks_name}
use Rattle.shared_parts.proofs.ColumnLaws.{among_of, missing_of}
use Rattle.shared_parts.specs.declared.sharing.Sharing.{Sharing}

-- ---- lists of names are the same or not

name_decided : (x y : List ℕ) → (x ≡ y) ⊎ (x ≡ y → ⊥)
name_decided x y = by (bytes_eq x y) refl
  where
    by : (b : Bool) → bytes_eq x y ≡ b → (x ≡ y) ⊎ (x ≡ y → ⊥)
    by true e = inl ((bytes_eq-Decides x y).0 e)
    by false e = inr (λ same. true≢false (sym ((bytes_eq-Decides x y).1 same) ∙ e))

names_decided : (xs ys : List (List ℕ)) → (xs ≡ ys) ⊎ (xs ≡ ys → ⊥)
names_decided [] [] = inl refl
names_decided [] (y ∷ ys) = inr (λ e. cc)
names_decided (x ∷ xs) [] = inr (λ e. cc)
names_decided (x ∷ xs) (y ∷ ys) = elim (name_decided x y) [
  | inl e ↦ elim (names_decided xs ys) [ inl t ↦ inl (cc) | inr n ↦ inr (λ h. n (cc)) ]
  | inr n ↦ inr (λ h. n (cc))
]

-- ---- what the tests tell of single parts

other_among : (level names : List (List ℕ)) (ps : List Piece) → OneCoversOthers level names ps → (q : Piece) × IsAmong ps q × (cover_of level q ≡ names → ⊥)
other_among level names [] h = absurd h
other_among level names (p ∷ ps) (inl n) = (p, inl refl, n)
other_among level names (p ∷ ps) (inr h) = let r = other_among level names ps h in (r.0, inr r.1, r.2)

cover_at : (level names : List (List ℕ)) (ps : List Piece) (p : Piece) → AllCover level names ps → IsAmong ps p → cover_of level p ≡ names
cover_at level names [] p h at = absurd at
cover_at level names (q ∷ ps) p h (inl e) = ap (cover_of level) e ∙ h.0
cover_at level names (q ∷ ps) p h (inr at) = cover_at level names ps p h.1 at

has_stands : (level names : List (List ℕ)) (i : List ℕ) (ps : List Piece) → HasPart level i names ps → StandsOne ps i
has_stands level names i [] h = elim h [ ]
has_stands level names i (p ∷ ps) (stands_first is same) = inl is
has_stands level names i (p ∷ ps) (stands_later h) = inr (has_stands level names i ps h)

stands_has : (level names : List (List ℕ)) (i : List ℕ) (ps : List Piece) → AllCover level names ps → StandsOne ps i → HasPart level i names ps
stands_has level names i [] h at = absurd at
stands_has level names i (p ∷ ps) h (inl is) = stands_first is h.0
stands_has level names i (p ∷ ps) h (inr at) = stands_later (stands_has level names i ps h.1 at)

several_are : (names : List (List ℕ)) → has_several names ≡ true → (one : List ℕ) × (other : List ℕ) × (rest : List (List ℕ)) × (names ≡ one ∷ other ∷ rest)
several_are [] h = absurd (true≢false (sym h))
several_are (i ∷ []) h = absurd (true≢false (sym h))
several_are (i ∷ j ∷ names) h = (i, j, names, refl)

nameless : (name : Option (List ℕ)) → lacks_name name ≡ true → name ≡ None
nameless None h = refl
nameless (Some n) h = absurd (true≢false (sym h))

-- ---- a part

module _ (level names : List (List ℕ)) (start : Piece) (others : List Piece) (s : Sharing) (covers : names ≡ cover_of level start) (is : IsSharing level names (start ∷ others) s) (p : Piece) (at : IsAmong (start ∷ others) p) where
  -- where lists differ, that of each part differs from some other
  differs_from : (column : List ℕ) → p.column ≡ Some column → (q : Piece) → IsAmong (start ∷ others) q → (cover_of level q ≡ names → ⊥) → IsUnshared level (start ∷ others) p
  differs_from column stands q there other = elim (names_decided (cover_of level p) names) [
    | inl e ↦ differs column q stands there (λ h. other (h ∙ e))
    | inr n ↦ differs column start stands (inl refl) (λ h. n (sym h ∙ sym covers))
  ]

  all_unshared : (column : List ℕ) → p.column ≡ Some column → OneCoversOthers level names (start ∷ others) ⊎ OneHasNoPart names (start ∷ others) → IsUnshared level (start ∷ others) p
  all_unshared column stands (inl h) = let r = other_among level names (start ∷ others) h in differs_from column stands r.0 r.1 r.2
  all_unshared column stands (inr h) = elim (names_decided (cover_of level p) names) [
    | inl e ↦ lacks_part column h.0 stands (subst (λ (l : List (List ℕ)). IsAmong l h.0) (sym e) h.1) (λ has. h.2 (has_stands level (cover_of level p) h.0 (start ∷ others) has))
    | inr n ↦ differs column start stands (inl refl) (λ same. n (sym same ∙ sym covers))
  ]

  own_unshared : (column : List ℕ) → p.column ≡ Some column → AllCover level names (start ∷ others) → not (list_any (bytes_eq column) s.names) ≡ true → IsUnshared level (start ∷ others) p
  own_unshared column stands all h =
      lacks_own column stands (λ own. true≢false (
      sym (is.names_are column ∙ any_from_one names column (subst (λ (l : List (List ℕ)). IsAmong l column) (cover_at level names (start ∷ others) p all at) own)) ∙ not-true (list_any (bytes_eq column) s.names) h))

  unnamed_unshared : (column : List ℕ) → p.column ≡ Some column → AllCover level names (start ∷ others) → (s.several && lacks_name (name_of p.form)) ≡ true → IsUnshared level (start ∷ others) p
  unnamed_unshared column stands all h =
      let both = and_parts s.several (lacks_name (name_of p.form)) h in
      let r = several_are names (sym is.several ∙ both.0) in
      unnamed column r.0 r.1 r.2 stands (nameless (name_of p.form) both.1) (cover_at level names (start ∷ others) p all at ∙ r.3)

  tells_unshared : (column : List ℕ) → p.column ≡ Some column → (b : Bool) → Tells b (OneCoversOthers level names (start ∷ others) ⊎ OneHasNoPart names (start ∷ others)) (AllCover level names (start ∷ others) × AllHaveParts names (start ∷ others))
      → (b || (not (list_any (bytes_eq column) s.names) || (s.several && lacks_name (name_of p.form)))) ≡ true → IsUnshared level (start ∷ others) p
  tells_unshared column stands true t h = all_unshared column stands t
  tells_unshared column stands false t h = elim (or_cases (not (list_any (bytes_eq column) s.names)) (s.several && lacks_name (name_of p.form)) h) [
    | inl n ↦ own_unshared column stands t.0 n
    | inr both ↦ unnamed_unshared column stands t.0 both
  ]

  unshared_of : (c : Option (List ℕ)) → p.column ≡ c → is_unshared_in s.all_break s.several s.names c (name_of p.form) ≡ true → IsUnshared level (start ∷ others) p
  unshared_of None stands h = absurd (true≢false (sym h))
  unshared_of (Some column) stands h = tells_unshared column stands s.all_break is.all h

  -- ---- the other way

  fine : AllCover level names (start ∷ others) → AllHaveParts names (start ∷ others) → IsUnshared level (start ∷ others) p → (column : List ℕ) → p.column ≡ Some column
      → (not (list_any (bytes_eq column) s.names) || (s.several && lacks_name (name_of p.form))) ≡ true
  fine all have (lacks_own col stands lacks) column is_column =
      let same : cover_of level p ≡ names = cover_at level names (start ∷ others) p all at in
      let one : col ≡ column = (let e : Some col ≡ Some column = sym stands ∙ is_column in cc) in
      or_left (not (list_any (bytes_eq column) s.names)) (s.several && lacks_name (name_of p.form)) (not_from_false (list_any (bytes_eq column) s.names) (false_from_ne_true (list_any (bytes_eq column) s.names) (λ t. lacks (subst (λ (l : List (List ℕ)). IsAmong l col) (sym same) (subst (IsAmong names) (sym one) (one_from_any names column (sym (is.names_are column) ∙ t)))))))
  fine all have (lacks_part col other stands among none) column is_column =
      let same : cover_of level p ≡ names = cover_at level names (start ∷ others) p all at in
      absurd (none (subst (λ (l : List (List ℕ)). HasPart level other l (start ∷ others)) (sym same)
      (stands_has level names other (start ∷ others) all (have other (subst (λ (l : List (List ℕ)). IsAmong l other) same among)))))
  fine all have (differs col q stands there other) column is_column =
      absurd (other (cover_at level names (start ∷ others) q all there ∙ sym (cover_at level names (start ∷ others) p all at)))
  fine all have (unnamed col one other rest stands none several) column is_column =
      let same : names ≡ one ∷ other ∷ rest = sym (cover_at level names (start ∷ others) p all at) ∙ several in
      or_right (not (list_any (bytes_eq column) s.names)) (s.several && lacks_name (name_of p.form))
      (and_from s.several (lacks_name (name_of p.form)) (is.several ∙ ap has_several same) (ap lacks_name none))

  tells_of : (b : Bool) → Tells b (OneCoversOthers level names (start ∷ others) ⊎ OneHasNoPart names (start ∷ others)) (AllCover level names (start ∷ others) × AllHaveParts names (start ∷ others))
      → IsUnshared level (start ∷ others) p → (column : List ℕ) → p.column ≡ Some column → (b || (not (list_any (bytes_eq column) s.names) || (s.several && lacks_name (name_of p.form)))) ≡ true
  tells_of true t h column stands = refl
  tells_of false t h column stands = fine t.0 t.1 h column stands

  in_column : IsUnshared level (start ∷ others) p → (column : List ℕ) × (p.column ≡ Some column)
  in_column (lacks_own column stands lacks) = (column, stands)
  in_column (lacks_part column other stands among none) = (column, stands)
  in_column (differs column q stands there other) = (column, stands)
  in_column (unnamed column one other rest stands none several) = (column, stands)

  of_unshared : (c : Option (List ℕ)) → p.column ≡ c → IsUnshared level (start ∷ others) p → is_unshared_in s.all_break s.several s.names c (name_of p.form) ≡ true
  of_unshared None stands h = let r = in_column h in let e : ◌≡◌ {A = Option (List ℕ)} None (Some r.0) = sym stands ∙ r.1 in cc
  of_unshared (Some column) stands h = tells_of s.all_break is.all h column stands

  pub unshared_is : IsTrue (is_unshared_in s.all_break s.several s.names p.column (name_of p.form)) ↔ IsUnshared level (start ∷ others) p
  unshared_is = (unshared_of p.column refl, of_unshared p.column refl)

-- ---- what the tests of the code tell

module _ (level names : List (List ℕ)) (start : Piece) (others : List Piece) (columns : List (List ℕ)) (covers : names ≡ cover_of level start) (stand : (i : List ℕ) → IsAmong columns i ↔ StandsOne (start ∷ others) i) where
  all_tells : (same all : Bool) → Tells same (AllCover level names others) (OneCoversOthers level names others) → Tells all (AllAmong columns names) (OneIsMissing columns names)
      → Tells (not (same && all)) (OneCoversOthers level names (start ∷ others) ⊎ OneHasNoPart names (start ∷ others)) (AllCover level names (start ∷ others) × AllHaveParts names (start ∷ others))
  all_tells true true h g = ((sym covers, h), λ i at. (stand i).0 (among_of columns names g i at))
  all_tells true false h g = let r = missing_of columns names g in inr (r.0, r.1, λ st. r.2 ((stand r.0).1 st))
  all_tells false true h g = inl (inr h)
  all_tells false false h g = inl (inr h)

  pub sharing_is : (same all : Bool) (s : Sharing) → Tells same (AllCover level names others) (OneCoversOthers level names others) → Tells all (AllAmong columns names) (OneIsMissing columns names)
      → s.all_break ≡ not (same && all) → s.several ≡ has_several names → ((i : List ℕ) → list_any (bytes_eq i) s.names ≡ list_any (bytes_eq i) names) → IsSharing level names (start ∷ others) s
  sharing_is same all s h g breaks more has = record {
    all = subst (λ (b : Bool). Tells b (OneCoversOthers level names (start ∷ others) ⊎ OneHasNoPart names (start ∷ others)) (AllCover level names (start ∷ others) × AllHaveParts names (start ∷ others))) (sym breaks) (all_tells same all h g);
    several = more;
    names_are = has;
  }
