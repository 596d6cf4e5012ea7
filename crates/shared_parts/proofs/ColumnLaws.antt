-- The columns in which the parts of an item stand, and names that are among them.
use Rattle.std.proofs.Common.{◌≡◌, ◌↔◌, ◌⊎◌, inl, inr, ◌<◌, ◌≤◌, ◌+◌, ℕ, Option, Some, Result, Ok, Err, OnOk, List, [], ◌∷◌, drop, get_or, length, map, refl, sym, ap, subst, ◌∙◌, arith}
use Rattle.msc_base.specs.Lists.{IsAmong}
use Rattle.msc_base.specs.NameTables.{with_name}
use Rattle.list_facts.proofs.Reading.{drop_read, drop_end}
use Rattle.list_facts.proofs.Tables.{among_with_name}
use Rattle.msc_meaning.specs.Pieces.{Piece}
use Rattle.level_pieces.specs.PieceViews.{piece_view}
use Rattle.level_pieces.specs.declared.pieces.Piece as code
use Rattle.shared_parts.specs.Sharing.{AllAmong, AllCover, OneCoversOthers, OneIsMissing, StandsOne}

-- ---- one name more

some_same : (a b : List ℕ) → Some a ≡ Some b → b ≡ a
some_same a b e = cc

pub column_added : {A E : Type 0} (result : Result A E) (old new : List (List ℕ)) (bytes name : List ℕ) (column : Option (List ℕ)) → OnOk result (new ≡ with_name old bytes) → bytes ≡ name → column ≡ Some name
    → OnOk result ((i : List ℕ) → IsAmong new i ↔ (IsAmong old i ⊎ (column ≡ Some i)))
column_added (Err e) old new bytes name column h read stands = h
column_added (Ok a) old new bytes name column h read stands = λ i. (
  λ g. elim ((among_with_name old bytes i).0 (subst (λ (l : List (List ℕ)). IsAmong l i) h g)) [ inl e ↦ inr (stands ∙ ap Some (sym read ∙ sym e)) | inr o ↦ inl o ],
  λ g. subst (λ (l : List (List ℕ)). IsAmong l i) (sym h) ((among_with_name old bytes i).1 (elim g [ inl o ↦ inr o | inr e ↦ inl (some_same name i (sym stands ∙ e) ∙ sym read) ])),
)

-- ---- walks over the parts behind the first

module _ (xs : List code.Piece) (k : ℕ) (x : code.Piece) (low : k < length xs) (is : x ≡ get_or xs k x) where
  next_part : map piece_view (drop k xs) ≡ piece_view x ∷ map piece_view (drop (k + 1) xs)
  next_part = ap (map piece_view) (drop_read xs k x low is)

  -- one column more
  pub columns_more : (now new : List (List ℕ)) (all : List Piece) → ((i : List ℕ) → IsAmong new i ↔ (IsAmong now i ⊎ ((piece_view x).column ≡ Some i)))
      → ((i : List ℕ) → (IsAmong now i ⊎ StandsOne (map piece_view (drop k xs)) i) ↔ StandsOne all i) → (i : List ℕ) → (IsAmong new i ⊎ StandsOne (map piece_view (drop (k + 1) xs)) i) ↔ StandsOne all i
  columns_more now new all one h i = (
    λ g. (h i).0 (elim g [
      | inl n ↦ elim ((one i).0 n) [ inl o ↦ inl o | inr here ↦ inr (subst (λ (l : List Piece). StandsOne l i) (sym next_part) (inl here)) ]
      | inr rest ↦ inr (subst (λ (l : List Piece). StandsOne l i) (sym next_part) (inr rest))
    ]),
    λ s. elim ((h i).1 s) [
      | inl n ↦ inl ((one i).1 (inl n))
      | inr left ↦ elim (subst (λ (l : List Piece). StandsOne l i) next_part left) [ inl here ↦ inl ((one i).1 (inr here)) | inr rest ↦ inr rest ]
    ],
  )

  -- one part more that covers the same, or others
  pub cover_more : (level names : List (List ℕ)) → AllCover level names (piece_view x ∷ map piece_view (drop (k + 1) xs)) → AllCover level names (map piece_view (drop k xs))
  cover_more level names h = subst (λ (l : List Piece). AllCover level names l) (sym next_part) h

  pub others_more : (level names : List (List ℕ)) → OneCoversOthers level names (piece_view x ∷ map piece_view (drop (k + 1) xs)) → OneCoversOthers level names (map piece_view (drop k xs))
  others_more level names h = subst (λ (l : List Piece). OneCoversOthers level names l) (sym next_part) h

-- none is left
pub columns_all : (xs : List code.Piece) (k : ℕ) (now : List (List ℕ)) (all : List Piece) → length xs ≤ k
    → ((i : List ℕ) → (IsAmong now i ⊎ StandsOne (map piece_view (drop k xs)) i) ↔ StandsOne all i) → (i : List ℕ) → IsAmong now i ↔ StandsOne all i
columns_all xs k now all low h i =
    let none : map piece_view (drop k xs) ≡ [] = ap (map piece_view) (drop_end xs k (λ l. omega (arith, l, low))) in (
      λ n. (h i).0 (inl n),
      λ s. elim ((h i).1 s) [ inl n ↦ n | inr left ↦ absurd (subst (λ (l : List Piece). StandsOne l i) none left) ],
    )

pub cover_all : (xs : List code.Piece) (k : ℕ) (level names : List (List ℕ)) → length xs ≤ k → AllCover level names (map piece_view (drop k xs))
cover_all xs k level names low =
    let none : map piece_view (drop k xs) ≡ [] = ap (map piece_view) (drop_end xs k (λ l. omega (arith, l, low))) in
    subst (λ (l : List Piece). AllCover level names l) (sym none) tt

-- ---- names among the columns

pub missing_of : (columns names : List (List ℕ)) → OneIsMissing columns names → (i : List ℕ) × IsAmong names i × (IsAmong columns i → ⊥)
missing_of columns [] h = absurd h
missing_of columns (i ∷ names) (inl n) = (i, inl refl, n)
missing_of columns (i ∷ names) (inr h) = let r = missing_of columns names h in (r.0, inr r.1, r.2)

pub among_of : (columns names : List (List ℕ)) → AllAmong columns names → (i : List ℕ) → IsAmong names i → IsAmong columns i
among_of columns [] h i at = absurd at
among_of columns (j ∷ names) h i (inl e) = subst (IsAmong columns) (sym e) h.0
among_of columns (j ∷ names) h i (inr at) = among_of columns names h.1 i at
