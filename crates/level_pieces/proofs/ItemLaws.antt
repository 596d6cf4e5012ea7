-- The items of a level whose pieces are well formed, by their first parts.
use Rattle.std.proofs.Common.{◌≡◌, ◌⊎◌, inl, inr, ℕ, ◌<◌, ◌≤◌, ◌+◌, zero, suc, Bool, true, false, cond, List, [], ◌∷◌, ◌++◌, Option, Some, None, length, map, slice_get, refl, sym, subst, ap, arith}
use Rattle.std.specs.Bool.{⊤}
use Rattle.msc_meaning.specs.LevelItems.{entries, entries_behind, is_item, is_joined, is_part, is_part_of, level_items, name_of, number_in, with_piece, with_pieces}
use Rattle.msc_meaning.specs.Pieces.{Piece, form_count}
use Rattle.level_pieces.specs.ItemNumbers.{AreInside, first_parts, next_entries, with_next}
use Rattle.level_pieces.specs.ItemParts.{AreInColumns, AreItems, AreParts, HasMore}
use Rattle.level_pieces.specs.PieceNumbers.{AreNumbered}
use Rattle.level_pieces.specs.PieceViews.{parts_view, piece_view}
use Rattle.level_pieces.specs.declared.pieces.LevelItem as code
use Rattle.level_pieces.specs.FormedPieces.{AreFormed, IsFormedPiece}
use Rattle.level_pieces.proofs.PieceTexts.{pieces_behind}
use Rattle.level_pieces.proofs.NumberedPieces.{ArePlaced, placed_later, placed_numbered, placed_on}

pub length_snoc : {A : Type 0} (xs : List A) (x : A) → length (xs ++ x ∷ []) ≡ suc (length xs)
length_snoc [] x = refl
length_snoc (w ∷ xs) x = omega (arith, length_snoc xs x)

-- ---- what the parts of an item have in common

joined_first : (c d e f : Option (List ℕ)) → is_joined c d e f ≡ true → f ≡ None → ⊥
joined_first None d e f h is = cc
joined_first (Some i) None e f h is = cc
joined_first (Some i) (Some a) None f h is = cc
joined_first (Some i) (Some a) (Some j) None h is = cc
joined_first (Some i) (Some a) (Some j) (Some b) h is = cc

joined_column : (c d e f : Option (List ℕ)) → is_joined c d e f ≡ true → c ≡ None → ⊥
joined_column None d e f h is = cc
joined_column (Some i) d e f h is = cc

-- a part of an item has a name, and it and the others stand in columns
pub parts_named : (q p : Piece) (qs rs : List Piece) → is_part_of p (q ∷ qs) ≡ true → HasMore q (rs ++ p ∷ [])
parts_named q p qs [] is = λ none. joined_first p.column (name_of p.form) q.column (name_of q.form) is none
parts_named q p qs (r ∷ rs) is = λ none. joined_first p.column (name_of p.form) q.column (name_of q.form) is none

pub parts_in_columns : (q p : Piece) (qs rs : List Piece) → is_part_of p (q ∷ qs) ≡ true → AreInColumns rs → AreInColumns (rs ++ p ∷ [])
parts_in_columns q p qs [] is k = (λ none. joined_column p.column (name_of p.form) q.column (name_of q.form) is none, tt)
parts_in_columns q p qs (r ∷ rs) is k = (k.0, parts_in_columns q p qs rs is k.1)

-- they are well formed, and their events are numbered below n
abbrev IsGood : ℕ → List Piece → Type 0
IsGood n [] = ⊥
IsGood n (p ∷ ps) = (is_item p.form ≡ true) × HasMore p ps × AreFormed (p ∷ ps) × ArePlaced 0 n (p ∷ ps) × AreInColumns ps

abbrev AllGood : ℕ → List (List Piece) → Type 0
AllGood n [] = ⊤
AllGood n (x ∷ xs) = IsGood n x × AllGood n xs

good_later : (n m : ℕ) (x : List Piece) → n ≤ m → IsGood n x → IsGood m x
good_later n m [] le g = g
good_later n m (p ∷ ps) le g = (g.0, g.1, g.2, placed_later 0 n m (p ∷ ps) le g.3, g.4)

all_later : (n m : ℕ) (xs : List (List Piece)) → n ≤ m → AllGood n xs → AllGood m xs
all_later n m [] le g = tt
all_later n m (x ∷ xs) le g = (good_later n m x le g.0, all_later n m xs le g.1)

good_more : (n : ℕ) (x : List Piece) (p : Piece) → IsGood n x → n ≤ p.first → IsFormedPiece p → is_part_of p x ≡ true → IsGood (p.first + form_count p.form) (x ++ p ∷ [])
good_more n [] p g le h is = absurd g
good_more n (q ∷ qs) p g le h is = (g.0, parts_named q p qs qs is, pieces_behind IsFormedPiece (q ∷ qs) (p ∷ []) g.2 (h, tt), placed_on 0 n (p.first + form_count p.form) (q ∷ qs) (p ∷ []) g.3 (le, omega arith), parts_in_columns q p qs qs is g.4)

good_with : (n : ℕ) (xs : List (List Piece)) (p : Piece) → AllGood n xs → n ≤ p.first → IsFormedPiece p → is_item p.form ≡ true → AllGood (p.first + form_count p.form) (with_piece xs p)
good_with n [] p g le h is = ((is, tt, (h, tt), (omega arith, omega arith), tt), tt)
good_with n (x ∷ xs) p g le h is = by (is_part_of p x) refl (good_with n xs p g.1 le h is)
  where
    by : (b : Bool) → is_part_of p x ≡ b → AllGood (p.first + form_count p.form) (with_piece xs p) → AllGood (p.first + form_count p.form) (cond b ((x ++ p ∷ []) ∷ xs) (x ∷ with_piece xs p))
    by true e rest = (good_more n x p g.0 le h e, all_later n (p.first + form_count p.form) xs (omega (arith, le)) g.1)
    by false e rest = (good_later n (p.first + form_count p.form) x (omega (arith, le)) g.0, rest)

abbrev parts_of_good : (n : ℕ) (xs : List (List Piece)) → AllGood n xs → AreItems xs
parts_of_good n [] g = tt
parts_of_good n ([] ∷ xs) g = absurd g.0
parts_of_good n ((p ∷ ps) ∷ xs) g = ((g.0.0, g.0.1, g.0.2, placed_numbered 0 n (p ∷ ps) g.0.3, g.0.4), parts_of_good n xs g.1)

good_from : (n : ℕ) (xs : List (List Piece)) (ps : List Piece) → AllGood n xs → AreFormed ps → AreNumbered n ps → AreItems (with_pieces xs ps)
good_from n xs [] g h k = parts_of_good n xs g
good_from n xs (p ∷ ps) g h k =
    by (is_item p.form) refl
    (λ l. good_from (p.first + form_count p.form) (with_piece xs p) ps l h.1 k.1)
    (good_from (p.first + form_count p.form) xs ps (all_later n (p.first + form_count p.form) xs (omega (arith, k.0)) g) h.1 k.1)
  where
    by : (b : Bool) → is_item p.form ≡ b → (AllGood (p.first + form_count p.form) (with_piece xs p) → AreItems (with_pieces (with_piece xs p) ps)) → AreItems (with_pieces xs ps) → AreItems (with_pieces (cond b (with_piece xs p) xs) ps)
    by true is one other = one (good_with n xs p g k.0 h.0 is)
    by false is one other = other

-- the items of a level whose pieces are well formed
pub level_parts : (ps : List Piece) → AreFormed ps → AreNumbered 0 ps → AreItems (level_items ps)
level_parts ps h k = good_from 0 [] ps tt h k

pub record IsItemAt (xs : List (List Piece)) (x : ℕ) (parts : List Piece) : Type 0 where
  pub first : Piece
  pub others : List Piece
  pub is : parts ≡ first ∷ others
  pub at : slice_get (first_parts xs) x ≡ Some first
  pub are : AreParts (first ∷ others)

pub item_at : (xs : List (List Piece)) (x : ℕ) (parts : List Piece) → AreItems xs → slice_get xs x ≡ Some parts → IsItemAt xs x parts
item_at [] x parts g at = cc
item_at ([] ∷ xs) x parts g at = absurd g.0
item_at ((p ∷ ps) ∷ xs) zero parts g at = let same : p ∷ ps ≡ parts = cc in record { first = p; others = ps; is = sym same; at = refl; are = g.0 }
item_at ((p ∷ ps) ∷ xs) (suc x) parts g at = let r = item_at xs x parts g.1 at in record { first = r.first; others = r.others; is = r.is; at = r.at; are = r.are }

-- the first part of an item of the code
pub first_here : (items : List code.LevelItem) (x : ℕ) (i : code.LevelItem) → slice_get items x ≡ Some i → slice_get (first_parts (map parts_view items)) x ≡ Some (piece_view i.first)
first_here [] x i at = cc
first_here (j ∷ items) zero i at = let same : j ≡ i = cc in ap (λ (k : code.LevelItem). Some (piece_view k.first)) same
first_here (j ∷ items) (suc x) i at = first_here items x i at

-- the parts of one of them
pub parts_at : (xs : List (List Piece)) (x : ℕ) (parts : List Piece) → AreItems xs → slice_get xs x ≡ Some parts → AreParts parts
parts_at [] x parts g at = cc
parts_at (y ∷ xs) zero parts g at = let same : y ≡ parts = cc in subst (λ (z : List Piece). AreParts z) same g.0
parts_at (y ∷ xs) (suc x) parts g at = parts_at xs x parts g.1 at

-- ---- their numbers are in the order of the text

same_or_more : (xs : List (List Piece)) (p : Piece) → (first_parts (with_piece xs p) ≡ first_parts xs) ⊎ (first_parts (with_piece xs p) ≡ first_parts xs ++ p ∷ [])
same_or_more [] p = inr refl
same_or_more ([] ∷ xs) p = same_or_more xs p
same_or_more ((q ∷ qs) ∷ xs) p = by (is_part p q) (same_or_more xs p)
  where
    by : (b : Bool) → (first_parts (with_piece xs p) ≡ first_parts xs) ⊎ (first_parts (with_piece xs p) ≡ first_parts xs ++ p ∷ [])
        → (first_parts (cond b (((q ∷ qs) ++ p ∷ []) ∷ xs) ((q ∷ qs) ∷ with_piece xs p)) ≡ q ∷ first_parts xs) ⊎ (first_parts (cond b (((q ∷ qs) ++ p ∷ []) ∷ xs) ((q ∷ qs) ∷ with_piece xs p)) ≡ q ∷ (first_parts xs ++ p ∷ []))
    by true rest = inl refl
    by false (inl e) = inl (ap (λ (l : List Piece). q ∷ l) e)
    by false (inr e) = inr (ap (λ (l : List Piece). q ∷ l) e)

placed_with : (xs : List (List Piece)) (p : Piece) (n : ℕ) → ArePlaced 0 n (first_parts xs) → n ≤ p.first → ArePlaced 0 (p.first + form_count p.form) (first_parts (with_piece xs p))
placed_with xs p n h le = elim (same_or_more xs p) [
  | inl e ↦ subst (λ (l : List Piece). ArePlaced 0 (p.first + form_count p.form) l) (sym e) (placed_later 0 n (p.first + form_count p.form) (first_parts xs) (omega (arith, le)) h)
  | inr e ↦ subst (λ (l : List Piece). ArePlaced 0 (p.first + form_count p.form) l) (sym e) (placed_on 0 n (p.first + form_count p.form) (first_parts xs) (p ∷ []) h (le, omega arith))
]

firsts_from : (xs : List (List Piece)) (n : ℕ) (ps : List Piece) → ArePlaced 0 n (first_parts xs) → AreNumbered n ps → AreNumbered 0 (first_parts (with_pieces xs ps))
firsts_from xs n [] h k = placed_numbered 0 n (first_parts xs) h
firsts_from xs n (p ∷ ps) h k =
    by (is_item p.form)
    (firsts_from (with_piece xs p) (p.first + form_count p.form) ps (placed_with xs p n h k.0) k.1)
    (firsts_from xs (p.first + form_count p.form) ps (placed_later 0 n (p.first + form_count p.form) (first_parts xs) (omega (arith, k.0)) h) k.1)
  where
    by : (b : Bool) → AreNumbered 0 (first_parts (with_pieces (with_piece xs p) ps)) → AreNumbered 0 (first_parts (with_pieces xs ps)) → AreNumbered 0 (first_parts (with_pieces (cond b (with_piece xs p) xs) ps))
    by true one other = one
    by false one other = other

pub firsts_numbered : (ps : List Piece) → AreNumbered 0 ps → AreNumbered 0 (first_parts (level_items ps))
firsts_numbered ps h = firsts_from [] 0 ps (omega arith) h

-- ---- the entries are of the items

longer_with : (xs : List (List Piece)) (p : Piece) → (length xs ≤ length (with_piece xs p)) × (number_in xs p < length (with_piece xs p))
longer_with [] p = (omega arith, omega arith)
longer_with (x ∷ xs) p = by (is_part_of p x) (longer_with xs p)
  where
    by : (b : Bool) → (length xs ≤ length (with_piece xs p)) × (number_in xs p < length (with_piece xs p))
        → (suc (length xs) ≤ length (cond b ((x ++ p ∷ []) ∷ xs) (x ∷ with_piece xs p))) × (cond b zero (suc (number_in xs p)) < length (cond b ((x ++ p ∷ []) ∷ xs) (x ∷ with_piece xs p)))
    by true r = (omega arith, omega arith)
    by false r = (omega (arith, r.0), omega (arith, r.1))

longer_from : (xs : List (List Piece)) (ps : List Piece) → length xs ≤ length (with_pieces xs ps)
longer_from xs [] = omega arith
longer_from xs (p ∷ ps) = by (is_item p.form) (longer_from (with_piece xs p) ps) (longer_from xs ps)
  where
    by : (b : Bool) → length (with_piece xs p) ≤ length (with_pieces (with_piece xs p) ps) → length xs ≤ length (with_pieces xs ps) → length xs ≤ length (with_pieces (cond b (with_piece xs p) xs) ps)
    by true one other = let w = longer_with xs p in omega (arith, w.0, one)
    by false one other = other

inside_from : (xs : List (List Piece)) (ps : List Piece) → AreInside (length (with_pieces xs ps)) (entries_behind xs ps)
inside_from xs [] = tt
inside_from xs (p ∷ ps) = by (is_item p.form) (inside_from (with_piece xs p) ps) (inside_from xs ps)
  where
    by : (b : Bool) → AreInside (length (with_pieces (with_piece xs p) ps)) (entries_behind (with_piece xs p) ps) → AreInside (length (with_pieces xs ps)) (entries_behind xs ps)
        → AreInside (length (with_pieces (cond b (with_piece xs p) xs) ps)) (cond b (record { item = number_in xs p; piece = p } ∷ entries_behind (with_piece xs p) ps) (entries_behind xs ps))
    by true one other = let w = longer_with xs p in let l = longer_from (with_piece xs p) ps in (omega (arith, w.1, l), one)
    by false one other = other

pub entries_inside : (ps : List Piece) → AreInside (length (level_items ps)) (entries ps)
entries_inside ps = inside_from [] ps

-- ---- one piece more

pub items_snoc : (xs : List (List Piece)) (ps : List Piece) (p : Piece) → with_pieces xs (ps ++ p ∷ []) ≡ with_next (with_pieces xs ps) p
items_snoc xs [] p = refl
items_snoc xs (q ∷ ps) p = by (is_item q.form) (items_snoc (with_piece xs q) ps p) (items_snoc xs ps p)
  where
    by : (b : Bool) → with_pieces (with_piece xs q) (ps ++ p ∷ []) ≡ with_next (with_pieces (with_piece xs q) ps) p → with_pieces xs (ps ++ p ∷ []) ≡ with_next (with_pieces xs ps) p
        → with_pieces (cond b (with_piece xs q) xs) (ps ++ p ∷ []) ≡ with_next (with_pieces (cond b (with_piece xs q) xs) ps) p
    by true one other = one
    by false one other = other

pub entries_more : (xs : List (List Piece)) (p : Piece) (ps : List Piece) → entries_behind xs (p ∷ ps) ≡ next_entries xs p ++ entries_behind (with_next xs p) ps
entries_more xs p ps = by (is_item p.form)
  where
    by : (b : Bool) → cond b (record { item = number_in xs p; piece = p } ∷ entries_behind (with_piece xs p) ps) (entries_behind xs ps)
        ≡ cond b ((record { item = number_in xs p; piece = p }) ∷ []) [] ++ entries_behind (cond b (with_piece xs p) xs) ps
    by true = refl
    by false = refl
