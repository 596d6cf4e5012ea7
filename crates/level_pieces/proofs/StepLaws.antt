-- Steps of walks: over the instances of a level, and over its pieces.
use Rattle.std.proofs.Common.{◌≡◌, ◌<◌, ◌+◌, ℕ, Bool, true, false, cond, List, [], ◌∷◌, ◌++◌, drop, get_or, length, map, take, refl, sym, ap, ap₂, ◌∙◌}
use Rattle.std.proofs.lemmas.List.{map-append, take_more, append_assoc}
use Rattle.list_facts.proofs.Reading.{drop_read}
use Rattle.msc_meaning.specs.LevelItems.{Entry, entries_behind, is_in, with_pieces, within}
use Rattle.msc_meaning.specs.Pieces.{Piece}
use Rattle.level_pieces.specs.ItemNumbers.{next_entries, with_next}
use Rattle.level_pieces.specs.PieceViews.{piece_view}
use Rattle.level_pieces.specs.declared.pieces.Piece as code
use Rattle.level_pieces.proofs.ItemLaws.{entries_more, items_snoc}

if_more : {A : Type 0} (b : Bool) (x : A) (rest : List A) → cond b (x ∷ []) [] ++ rest ≡ cond b (x ∷ rest) rest
if_more true x rest = refl
if_more false x rest = refl

-- one instance more
pub within_step : (names level : List (List ℕ)) (k : ℕ) (name : List ℕ) (b : Bool) (found longer : List (List ℕ)) → k < length level → name ≡ get_or level k name → b ≡ is_in names name → longer ≡ found ++ cond b (name ∷ []) []
    → longer ++ within (drop (k + 1) level) names ≡ found ++ within (drop k level) names
within_step names level k name b found longer low is test made =
    let rest : List (List ℕ) = within (drop (k + 1) level) names in
    ap (λ (l : List (List ℕ)). l ++ rest) made ∙ append_assoc found (cond b (name ∷ []) []) rest
    ∙ ap (λ (l : List (List ℕ)). found ++ l) (if_more b name rest ∙ ap (λ (c : Bool). cond c (name ∷ rest) rest) test)
    ∙ ap (λ (l : List (List ℕ)). found ++ within l names) (sym (drop_read level k name low is))

-- ---- the items of a level, piece by piece

pub items_next : (pieces : List code.Piece) (k : ℕ) (item : code.Piece) → k < length pieces → item ≡ get_or pieces k item
    → with_pieces [] (map piece_view (take (k + 1) pieces)) ≡ with_next (with_pieces [] (map piece_view (take k pieces))) (piece_view item)
items_next pieces k item low is =
    let more : map piece_view (take (k + 1) pieces) ≡ map piece_view (take k pieces) ++ piece_view item ∷ [] =
    ap (map piece_view) (take_more pieces k item low ∙ ap (λ (x : code.Piece). take k pieces ++ x ∷ []) (sym is)) ∙ map-append piece_view (take k pieces) (item ∷ []) in
    ap (with_pieces []) more ∙ items_snoc [] (map piece_view (take k pieces)) (piece_view item)

pub parts_step : (pieces : List code.Piece) (k : ℕ) (item : code.Piece) (old new all : List Entry) → k < length pieces → item ≡ get_or pieces k item
    → new ≡ old ++ next_entries (with_pieces [] (map piece_view (take k pieces))) (piece_view item)
    → old ++ entries_behind (with_pieces [] (map piece_view (take k pieces))) (map piece_view (drop k pieces)) ≡ all
    → new ++ entries_behind (with_pieces [] (map piece_view (take (k + 1) pieces))) (map piece_view (drop (k + 1) pieces)) ≡ all
parts_step pieces k item old new all low is made inv =
    let xs : List (List Piece) = with_pieces [] (map piece_view (take k pieces)) in
    let p : Piece = piece_view item in
    let rest : List Piece = map piece_view (drop (k + 1) pieces) in
    let split : map piece_view (drop k pieces) ≡ p ∷ rest = ap (map piece_view) (drop_read pieces k item low is) in
    ap₂ (λ (l : List Entry) (ys : List (List Piece)). l ++ entries_behind ys rest) made (items_next pieces k item low is)
    ∙ append_assoc old (next_entries xs p) (entries_behind (with_next xs p) rest)
    ∙ ap (λ (l : List Entry). old ++ l) (sym (entries_more xs p rest))
    ∙ ap (λ (qs : List Piece). old ++ entries_behind xs qs) (sym split) ∙ inv
