-- Reading the operands of an item, one after another.
use Rattle.std.proofs.Common.{◌≡◌, ℕ, ◌<◌, ◌≤◌, ◌+◌, zero, suc, List, [], ◌∷◌, ◌++◌, drop, take, get_or, length, map, refl, sym, subst, ap, ◌∙◌, arith}
use Rattle.std.proofs.lemmas.List.{append-nil, length-map, map-append, take_more, append_assoc}
use Rattle.list_facts.proofs.Reading.{drop_read}
use Rattle.msc_tree.specs.Statements.{Operand, Operands, operands}
use Rattle.msc_tree.specs.Views.{operand_view}
use Rattle.msc_tree.specs.declared.statement.RawOperand.{RawOperand}
use Rattle.msc_meaning.specs.Levels.{operand_number}
use Rattle.msc_meaning.specs.Pieces.{Piece, operand_of, operands_of}
use Rattle.level_pieces.specs.ItemOperands.{AreAllWithin, HaveAtMost, IsWithin, operand_lists, operands_in, rest_operand, rests_operand}
use Rattle.level_pieces.specs.ItemParts.{AreInColumns}
use Rattle.level_pieces.specs.PieceViews.{piece_view, setting_column}
use Rattle.level_pieces.specs.declared.pieces.PieceSide.{PieceSide}
use Rattle.level_pieces.specs.declared.pieces.PieceSide.TheVariants as setting
use Rattle.level_pieces.specs.declared.operands.PartRest.{PartRest}
use Rattle.level_pieces.specs.declared.pieces.Piece as code

-- ---- how many there are

number_is : (xs : List Operand) → operand_number (operands xs) ≡ length xs
number_is [] = refl
number_is (x ∷ xs) = ap suc (number_is xs)

pub operands_low : (raws : List RawOperand) (held : Operands) → operands (map operand_view raws) ≡ held → operand_number held ≤ length raws
operands_low raws held is = let n : operand_number held ≡ length raws = sym (ap operand_number is) ∙ number_is (map operand_view raws) ∙ length-map raws operand_view in omega (arith, n)

at_most_more : (n m : ℕ) (ps : List Piece) → n ≤ m → HaveAtMost n ps → HaveAtMost m ps
at_most_more n m [] le h = tt
at_most_more n m (p ∷ ps) le h = (omega (arith, le, h.0), at_most_more n m ps le h.1)

at_most_on : (n : ℕ) (ps : List Piece) (p : Piece) → HaveAtMost n ps → operand_number (operands_in p.form) ≤ n → HaveAtMost n (ps ++ p ∷ [])
at_most_on n [] p h le = (le, tt)
at_most_on n (q ∷ ps) p h le = (h.0, at_most_on n ps p h.1 le)

-- one part more
pub most_step : (first : Piece) (parts : List code.Piece) (k : ℕ) (part : code.Piece) (raws : List RawOperand) (most after : ℕ) → k < length parts → part ≡ get_or parts k part
    → operands (map operand_view raws) ≡ operands_in (piece_view part).form → HaveAtMost most (first ∷ map piece_view (take k parts)) → most ≤ after → length raws ≤ after
    → HaveAtMost after (first ∷ map piece_view (take (k + 1) parts))
most_step first parts k part raws most after low is held h own new =
    let read : map piece_view (take (k + 1) parts) ≡ map piece_view (take k parts) ++ piece_view part ∷ [] =
    ap (map piece_view) (take_more parts k part low ∙ ap (λ (x : code.Piece). take k parts ++ x ∷ []) (sym is)) ∙ map-append piece_view (take k parts) (part ∷ []) in
    subst (λ (qs : List Piece). HaveAtMost after (first ∷ qs)) (sym read)
    (at_most_on after (first ∷ map piece_view (take k parts)) (piece_view part) (at_most_more most after (first ∷ map piece_view (take k parts)) own h) (omega (arith, new, operands_low raws (operands_in (piece_view part).form) held)))

pub operands_count : (raws : List RawOperand) (held : Operands) → operands (map operand_view raws) ≡ held → length raws ≡ operand_number held
operands_count raws held is = sym (length-map raws operand_view) ∙ sym (number_is (map operand_view raws)) ∙ ap operand_number is

-- parts in columns stand behind no `all`
pub columns_within : (outer : List (List ℕ)) (ps : List code.Piece) → AreInColumns (map piece_view ps) → AreAllWithin outer ps
columns_within outer [] h = tt
columns_within outer (p ∷ ps) h = (by p.setting refl, columns_within outer ps h.1)
  where
    by : (s : PieceSide) → p.setting ≡ s → IsWithin outer s
    by (setting.InColumn name) e = tt
    by (setting.Behind names) e = tt
    by (setting.Inside names) e = absurd (h.0 (ap setting_column e))

pub within_at : (outer : List (List ℕ)) (ps : List code.Piece) (k : ℕ) (p : code.Piece) → AreAllWithin outer ps → k < length ps → p ≡ get_or ps k p → IsWithin outer p.setting
within_at outer [] k p h low is = absurd (omega (arith, low))
within_at outer (q ∷ ps) zero p h low is = subst (λ (z : code.Piece). IsWithin outer z.setting) (sym is) h.0
within_at outer (q ∷ ps) (suc k) p h low is = within_at outer ps k p h.1 (omega (arith, low)) is

-- ---- what is left of the parts

pub rests_snoc : (cover : List (List ℕ)) (k : ℕ) (rs : List PartRest) (r : PartRest) → rests_operand cover k (rs ++ r ∷ []) ≡ rests_operand cover k rs ++ rest_operand cover k r
rests_snoc cover k [] r = append-nil (rest_operand cover k r)
rests_snoc cover k (x ∷ rs) r = ap (λ (l : List Piece). rest_operand cover k x ++ l) (rests_snoc cover k rs r) ∙ sym (append_assoc (rest_operand cover k x) (rests_operand cover k rs) (rest_operand cover k r))

-- one part more
pub rests_step : (cover : List (List ℕ)) (k : ℕ) (parts : List code.Piece) (i : ℕ) (part : code.Piece) (old new : List PartRest) (r : PartRest) → i < length parts → part ≡ get_or parts i part → new ≡ old ++ r ∷ []
    → rest_operand cover k r ≡ operand_of cover k (piece_view part) (piece_view part).form
    → rests_operand cover k new ++ operands_of cover k (map piece_view (drop (i + 1) parts)) ≡ rests_operand cover k old ++ operands_of cover k (map piece_view (drop i parts))
rests_step cover k parts i part old new r low is made own =
    let rest : List Piece = operands_of cover k (map piece_view (drop (i + 1) parts)) in
    ap (λ (l : List PartRest). rests_operand cover k l ++ rest) made ∙ ap (λ (l : List Piece). l ++ rest) (rests_snoc cover k old r)
    ∙ append_assoc (rests_operand cover k old) (rest_operand cover k r) rest
    ∙ ap (λ (l : List Piece). rests_operand cover k old ++ (l ++ rest)) own
    ∙ ap (λ (l : List code.Piece). rests_operand cover k old ++ operands_of cover k (map piece_view l)) (sym (drop_read parts i part low is))

-- one rest more
pub left_step : (cover : List (List ℕ)) (k : ℕ) (rests : List PartRest) (i : ℕ) (rest : PartRest) (old new : List PartRest) (r : PartRest) → i < length rests → rest ≡ get_or rests i rest → new ≡ old ++ r ∷ []
    → rest_operand cover k r ≡ rest_operand cover (suc k) rest
    → rests_operand cover k new ++ rests_operand cover (suc k) (drop (i + 1) rests) ≡ rests_operand cover k old ++ rests_operand cover (suc k) (drop i rests)
left_step cover k rests i rest old new r low is made own =
    let others : List Piece = rests_operand cover (suc k) (drop (i + 1) rests) in
    ap (λ (l : List PartRest). rests_operand cover k l ++ others) made ∙ ap (λ (l : List Piece). l ++ others) (rests_snoc cover k old r)
    ∙ append_assoc (rests_operand cover k old) (rest_operand cover k r) others
    ∙ ap (λ (l : List Piece). rests_operand cover k old ++ (l ++ others)) own
    ∙ ap (λ (l : List PartRest). rests_operand cover k old ++ rests_operand cover (suc k) l) (sym (drop_read rests i rest low is))

-- the pieces of one rest more
pub pieces_step : (cover : List (List ℕ)) (rests : List PartRest) (i : ℕ) (rest : PartRest) (old new : List Piece) → i < length rests → rest ≡ get_or rests i rest → new ≡ old ++ rest_operand cover 0 rest
    → new ++ rests_operand cover 0 (drop (i + 1) rests) ≡ old ++ rests_operand cover 0 (drop i rests)
pieces_step cover rests i rest old new low is made =
    let others : List Piece = rests_operand cover 0 (drop (i + 1) rests) in
    ap (λ (l : List Piece). l ++ others) made ∙ append_assoc old (rest_operand cover 0 rest) others
    ∙ ap (λ (l : List PartRest). old ++ rests_operand cover 0 l) (sym (drop_read rests i rest low is))

-- ---- all operands

pub lists_snoc : (cover : List (List ℕ)) (parts : List Piece) (k n : ℕ) → operand_lists cover parts k (suc n) ≡ operand_lists cover parts k n ++ operands_of cover (k + n) parts ∷ []
lists_snoc cover parts k zero = let z : k ≡ k + zero = omega arith in ap (λ (m : ℕ). operands_of cover m parts ∷ []) z
lists_snoc cover parts k (suc n) =
    let z : suc k + n ≡ k + suc n = omega arith in
    ap (λ (l : List (List Piece)). operands_of cover k parts ∷ l) (lists_snoc cover parts (suc k) n ∙ ap (λ (m : ℕ). operand_lists cover parts (suc k) n ++ operands_of cover m parts ∷ []) z)
