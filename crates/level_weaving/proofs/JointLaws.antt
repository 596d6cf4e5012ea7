-- Items of several operands: what these are woven to, and where they cross.
use Rattle.std.proofs.Common.{◌≡◌, ◌⊎◌, inl, inr, ℕ, ◌<◌, ◌≤◌, ◌+◌, zero, suc, true, false, List, [], ◌∷◌, Option, Some, drop, take, length, slice_get, refl, sym, subst, ap, ◌∙◌, arith}
use Rattle.msc_base.specs.Places.{IsLeast}
use Rattle.msc_base.specs.declared.place.Place.{Place}
use Rattle.level_pieces.proofs.NoOperands.{none_beyond}
use Rattle.msc_tree.specs.Statements.{Form, Single, Coregion, Condition, Inline, Refer, Stop}
use Rattle.msc_meaning.specs.Bodies.{Body, Bodies, no_bodies, bodies}
use Rattle.msc_meaning.specs.Crossings.{ColumnsCross}
use Rattle.msc_meaning.specs.LevelItems.{cover_of, is_item}
use Rattle.msc_meaning.specs.Levels.{AreWovenOperands, IsWovenItem, an_inline, a_reference, no_woven_operand, operand_number, woven_operand_and}
use Rattle.level_weaving.proofs.LonelyLevels.{operands_lacking, operands_on}
use Rattle.level_weaving.specs.LonelyItems.{ItemLacksPartner, OneLacksPartner}
use Rattle.msc_meaning.specs.Pieces.{Piece, operands_of}
use Rattle.level_pieces.specs.Earliest.{earliest_of}
use Rattle.level_pieces.specs.ItemOperands.{AreOperands, operand_lists, operands_in}
use Rattle.level_pieces.specs.ItemParts.{AreParts, has_events}
use Rattle.level_pieces.specs.PieceNumbers.{AreNumbered}
use Rattle.level_pieces.specs.FormedPieces.{AreFormed}
use Rattle.level_pieces.proofs.LeastLaws.{least_of, least_same}
use Rattle.level_pieces.proofs.OperandLaws.{operands_numbered, operands_formed}
use Rattle.level_weaving.specs.Answers.{AreLevels, AreWovenLevels, ItemCrosses, OneCrosses}
use Rattle.level_weaving.specs.JointItems.{joint_item_of}
use Rattle.level_weaving.proofs.LevelLaws.{empty_uncrossed}

-- ---- operands that no part has

-- ---- where the operands cross

module _ (cover : List (List ℕ)) (parts : List Piece) (q : Place) where
  some_list : (k n : ℕ) → OneCrosses cover (operand_lists cover parts k n) q → (j : ℕ) × ColumnsCross cover (operands_of cover j parts) q
  some_list k zero h = absurd h
  some_list k (suc n) (inl h) = (k, h)
  some_list k (suc n) (inr h) = some_list (suc k) n h

  one_list : (k n j : ℕ) → j < n → ColumnsCross cover (operands_of cover (k + j) parts) q → OneCrosses cover (operand_lists cover parts k n) q
  one_list k zero j lt h = absurd (omega (arith, lt))
  one_list k (suc n) zero lt h = let z : k + 0 ≡ k = omega arith in inl (subst (λ (m : ℕ). ColumnsCross cover (operands_of cover m parts) q) z h)
  one_list k (suc n) (suc j) lt h = let z : k + suc j ≡ suc k + j = omega arith in inr (one_list (suc k) n j (omega (arith, lt)) (subst (λ (m : ℕ). ColumnsCross cover (operands_of cover m parts) q) z h))

  one_of : (lists : List (List Piece)) → AreOperands cover parts lists → (j : ℕ) → ColumnsCross cover (operands_of cover j parts) q → OneCrosses cover lists q
  one_of lists are j h = elim (below j (length lists)) [
    | inl low ↦ subst (λ (l : List (List Piece)). OneCrosses cover l q) (sym are.are) (one_list 0 (length lists) j low (let z : j ≡ 0 + j = omega arith in subst (λ (m : ℕ). ColumnsCross cover (operands_of cover m parts) q) z h))
    | inr high ↦ absurd (empty_uncrossed (none_beyond cover (length lists) j parts are.enough high) h)
  ]
    where
      below : (a b : ℕ) → (a < b) ⊎ (b ≤ a)
      below zero zero = inr (omega arith)
      below zero (suc b) = inl (omega arith)
      below (suc a) zero = inr (omega arith)
      below (suc a) (suc b) = elim (below a b) [ inl l ↦ inl (omega (arith, l)) | inr g ↦ inr (omega (arith, g)) ]

  split_on : (n : ℕ) (lists : List (List Piece)) → OneCrosses cover (take n lists) q ⊎ OneCrosses cover (drop n lists) q → OneCrosses cover lists q
  split_on zero [] (inl h) = h
  split_on zero [] (inr h) = h
  split_on (suc n) [] (inl h) = h
  split_on (suc n) [] (inr h) = h
  split_on zero (ps ∷ lists) (inl h) = absurd h
  split_on zero (ps ∷ lists) (inr h) = h
  split_on (suc n) (ps ∷ lists) (inl (inl h)) = inl h
  split_on (suc n) (ps ∷ lists) (inl (inr h)) = inr (split_on n lists (inl h))
  split_on (suc n) (ps ∷ lists) (inr h) = inr (split_on n lists (inr h))

  split_of : (n : ℕ) (lists : List (List Piece)) → OneCrosses cover lists q → OneCrosses cover (take n lists) q ⊎ OneCrosses cover (drop n lists) q
  split_of zero [] h = absurd h
  split_of (suc n) [] h = absurd h
  split_of zero (ps ∷ lists) h = inr h
  split_of (suc n) (ps ∷ lists) (inl h) = inl (inl h)
  split_of (suc n) (ps ∷ lists) (inr h) = elim (split_of n lists h) [ inl l ↦ inl (inr l) | inr r ↦ inr r ]

-- the earliest place at which an item crosses
pub item_least : (level cover : List (List ℕ)) (p : Piece) (ps : List Piece) (lists : List (List Piece)) (n : ℕ) (a b : Option Place) → AreOperands cover (p ∷ ps) lists → cover ≡ cover_of level p
    → IsLeast (OneCrosses cover (take n lists)) a → IsLeast (OneCrosses cover (drop n lists)) b → IsLeast (ItemCrosses level (p ∷ ps)) (earliest_of b a)
item_least level cover p ps lists n a b are is f g =
    least_same (λ q. OneCrosses cover (drop n lists) q ⊎ OneCrosses cover (take n lists) q) (ItemCrosses level (p ∷ ps)) (earliest_of b a) on of (least_of (OneCrosses cover (drop n lists)) (OneCrosses cover (take n lists)) b a g f)
  where
    all : (q : Place) → OneCrosses cover lists q → ItemCrosses level (p ∷ ps) q
    all q h =
        let one = some_list cover (p ∷ ps) q 0 (length lists) (subst (λ (l : List (List Piece)). OneCrosses cover l q) are.are h) in
        (one.0, subst (λ (c : List (List ℕ)). ColumnsCross c (operands_of c one.0 (p ∷ ps)) q) is one.1)

    on : (q : Place) → OneCrosses cover (drop n lists) q ⊎ OneCrosses cover (take n lists) q → ItemCrosses level (p ∷ ps) q
    on q (inl h) = all q (split_on cover (p ∷ ps) q n lists (inr h))
    on q (inr h) = all q (split_on cover (p ∷ ps) q n lists (inl h))

    of : (q : Place) → ItemCrosses level (p ∷ ps) q → OneCrosses cover (drop n lists) q ⊎ OneCrosses cover (take n lists) q
    of q h =
        let one = one_of cover (p ∷ ps) q lists are h.0 (subst (λ (c : List (List ℕ)). ColumnsCross c (operands_of c h.0 (p ∷ ps)) q) (sym is) h.1) in
        elim (split_of cover (p ∷ ps) q n lists one) [ inl l ↦ inr l | inr r ↦ inl r ]

-- ---- what the operands are woven to

pub take_lists : (cover : List (List ℕ)) (parts : List Piece) (k n m : ℕ) → n ≤ m → take n (operand_lists cover parts k m) ≡ operand_lists cover parts k n
take_lists cover parts k zero zero le = refl
take_lists cover parts k zero (suc m) le = refl
take_lists cover parts k (suc n) zero le = absurd (omega (arith, le))
take_lists cover parts k (suc n) (suc m) le = ap (λ (l : List (List Piece)). operands_of cover k parts ∷ l) (take_lists cover parts (suc k) n m (omega (arith, le)))

operands_are : (cover : List (List ℕ)) (parts : List Piece) (k n : ℕ) (bs : List Body) → AreWovenLevels cover (operand_lists cover parts k n) bs → AreWovenOperands cover parts k n (bodies bs)
operands_are cover parts k zero [] h = no_woven_operand
operands_are cover parts k zero (b ∷ bs) h = absurd h
operands_are cover parts k (suc n) [] h = absurd h
operands_are cover parts k (suc n) (b ∷ bs) h = woven_operand_and h.0 (operands_are cover parts (suc k) n bs h.1)

pub own_operands : (cover : List (List ℕ)) (p : Piece) (ps : List Piece) (lists : List (List Piece)) (bs : List Body) → AreOperands cover (p ∷ ps) lists
    → AreWovenLevels cover (take (operand_number (operands_in p.form)) lists) bs → AreWovenOperands cover (p ∷ ps) 0 (operand_number (operands_in p.form)) (bodies bs)
own_operands cover p ps lists bs are h =
    let n : ℕ = operand_number (operands_in p.form) in
    operands_are cover (p ∷ ps) 0 n bs
    (subst (λ (l : List (List Piece)). AreWovenLevels cover l bs) (ap (take n) are.are ∙ take_lists cover (p ∷ ps) 0 n (length lists) are.enough.0) h)

none_woven : {cover : List (List ℕ)} {parts : List Piece} {k n : ℕ} {bs : Bodies} → AreWovenOperands cover parts k n bs → n ≡ 0 → bs ≡ no_bodies
none_woven no_woven_operand e = refl
none_woven (woven_operand_and w others) e = absurd (omega (arith, e))

module _ (level : List (List ℕ)) (p : Piece) (ps : List Piece) (bs : Bodies) (held : AreWovenOperands (cover_of level p) (p ∷ ps) 0 (operand_number (operands_in p.form)) bs)
    (events : has_events p.form ≡ false) (item : is_item p.form ≡ true) where
  pub joint_woven : IsWovenItem level (p ∷ ps) (joint_item_of (cover_of level p) p.place p.form bs)
  joint_woven = by p.form refl events item held
    where
      by : (f : Form) → p.form ≡ f → has_events f ≡ false → is_item f ≡ true → AreWovenOperands (cover_of level p) (p ∷ ps) 0 (operand_number (operands_in f)) bs → IsWovenItem level (p ∷ ps) (joint_item_of (cover_of level p) p.place f bs)
      by (Single e) is no_events an_item h = cc
      by (Coregion es) is no_events an_item h = cc
      by (Condition names shared) is no_events an_item h = cc
      by (Inline head inner) is no_events an_item h = an_inline is h
      by (Refer r) is no_events an_item h = a_reference is
      by Stop is no_events an_item h = cc

  lacks_by : (f : Form) → has_events f ≡ false → is_item f ≡ true → AreWovenOperands (cover_of level p) (p ∷ ps) 0 (operand_number (operands_in f)) bs → (q : Place)
      → (OneLacksPartner bs q → ItemLacksPartner (joint_item_of (cover_of level p) p.place f bs) q) × (ItemLacksPartner (joint_item_of (cover_of level p) p.place f bs) q → OneLacksPartner bs q)
  lacks_by (Single e) no_events an_item h q = cc
  lacks_by (Coregion es) no_events an_item h q = cc
  lacks_by (Condition names shared) no_events an_item h q = cc
  lacks_by (Inline head inner) no_events an_item h q = (operands_on q head.form bs, operands_lacking q head.form bs)
  lacks_by (Refer r) no_events an_item h q = (λ g. subst (λ (b : Bodies). OneLacksPartner b q) (none_woven h refl) g, λ g. absurd g)
  lacks_by Stop no_events an_item h q = cc

  pub joint_lacks : (alone : Option Place) → IsLeast (OneLacksPartner bs) alone → IsLeast (ItemLacksPartner (joint_item_of (cover_of level p) p.place p.form bs)) alone
  joint_lacks alone least =
      least_same (OneLacksPartner bs) (ItemLacksPartner (joint_item_of (cover_of level p) p.place p.form bs)) alone (λ q. (lacks_by p.form events item held q).0) (λ q. (lacks_by p.form events item held q).1) least

-- ---- the operands can be woven in turn

pub lists_levels : (cover : List (List ℕ)) (parts : List Piece) (k n : ℕ) → AreParts parts → AreLevels (operand_lists cover parts k n)
lists_levels cover parts k zero h = tt
lists_levels cover parts k (suc n) h = ((operands_numbered cover k parts h, operands_formed cover k parts h), lists_levels cover parts (suc k) n h)

pub take_levels : (n : ℕ) (pss : List (List Piece)) → AreLevels pss → AreLevels (take n pss)
take_levels zero [] h = tt
take_levels (suc n) [] h = tt
take_levels zero (ps ∷ pss) h = tt
take_levels (suc n) (ps ∷ pss) h = (h.0, take_levels n pss h.1)

pub drop_levels : (n : ℕ) (pss : List (List Piece)) → AreLevels pss → AreLevels (drop n pss)
drop_levels zero [] h = tt
drop_levels (suc n) [] h = tt
drop_levels zero (ps ∷ pss) h = h
drop_levels (suc n) (ps ∷ pss) h = drop_levels n pss h.1

pub level_at : (pss : List (List Piece)) (k : ℕ) (ps : List Piece) → AreLevels pss → slice_get pss k ≡ Some ps → AreNumbered 0 ps × AreFormed ps
level_at [] k ps h at = cc
level_at (qs ∷ pss) zero ps h at = let same : qs ≡ ps = cc in subst (λ (l : List Piece). AreNumbered 0 l × AreFormed l) same h.0
level_at (qs ∷ pss) (suc k) ps h at = level_at pss k ps h.1 at
