-- Steps of the walks that gather items or levels and note the references of each level.
use Rattle.std.proofs.Common.{◌≡◌, ◌<◌, ◌+◌, ℕ, zero, suc, false, true, List, Vec, [], ◌∷◌, ◌++◌, append_assoc, get_or, length, map, take, refl, sym, subst, ap, ◌∙◌, arith}
use Rattle.std.specs.Global.{Global}
use Rattle.std.proofs.lemmas.List.{append-nil, map-append, take_more}
use Rattle.msc_tree.specs.Statements.{Form, Reference, Single, Coregion, Condition, Inline, Refer, Stop}
use Rattle.msc_meaning.specs.Bodies.{Body, Bodies, WovenItem, WovenItems, bodies, item_and, items, level, no_items}
use Rattle.msc_meaning.specs.LevelItems.{cover_of, is_item, level_items}
use Rattle.msc_meaning.specs.Levels.{IsWovenItem, a_reference, operand_number}
use Rattle.msc_meaning.specs.Pieces.{Piece}
use Rattle.msc_meaning.specs.Views.{body_view, item_view}
use Rattle.msc_meaning.specs.declared.body.Body as code_body
use Rattle.msc_meaning.specs.declared.body.Item as code_made
use Rattle.level_pieces.specs.ItemOperands.{AreOperands, operand_lists, operands_in, pieces_view}
use Rattle.level_pieces.specs.ItemParts.{AreParts, has_events}
use Rattle.level_pieces.specs.PieceViews.{parts_view}
use Rattle.level_pieces.specs.declared.pieces.LevelItem as code_item
use Rattle.level_pieces.specs.declared.pieces.Piece as code
use Rattle.level_pieces.proofs.NoOperands.{no_name}
use Rattle.level_weaving.specs.JointItems.{joint_item_of}
use Rattle.level_weaving.proofs.JointLaws.{take_lists}
use Rattle.level_gathering.specs.Gathered.{AreGatheredItems, AreGatheredOperands, IsGatheredItem, IsGatheredLevel, an_inline, as_woven, gathered, gathered_and, gathered_operand_and, is_inline, no_gathered_operand, none_gathered, references_of}
use Rattle.level_gathering.specs.Noting.{AreGatheredLevels, IsNoted, level_and, no_level}

-- ---- what is noted

pub noted_none : (Is : List (List Reference) → Type 0) (old : List (List Reference)) → Is [] → IsNoted Is old old
noted_none Is old is = record { inner = []; is = is; adds = sym (append-nil old) }

pub noted_more : (One Other Both : List (List Reference) → Type 0) (a b c : List (List Reference)) → ((x y : List (List Reference)) → One x → Other y → Both (x ++ y)) → IsNoted One a b → IsNoted Other b c → IsNoted Both a c
noted_more One Other Both a b c both h k = record {
  inner = h.inner ++ k.inner;
  is = both h.inner k.inner h.is k.is;
  adds = k.adds ∙ ap (λ (l : List (List Reference)). l ++ k.inner) h.adds ∙ append_assoc a h.inner k.inner;
}

-- ---- a level

pub level_noted : (cover : List (List ℕ)) (ps : List Piece) (held : WovenItems) (a b c : List (List Reference)) → b ≡ a ++ references_of ps ∷ [] → IsNoted (AreGatheredItems cover (level_items ps) held) b c
    → IsNoted (IsGatheredLevel cover ps (level cover held [])) a c
level_noted cover ps held a b c pushed h = record {
  inner = references_of ps ∷ h.inner;
  is = gathered h.is;
  adds = h.adds ∙ ap (λ (l : List (List Reference)). l ++ h.inner) pushed ∙ append_assoc a (references_of ps ∷ []) h.inner;
}

-- ---- one more

pub items_on : {cover : List (List ℕ)} {x y : List (List Reference)} (all : List (List Piece)) (held : List WovenItem) (parts : List Piece) (i : WovenItem) → AreGatheredItems cover all (items held) x
    → IsGatheredItem cover parts i y → AreGatheredItems cover (all ++ parts ∷ []) (items (held ++ i ∷ [])) (x ++ y)
items_on {cover = cover} {y = y} [] [] parts i none_gathered is = subst (λ (l : List (List Reference)). AreGatheredItems cover (parts ∷ []) (item_and i no_items) l) (append-nil y) (gathered_and is none_gathered)
items_on [] (h ∷ held) parts i w is = elim w [ ]
items_on (qs ∷ all) [] parts i w is = elim w [ ]
items_on {cover = cover} {y = y} (qs ∷ all) (h ∷ held) parts i (gathered_and {own = own} {behind = behind} a b) is =
    subst (λ (l : List (List Reference)). AreGatheredItems cover (qs ∷ (all ++ parts ∷ [])) (item_and h (items (held ++ i ∷ []))) l) (sym (append_assoc own behind y)) (gathered_and a (items_on all held parts i b is))

pub levels_on : {cover : List (List ℕ)} {x y : List (List Reference)} (pss : List (List Piece)) (bs : List Body) (ps : List Piece) (b : Body) → AreGatheredLevels cover pss bs x → IsGatheredLevel cover ps b y
    → AreGatheredLevels cover (pss ++ ps ∷ []) (bs ++ b ∷ []) (x ++ y)
levels_on {cover = cover} {y = y} [] [] ps b no_level is = subst (λ (l : List (List Reference)). AreGatheredLevels cover (ps ∷ []) (b ∷ []) l) (append-nil y) (level_and is no_level)
levels_on [] (d ∷ bs) ps b w is = elim w [ ]
levels_on (qs ∷ pss) [] ps b w is = elim w [ ]
levels_on {cover = cover} {y = y} (qs ∷ pss) (d ∷ bs) ps b (level_and {own = own} {behind = behind} g h) is =
    subst (λ (l : List (List Reference)). AreGatheredLevels cover (qs ∷ (pss ++ ps ∷ [])) (d ∷ (bs ++ b ∷ [])) l) (sym (append_assoc own behind y)) (level_and g (levels_on pss bs ps b h is))

-- ---- an item

-- an event or a coregion
pub event_gathered : (outer : List (List ℕ)) (p : Piece) (others : List Piece) (item : WovenItem) → AreParts (p ∷ others) → has_events p.form ≡ true → IsWovenItem outer (p ∷ []) item → IsGatheredItem outer (p ∷ others) item []
event_gathered outer p [] item are is w = as_woven (by p.form is) w
  where
    by : (f : Form) → has_events f ≡ true → is_inline f ≡ false
    by (Single e) h = refl
    by (Coregion es) h = refl
    by (Condition names shared) h = refl
    by (Inline head held) h = cc
    by (Refer r) h = refl
    by Stop h = refl
event_gathered outer p (q ∷ others) item are is w = absurd (are.1 (no_name p.form is))

operands_are : (cover : List (List ℕ)) (parts : List Piece) (k n : ℕ) (bs : List Body) {x : List (List Reference)} → AreGatheredLevels cover (operand_lists cover parts k n) bs x → AreGatheredOperands cover parts k n (bodies bs) x
operands_are cover parts k zero [] no_level = no_gathered_operand
operands_are cover parts k zero (b ∷ bs) h = elim h [ ]
operands_are cover parts k (suc n) [] h = elim h [ ]
operands_are cover parts k (suc n) (b ∷ bs) (level_and g h) = gathered_operand_and g (operands_are cover parts (suc k) n bs h)

none_of : {cover : List (List ℕ)} {parts : List Piece} {k n : ℕ} {bs : Bodies} {x : List (List Reference)} → AreGatheredOperands cover parts k n bs x → n ≡ 0 → x ≡ []
none_of no_gathered_operand e = refl
none_of (gathered_operand_and g h) e = absurd (omega (arith, e))

-- an inline expression, whose operands are gathered, or a reference
pub joint_gathered : (outer : List (List ℕ)) (p : Piece) (ps : List Piece) (bs : List Body) (x : List (List Reference)) → has_events p.form ≡ false → is_item p.form ≡ true
    → AreGatheredLevels (cover_of outer p) (operand_lists (cover_of outer p) (p ∷ ps) 0 (operand_number (operands_in p.form))) bs x
    → IsGatheredItem outer (p ∷ ps) (joint_item_of (cover_of outer p) p.place p.form (bodies bs)) x
joint_gathered outer p ps bs x events item held = by p.form refl events item (operands_are (cover_of outer p) (p ∷ ps) 0 (operand_number (operands_in p.form)) bs held)
  where
    by : (f : Form) → p.form ≡ f → has_events f ≡ false → is_item f ≡ true → AreGatheredOperands (cover_of outer p) (p ∷ ps) 0 (operand_number (operands_in f)) (bodies bs) x
        → IsGatheredItem outer (p ∷ ps) (joint_item_of (cover_of outer p) p.place f (bodies bs)) x
    by (Single e) is no_events an_item h = cc
    by (Coregion es) is no_events an_item h = cc
    by (Condition names shared) is no_events an_item h = cc
    by (Inline head inner) is no_events an_item h = an_inline is h
    by (Refer r) is no_events an_item h =
        let made : WovenItem = joint_item_of (cover_of outer p) p.place (Refer r) (bodies bs) in
        subst (λ (l : List (List Reference)). IsGatheredItem outer (p ∷ ps) made l) (sym (none_of h refl)) (as_woven (ap is_inline is) (a_reference is))
    by Stop is no_events an_item h = cc

-- the same, by the operands of all its parts, of which as many are gathered as its first part has
pub joint_noted : (outer cover : List (List ℕ)) (p : Piece) (ps : List Piece) (lists : List (List Piece)) (bs : List Body) (n : ℕ) (old new : List (List Reference)) → AreOperands cover (p ∷ ps) lists → cover ≡ cover_of outer p
    → n ≡ operand_number (operands_in p.form) → has_events p.form ≡ false → is_item p.form ≡ true → IsNoted (AreGatheredLevels cover (take n lists) bs) old new
    → IsNoted (IsGatheredItem outer (p ∷ ps) (joint_item_of cover p.place p.form (bodies bs))) old new
joint_noted outer cover p ps lists bs n old new are is count events item h =
    let own : take n lists ≡ operand_lists cover (p ∷ ps) 0 (operand_number (operands_in p.form)) =
    ap (λ (k : ℕ). take k lists) count ∙ ap (take (operand_number (operands_in p.form))) are.are ∙ take_lists cover (p ∷ ps) 0 (operand_number (operands_in p.form)) (length lists) are.enough.0 in
    let held : IsNoted (AreGatheredLevels cover (operand_lists cover (p ∷ ps) 0 (operand_number (operands_in p.form))) bs) old new = subst (λ (l : List (List Piece)). IsNoted (AreGatheredLevels cover l bs) old new) own h in
    let moved : IsNoted (AreGatheredLevels (cover_of outer p) (operand_lists (cover_of outer p) (p ∷ ps) 0 (operand_number (operands_in p.form))) bs) old new =
    subst (λ (c : List (List ℕ)). IsNoted (AreGatheredLevels c (operand_lists c (p ∷ ps) 0 (operand_number (operands_in p.form))) bs) old new) is held in
    let made : IsNoted (IsGatheredItem outer (p ∷ ps) (joint_item_of (cover_of outer p) p.place p.form (bodies bs))) old new = record {
      inner = moved.inner;
      is = joint_gathered outer p ps bs moved.inner events item moved.is;
      adds = moved.adds;
    } in
    subst (λ (c : List (List ℕ)). IsNoted (IsGatheredItem outer (p ∷ ps) (joint_item_of c p.place p.form (bodies bs))) old new) (sym is) made

-- ---- one more of those of the code

pub item_more : (cover : List (List ℕ)) (all : List code_item.LevelItem) (k : ℕ) (item : code_item.LevelItem) (held longer : List code_made.Item) (made : code_made.Item) (a b c : List (List Reference)) → k < length all
    → item ≡ get_or all k item → longer ≡ held ++ made ∷ [] → IsNoted (AreGatheredItems cover (map parts_view (take k all)) (items (map item_view held))) a b → IsNoted (IsGatheredItem cover (parts_view item) (item_view made)) b c
    → IsNoted (AreGatheredItems cover (map parts_view (take (k + 1) all)) (items (map item_view longer))) a c
item_more cover all k item held longer made a b c low is pushed h one =
    let more : map parts_view (take (k + 1) all) ≡ map parts_view (take k all) ++ parts_view item ∷ [] =
    ap (map parts_view) (take_more all k item low ∙ ap (λ (x : code_item.LevelItem). take k all ++ x ∷ []) (sym is)) ∙ map-append parts_view (take k all) (item ∷ []) in
    let shown : map item_view longer ≡ map item_view held ++ item_view made ∷ [] = ap (map item_view) pushed ∙ map-append item_view held (made ∷ []) in
    subst (λ (l : List (List Piece)). IsNoted (AreGatheredItems cover l (items (map item_view longer))) a c) (sym more)
    (subst (λ (is : List WovenItem). IsNoted (AreGatheredItems cover (map parts_view (take k all) ++ parts_view item ∷ []) (items is)) a c) (sym shown)
    (noted_more (AreGatheredItems cover (map parts_view (take k all)) (items (map item_view held))) (IsGatheredItem cover (parts_view item) (item_view made))
    (AreGatheredItems cover (map parts_view (take k all) ++ parts_view item ∷ []) (items (map item_view held ++ item_view made ∷ []))) a b c
    (λ x y g w. items_on (map parts_view (take k all)) (map item_view held) (parts_view item) (item_view made) g w) h one))

pub level_more : (cover : List (List ℕ)) (all : List (Vec code.Piece Global)) (k : ℕ) (pieces : Vec code.Piece Global) (held longer : List code_body.Body) (made : code_body.Body) (a b c : List (List Reference)) → k < length all
    → pieces ≡ get_or all k pieces → longer ≡ held ++ made ∷ [] → IsNoted (AreGatheredLevels cover (map pieces_view (take k all)) (map body_view held)) a b → IsNoted (IsGatheredLevel cover (pieces_view pieces) (body_view made)) b c
    → IsNoted (AreGatheredLevels cover (map pieces_view (take (k + 1) all)) (map body_view longer)) a c
level_more cover all k pieces held longer made a b c low is pushed h one =
    let more : map pieces_view (take (k + 1) all) ≡ map pieces_view (take k all) ++ pieces_view pieces ∷ [] =
    ap (map pieces_view) (take_more all k pieces low ∙ ap (λ (x : Vec code.Piece Global). take k all ++ x ∷ []) (sym is)) ∙ map-append pieces_view (take k all) (pieces ∷ []) in
    let shown : map body_view longer ≡ map body_view held ++ body_view made ∷ [] = ap (map body_view) pushed ∙ map-append body_view held (made ∷ []) in
    subst (λ (l : List (List Piece)). IsNoted (AreGatheredLevels cover l (map body_view longer)) a c) (sym more)
    (subst (λ (bs : List Body). IsNoted (AreGatheredLevels cover (map pieces_view (take k all) ++ pieces_view pieces ∷ []) bs) a c) (sym shown)
    (noted_more (AreGatheredLevels cover (map pieces_view (take k all)) (map body_view held)) (IsGatheredLevel cover (pieces_view pieces) (body_view made))
    (AreGatheredLevels cover (map pieces_view (take k all) ++ pieces_view pieces ∷ []) (map body_view held ++ body_view made ∷ [])) a b c
    (λ x y g w. levels_on (map pieces_view (take k all)) (map body_view held) (pieces_view pieces) (body_view made) g w) h one))
