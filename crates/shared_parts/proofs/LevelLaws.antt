-- Where a level breaks a rule on parts: by its items, and by the levels of their operands.
use Rattle.std.proofs.Common.{◌≡◌, ◌↔◌, inl, inr, ◌<◌, ◌+◌, ℕ, zero, suc, Bool, true, false, cond, None, Some, List, [], ◌∷◌, ◌++◌, length, slice_get, refl, sym, ap, ap₂, subst, ◌∙◌, arith}
use Rattle.std.proofs.lemmas.Bool.{cases_lt}
use Rattle.msc_base.specs.Lists.{IsAmong}
use Rattle.msc_base.specs.declared.place.Place.{Place}
use Rattle.level_pieces.proofs.ItemLaws.{parts_named, parts_in_columns}
use Rattle.level_pieces.proofs.NoOperands.{none_beyond, no_operand, no_name}
use Rattle.msc_tree.specs.Statements.{Form, Single, Coregion, Condition, Inline, Refer, Stop}
use Rattle.msc_meaning.specs.LevelItems.{cover_by, cover_of, is_item, is_part_of, level_items, shared_of, with_piece, with_pieces}
use Rattle.msc_meaning.specs.Pieces.{Piece, operands_of}
use Rattle.level_pieces.specs.ItemOperands.{AreOperands, operand_lists}
use Rattle.level_pieces.specs.ItemParts.{has_events}
use Rattle.shared_parts.specs.Noting.{AreAllJoined, AreJoined, AreNoted, BreaksAt, DiffersAt, ItemBreaks, OneHolds, PartsBreak, noted}
use Rattle.shared_parts.specs.PartRules.{BreaksPartRule, here, inside, IsBroken, stands_first, IsUnshared, lacks_own, lacks_part, differs, unnamed}
use Rattle.shared_parts.specs.declared.faults.PartRule.{PartRule}
use Rattle.shared_parts.specs.declared.faults.PartRule.TheVariants.{NotShared, OperandsDiffer}
use Rattle.shared_parts.specs.declared.noting.PartPlaces.{PartPlaces}
use Rattle.shared_parts.proofs.Walked.{among_one, at_one, noted_both, noted_same, one_among, one_at}

-- ---- a level, by its items

module _ (rule : PartRule) (cover : List (List ℕ)) (q : Place) where
  item_of : (ps : List Piece) (x : ℕ) (parts : List Piece) → slice_get (level_items ps) x ≡ Some parts → ItemBreaks rule cover parts q → BreaksPartRule rule cover ps q
  item_of ps x [] at h = absurd h
  item_of ps x (p ∷ parts) at (inl own) = let r = among_one (BreaksAt rule cover (p ∷ parts)) (p ∷ parts) q own in here x (p ∷ parts) r.0 at r.1 r.2.0 r.2.1
  item_of ps x (p ∷ parts) at (inr inner) = inside x inner.0 p parts at inner.1

  pub items_break : (ps : List Piece) → OneHolds (ItemBreaks rule cover) (level_items ps) q → BreaksPartRule rule cover ps q
  items_break ps h = let r = at_one (ItemBreaks rule cover) (level_items ps) q h in item_of ps r.0 r.1 r.2 r.3

part_breaks : (rule : PartRule) (cover : List (List ℕ)) (parts : List Piece) (p : Piece) (q : Place) → IsAmong parts p → IsBroken rule cover parts p → p.place ≡ q → ItemBreaks rule cover parts q
part_breaks rule cover [] p q at broken place = absurd at
part_breaks rule cover (start ∷ others) p q at broken place = inl (one_among (BreaksAt rule cover (start ∷ others)) (start ∷ others) p q at (broken, place))

pub break_items : (rule : PartRule) (cover : List (List ℕ)) (ps : List Piece) (q : Place) → BreaksPartRule rule cover ps q → OneHolds (ItemBreaks rule cover) (level_items ps) q
break_items rule cover ps q (here x parts p at among broken place) = one_at (ItemBreaks rule cover) (level_items ps) x parts q at (part_breaks rule cover parts p q among broken place)
break_items rule cover ps q (inside x k p parts at inner) = one_at (ItemBreaks rule cover) (level_items ps) x (p ∷ parts) q at (inr (k, inner))

pub level_breaks : (rule : PartRule) (cover : List (List ℕ)) (ps : List Piece) (q : Place) → OneHolds (ItemBreaks rule cover) (level_items ps) q ↔ BreaksPartRule rule cover ps q
level_breaks rule cover ps q = (items_break rule cover q ps, break_items rule cover ps q)

-- nothing is broken where nothing stands
pub none_breaks : (rule : PartRule) (cover : List (List ℕ)) (ps : List Piece) (q : Place) → ps ≡ [] → BreaksPartRule rule cover ps q → ⊥
none_breaks rule cover ps q none h = subst (λ (l : List Piece). OneHolds (ItemBreaks rule cover) (level_items l) q) none (break_items rule cover ps q h)

-- ---- the operands of an item

module _ (rule : PartRule) (cover : List (List ℕ)) (parts : List Piece) (q : Place) where
  some_list : (k n : ℕ) → OneHolds (BreaksPartRule rule cover) (operand_lists cover parts k n) q → (j : ℕ) × BreaksPartRule rule cover (operands_of cover j parts) q
  some_list k zero h = absurd h
  some_list k (suc n) (inl h) = (k, h)
  some_list k (suc n) (inr h) = some_list (suc k) n h

  one_list : (k n j : ℕ) → j < n → BreaksPartRule rule cover (operands_of cover (k + j) parts) q → OneHolds (BreaksPartRule rule cover) (operand_lists cover parts k n) q
  one_list k zero j lt h = absurd (omega (arith, lt))
  one_list k (suc n) zero lt h = let z : k + 0 ≡ k = omega arith in inl (subst (λ (m : ℕ). BreaksPartRule rule cover (operands_of cover m parts) q) z h)
  one_list k (suc n) (suc j) lt h = let z : k + suc j ≡ suc k + j = omega arith in inr (one_list (suc k) n j (omega (arith, lt)) (subst (λ (m : ℕ). BreaksPartRule rule cover (operands_of cover m parts) q) z h))

  pub operands_break : (lists : List (List Piece)) → AreOperands cover parts lists → OneHolds (BreaksPartRule rule cover) lists q ↔ ((k : ℕ) × BreaksPartRule rule cover (operands_of cover k parts) q)
  operands_break lists are = (
    λ h. some_list 0 (length lists) (subst (λ (l : List (List Piece)). OneHolds (BreaksPartRule rule cover) l q) are.are h),
    λ h. elim (cases_lt h.0 (length lists)) [
      | inl low ↦ subst (λ (l : List (List Piece)). OneHolds (BreaksPartRule rule cover) l q) (sym are.are) (one_list 0 (length lists) h.0 low (let z : h.0 ≡ 0 + h.0 = omega arith in subst (λ (m : ℕ). BreaksPartRule rule cover (operands_of cover m parts) q) z h.1))
      | inr high ↦ absurd (none_breaks rule cover (operands_of cover h.0 parts) q (none_beyond cover (length lists) h.0 parts are.enough high) h.1)
    ],
  )

-- ---- the items of a level have such parts

joined_more : (x : List Piece) (p : Piece) → AreJoined x → is_part_of p x ≡ true → AreJoined (x ++ p ∷ [])
joined_more [] p g is = absurd g
joined_more (q ∷ qs) p g is = (parts_named q p qs qs is, parts_in_columns q p qs qs is g.1)

joined_with : (xs : List (List Piece)) (p : Piece) → AreAllJoined xs → AreAllJoined (with_piece xs p)
joined_with [] p g = ((tt, tt), tt)
joined_with (x ∷ xs) p g = by (is_part_of p x) refl (joined_with xs p g.1)
  where
    by : (b : Bool) → is_part_of p x ≡ b → AreAllJoined (with_piece xs p) → AreAllJoined (cond b ((x ++ p ∷ []) ∷ xs) (x ∷ with_piece xs p))
    by true e rest = (joined_more x p g.0 e, g.1)
    by false e rest = (g.0, rest)

joined_from : (xs : List (List Piece)) (ps : List Piece) → AreAllJoined xs → AreAllJoined (with_pieces xs ps)
joined_from xs [] g = g
joined_from xs (p ∷ ps) g = by (is_item p.form) (joined_from (with_piece xs p) ps (joined_with xs p g)) (joined_from xs ps g)
  where
    by : (b : Bool) → AreAllJoined (with_pieces (with_piece xs p) ps) → AreAllJoined (with_pieces xs ps) → AreAllJoined (with_pieces (cond b (with_piece xs p) xs) ps)
    by true one other = one
    by false one other = other

pub level_joined : (ps : List Piece) → AreAllJoined (level_items ps)
level_joined ps = joined_from [] ps tt

pub joined_at : (xs : List (List Piece)) (x : ℕ) (parts : List Piece) → AreAllJoined xs → slice_get xs x ≡ Some parts → AreJoined parts
joined_at [] x parts g at = cc
joined_at (y ∷ xs) zero parts g at = let same : y ≡ parts = cc in subst (λ (z : List Piece). AreJoined z) same g.0
joined_at (y ∷ xs) (suc x) parts g at = joined_at xs x parts g.1 at

-- ---- events and coregions

no_list : (f : Form) → has_events f ≡ true → shared_of f ≡ None
no_list (Single e) h = refl
no_list (Coregion es) h = refl
no_list (Condition names shared) h = cc
no_list (Inline head held) h = cc
no_list (Refer r) h = cc
no_list Stop h = cc

event_cover : (level : List (List ℕ)) (p : Piece) (i : List ℕ) → has_events p.form ≡ true → p.column ≡ Some i → cover_of level p ≡ i ∷ []
event_cover level p i h stands = ap₂ (cover_by level p.leads) stands (no_list p.form h)

event_shared : (level : List (List ℕ)) (p : Piece) → has_events p.form ≡ true → IsUnshared level (p ∷ []) p → ⊥
event_shared level p h (lacks_own column stands lacks) = lacks (subst (λ (l : List (List ℕ)). IsAmong l column) (sym (event_cover level p column h stands)) (inl refl))
event_shared level p h (lacks_part column other stands among none) =
    elim (subst (λ (l : List (List ℕ)). IsAmong l other) (event_cover level p column h stands) among) [ inl e ↦ none (stands_first (stands ∙ ap Some (sym e)) refl) | inr f ↦ absurd f ]
event_shared level p h (differs column q stands there other) = elim there [ inl e ↦ other (ap (cover_of level) e) | inr f ↦ absurd f ]
event_shared level p h (unnamed column one other rest stands none several) = let e : column ∷ [] ≡ one ∷ other ∷ rest = sym (event_cover level p column h stands) ∙ several in cc

event_unbroken : (rule : PartRule) (level : List (List ℕ)) (p : Piece) → has_events p.form ≡ true → IsBroken rule level (p ∷ []) p → ⊥
event_unbroken NotShared level p h broken = event_shared level p h broken
event_unbroken OperandsDiffer level p h broken = broken.0

event_alone : (rule : PartRule) (level : List (List ℕ)) (p : Piece) (q : Place) → has_events p.form ≡ true → ItemBreaks rule level (p ∷ []) q → ⊥
event_alone rule level p q h (inl (inl own)) = event_unbroken rule level p h own.0
event_alone rule level p q h (inl (inr f)) = absurd f
event_alone rule level p q h (inr inner) =
    none_breaks rule (cover_of level p) (operands_of (cover_of level p) inner.0 (p ∷ [])) q (ap (λ (l : List Piece). l ++ []) (no_operand (cover_of level p) inner.0 p p.form h)) inner.1

-- an event or a coregion breaks no rule
pub event_keeps : (rule : PartRule) (level : List (List ℕ)) (p : Piece) (ps : List Piece) (q : Place) → AreJoined (p ∷ ps) → has_events p.form ≡ true → ItemBreaks rule level (p ∷ ps) q → ⊥
event_keeps rule level p [] q joined h broken = event_alone rule level p q h broken
event_keeps rule level p (r ∷ ps) q joined h broken = joined.0 (no_name p.form h)

-- ---- the parts that differ are those behind the first that do

pub parts_differ : (level : List (List ℕ)) (start : Piece) (others : List Piece) (q : Place) → OneHolds (DiffersAt start) others q ↔ PartsBreak OperandsDiffer level (start ∷ others) q
parts_differ level start others q = (
  λ h. let r = among_one (DiffersAt start) others q h in one_among (BreaksAt OperandsDiffer level (start ∷ others)) (start ∷ others) r.0 q (inr r.1) ((r.1, r.2.0), r.2.1),
  λ h. let r = among_one (BreaksAt OperandsDiffer level (start ∷ others)) (start ∷ others) q h in one_among (DiffersAt start) others r.0 q r.2.0.0 (r.2.0.1, r.2.1),
)

-- what is noted for each of the rules
pub parts_noted : (level : List (List ℕ)) (start : Piece) (others : List Piece) (old new : PartPlaces) → AreNoted (PartsBreak NotShared level (start ∷ others)) old.not_shared new.not_shared
    → AreNoted (OneHolds (DiffersAt start) others) old.differing new.differing → (rule : PartRule) → AreNoted (PartsBreak rule level (start ∷ others)) (noted rule old) (noted rule new)
parts_noted level start others old new shared alike NotShared = shared
parts_noted level start others old new shared alike OperandsDiffer =
    noted_same (OneHolds (DiffersAt start) others) (PartsBreak OperandsDiffer level (start ∷ others)) old.differing new.differing (parts_differ level start others) alike

-- an item, by its own parts and its operands
pub item_noted : (rule : PartRule) (level cover : List (List ℕ)) (p : Piece) (ps : List Piece) (lists : List (List Piece)) (old now new : List Place) → cover ≡ cover_of level p → AreOperands cover (p ∷ ps) lists
    → AreNoted (PartsBreak rule level (p ∷ ps)) old now → AreNoted (OneHolds (BreaksPartRule rule cover) lists) now new → AreNoted (ItemBreaks rule level (p ∷ ps)) old new
item_noted rule level cover p ps lists old now new is are own inner =
    noted_both (PartsBreak rule level (p ∷ ps)) (λ q. (k : ℕ) × BreaksPartRule rule (cover_of level p) (operands_of (cover_of level p) k (p ∷ ps)) q) old now new own
    (subst (λ (c : List (List ℕ)). AreNoted (λ q. (k : ℕ) × BreaksPartRule rule c (operands_of c k (p ∷ ps)) q) now new) is
    (noted_same (OneHolds (BreaksPartRule rule cover) lists) (λ q. (k : ℕ) × BreaksPartRule rule cover (operands_of cover k (p ∷ ps)) q) now new (λ q. operands_break rule cover (p ∷ ps) q lists are) inner))

-- a level, by its items
pub level_noted : (rule : PartRule) (cover : List (List ℕ)) (ps : List Piece) (xs : List (List Piece)) (old new : List Place) → xs ≡ level_items ps → AreNoted (OneHolds (ItemBreaks rule cover) xs) old new
    → AreNoted (BreaksPartRule rule cover ps) old new
level_noted rule cover ps xs old new are h =
    noted_same (OneHolds (ItemBreaks rule cover) (level_items ps)) (BreaksPartRule rule cover ps) old new (level_breaks rule cover ps)
    (subst (λ (l : List (List Piece)). AreNoted (OneHolds (ItemBreaks rule cover) l) old new) are h)
