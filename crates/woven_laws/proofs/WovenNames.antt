-- The charts that a body names, as it is woven and as it is gathered, are those of the links of its text.
use Rattle.std.proofs.Common.{◌≡◌, ℕ, ◌≤◌, ◌+◌, inl, inr, List, [], ◌∷◌, map, refl, sym, subst, arith}
use Rattle.std.specs.List.{flat_map}
use Rattle.chart_links.specs.Links.{Link, Refers, chart_links, depth_of, expression_links, linked, passage_links, parts_links, used_links}
use Rattle.chart_text.proofs.StandingLaws.{IsMovable, each_right}
use Rattle.chart_text.specs.Texts.{Passage, Scope, Whole, a_head, a_statement, an_item, an_operand, chart_text, content_text, covered_scope, own_scope}
use Rattle.chart_text.specs.WellFormed.{Each}
use Rattle.gate_ends.specs.FoundEnds.{item_names, items_names, level_names, operands_names}
use Rattle.level_gathering.specs.Gathered.{AreGatheredItems, AreGatheredOperands, IsGatheredItem, IsGatheredLevel, as_woven, gathered, gathered_and, gathered_operand_and, no_gathered_operand, none_gathered}
use Rattle.level_gathering.specs.Gathered as gathering
use Rattle.level_pieces.proofs.PieceTexts.{operand_are, parts_operands, statements_are}
use Rattle.level_pieces.specs.FormedPieces.{EachPiece, piece_text}
use Rattle.list_facts.proofs.Members.{among_either, among_left, among_right}
use Rattle.msc_base.specs.Lists.{IsAmong}
use Rattle.msc_base.specs.declared.place.Place.{Place}
use Rattle.msc_instances.specs.Instances.{instances}
use Rattle.msc_meaning.specs.Bodies.{Bodies, Body, WovenItem, WovenItems}
use Rattle.msc_meaning.specs.InnerEvents.{charts_in, charts_in_all}
use Rattle.msc_meaning.specs.LevelItems.{level_items}
use Rattle.msc_meaning.specs.Levels.{AreWovenItems, AreWovenOperands, IsWovenItem, IsWovenLevel, a_coregion, a_reference, an_event, an_inline, no_woven, no_woven_operand, woven, woven_and, woven_operand_and}
use Rattle.msc_meaning.specs.Pieces.{Piece, operands_of, statements_pieces}
use Rattle.msc_tree.specs.Charts.{Basic, Chart, Content}
use Rattle.msc_tree.specs.Expressions.{Expression, Empty, Alt, Par, Seq, Opt, Loop, Expressions, none, more}
use Rattle.msc_tree.specs.Expressions as expression
use Rattle.msc_tree.specs.Statements.{Form, Single, Coregion, Condition, Inline, Refer, Stop, Reference, Statement, statements}
use Rattle.woven_laws.specs.BuiltCharts.{IsLinked}
use Rattle.woven_laws.proofs.EachPiece.{EachOfAll, level_each, parts_each}

-- ---- expressions

-- a link so deep at least names the chart
pub record IsLinkedAt (links : List Link) (depth : ℕ) (name : List ℕ) : Type 0 where
  pub link : Link
  pub says : IsAmong links link
  pub is : linked link ≡ name
  pub deep : depth ≤ depth_of link

raised : (links : List Link) (depth : ℕ) (name : List ℕ) → IsLinkedAt links (depth + 1) name → IsLinkedAt links depth name
raised links depth name h = record { link = h.link; says = h.says; is = h.is; deep = omega (arith, h.deep) }

mutual
  pub expression_linked : (place : Place) (scope : Scope) (depth : ℕ) (e : Expression) (name : List ℕ) → IsAmong (charts_in e) name → IsLinkedAt (expression_links place scope depth e) depth name
  expression_linked place scope depth Empty name h = absurd h
  expression_linked place scope depth (expression.Chart n) name (inl e) = record { link = Refers n place scope depth; says = inl refl; is = sym e; deep = omega arith }
  expression_linked place scope depth (expression.Chart n) name (inr h) = absurd h
  expression_linked place scope depth (Alt parts) name h = raised (parts_links place scope (depth + 1) parts) depth name (parts_linked place scope (depth + 1) parts name h)
  expression_linked place scope depth (Par parts) name h = raised (parts_links place scope (depth + 1) parts) depth name (parts_linked place scope (depth + 1) parts name h)
  expression_linked place scope depth (Seq parts) name h = raised (parts_links place scope (depth + 1) parts) depth name (parts_linked place scope (depth + 1) parts name h)
  expression_linked place scope depth (Opt part) name h = raised (expression_links place scope (depth + 1) part) depth name (expression_linked place scope (depth + 1) part name h)
  expression_linked place scope depth (Loop lower upper part) name h = raised (expression_links place scope (depth + 1) part) depth name (expression_linked place scope (depth + 1) part name h)

  parts_linked : (place : Place) (scope : Scope) (depth : ℕ) (xs : Expressions) (name : List ℕ) → IsAmong (charts_in_all xs) name → IsLinkedAt (parts_links place scope depth xs) depth name
  parts_linked place scope depth none name h = absurd h
  parts_linked place scope depth (more x xs) name h =
      let mine = expression_links place scope depth x in
      let others = parts_links place scope depth xs in
      elim (among_either (charts_in x) (charts_in_all xs) name h) [
        | inl a ↦ let r = expression_linked place scope depth x name a in record { link = r.link; says = among_left mine others r.link r.says; is = r.is; deep = r.deep }
        | inr b ↦ let r = parts_linked place scope depth xs name b in record { link = r.link; says = among_right mine others r.link r.says; is = r.is; deep = r.deep }
      ]

-- ---- passages

-- the charts that an item by itself names
abbrev form_names : Form → List (List ℕ)
form_names (Refer r) = charts_in r.expression
form_names (Single e) = []
form_names (Coregion es) = []
form_names (Condition names shared) = []
form_names (Inline head held) = []
form_names Stop = []

abbrev passage_names : Passage → List (List ℕ)
passage_names (a_head decl) = []
passage_names (a_statement depth scope x) = []
passage_names (an_item s place f) = form_names f
passage_names (an_operand s x) = []

passage_linked : (p : Passage) (name : List ℕ) → IsAmong (passage_names p) name → IsLinked (passage_links p) name
passage_linked (a_head decl) name h = absurd h
passage_linked (a_statement depth scope x) name h = absurd h
passage_linked (an_item s place (Refer r)) name h =
    let here = expression_linked place (covered_scope s.scope (own_scope s.side) r.shared) (s.depth + 3) r.expression name h in
    record { link = here.link; says = here.says; is = here.is; deep = omega (arith, here.deep) }
passage_linked (an_item s place (Single e)) name h = absurd h
passage_linked (an_item s place (Coregion es)) name h = absurd h
passage_linked (an_item s place (Condition names shared)) name h = absurd h
passage_linked (an_item s place (Inline head held)) name h = absurd h
passage_linked (an_item s place Stop) name h = absurd h
passage_linked (an_operand s x) name h = absurd h

module _ (links : List Link) where
  -- each chart that the passage names is linked, wherever the passage stands
  abbrev IsLinkedPassage : Passage → Type 0
  IsLinkedPassage p = (name : List ℕ) → IsAmong (passage_names p) name → IsLinked links name

  linked_movable : IsMovable IsLinkedPassage
  linked_movable = record {
    item = λ s t place f b h. h;
    statement = λ m n v w x h. h;
    operand = λ s t x h. h;
  }

  each_linked : (text : List Passage) → ((link : Link) → IsAmong (flat_map passage_links text) link → IsAmong links link) → Each IsLinkedPassage text
  each_linked [] f = tt
  each_linked (p ∷ text) f = (own, each_linked text (λ link a. f link (among_right (passage_links p) (flat_map passage_links text) link a)))
    where
      own : IsLinkedPassage p
      own name h =
          let here = passage_linked p name h in
          record { link = here.link; says = f here.link (among_left (passage_links p) (flat_map passage_links text) here.link here.says); is = here.is; deep = here.deep }

  -- ---- pieces

  abbrev IsLinkedPiece : Piece → Type 0
  IsLinkedPiece p = Each IsLinkedPassage (piece_text p)

  operands_linked : (cover : List (List ℕ)) (k : ℕ) (ps : List Piece) → EachPiece IsLinkedPiece ps → EachPiece IsLinkedPiece (operands_of cover k ps)
  operands_linked cover k ps h = parts_operands IsLinkedPiece cover k ps (λ p g. operand_are IsLinkedPassage linked_movable cover k p g) h

  -- the reference of a piece
  refers_linked : (p : Piece) (f : Form) → p.form ≡ f → IsLinkedPiece p → (name : List ℕ) → IsAmong (form_names f) name → IsLinked links name
  refers_linked p f is h name a = h.0 name (subst (λ (x : Form). IsAmong (form_names x) name) (sym is) a)

  mutual
    body_linked : {cover : List (List ℕ)} {ps : List Piece} (b : Body) → EachPiece IsLinkedPiece ps → IsWovenLevel cover ps b → (name : List ℕ) → IsAmong (level_names b) name → IsLinked links name
    body_linked {ps = ps} _ h (woven {held = held} o w p) name a = items_linked (level_items ps) held (level_each IsLinkedPiece ps h) w name a

    items_linked : {cover : List (List ℕ)} {order : List ℕ} (all : List (List Piece)) (xs : WovenItems) → EachOfAll IsLinkedPiece all → AreWovenItems cover all order xs → (name : List ℕ) → IsAmong (items_names xs) name → IsLinked links name
    items_linked all _ h (no_woven) name a = absurd a
    items_linked all _ h (woven_and {x = i} {parts = parts} {item = x} {held = xs} at w k) name a =
        elim (among_either (item_names x) (items_names xs) name a) [
          | inl own ↦ item_linked x (parts_each IsLinkedPiece all i parts h at) w name own
          | inr others ↦ items_linked all xs h k name others
        ]

    item_linked : {cover : List (List ℕ)} {parts : List Piece} (x : WovenItem) → EachPiece IsLinkedPiece parts → IsWovenItem cover parts x → (name : List ℕ) → IsAmong (item_names x) name → IsLinked links name
    item_linked _ h (an_event is here) name a = absurd a
    item_linked _ h (a_coregion is here) name a = absurd a
    item_linked _ h (an_inline {held = held} is w) name a = held_linked held h w name a
    item_linked _ h (a_reference {p = p} {r = r} is) name a = refers_linked p (Refer r) is h.0 name a

    held_linked : {cover : List (List ℕ)} {parts : List Piece} {k count : ℕ} (bs : Bodies) → EachPiece IsLinkedPiece parts → AreWovenOperands cover parts k count bs → (name : List ℕ) → IsAmong (operands_names bs) name → IsLinked links name
    held_linked _ h (no_woven_operand) name a = absurd a
    held_linked _ h (woven_operand_and {cover = cover} {parts = parts} {k = k} {body = b} {others = bs} w g) name a =
        elim (among_either (level_names b) (operands_names bs) name a) [
          | inl own ↦ body_linked b (operands_linked cover k parts h) w name own
          | inr others ↦ held_linked bs h g name others
        ]

  -- ---- as it is gathered

  mutual
    gathered_linked : {cover : List (List ℕ)} {ps : List Piece} {references : List (List Reference)} (b : Body) → EachPiece IsLinkedPiece ps → IsGatheredLevel cover ps b references → (name : List ℕ) → IsAmong (level_names b) name → IsLinked links name
    gathered_linked {ps = ps} _ h (gathered {held = held} k) name a = all_linked held (level_each IsLinkedPiece ps h) k name a

    all_linked : {cover : List (List ℕ)} {all : List (List Piece)} {inner : List (List Reference)} (xs : WovenItems) → EachOfAll IsLinkedPiece all → AreGatheredItems cover all xs inner → (name : List ℕ) → IsAmong (items_names xs) name → IsLinked links name
    all_linked _ h (none_gathered) name a = absurd a
    all_linked _ h (gathered_and {item = x} {held = xs} k rest) name a =
        elim (among_either (item_names x) (items_names xs) name a) [
          | inl own ↦ one_linked x h.0 k name own
          | inr others ↦ all_linked xs h.1 rest name others
        ]

    one_linked : {cover : List (List ℕ)} {parts : List Piece} {own : List (List Reference)} (x : WovenItem) → EachPiece IsLinkedPiece parts → IsGatheredItem cover parts x own → (name : List ℕ) → IsAmong (item_names x) name → IsLinked links name
    one_linked x h (as_woven plain w) name a = item_linked x h w name a
    one_linked _ h (gathering.an_inline {held = held} is k) name a = inner_linked held h k name a

    inner_linked : {cover : List (List ℕ)} {parts : List Piece} {k count : ℕ} {inner : List (List Reference)} (bs : Bodies) → EachPiece IsLinkedPiece parts → AreGatheredOperands cover parts k count bs inner → (name : List ℕ) → IsAmong (operands_names bs) name → IsLinked links name
    inner_linked _ h (no_gathered_operand) name a = absurd a
    inner_linked _ h (gathered_operand_and {cover = cover} {parts = parts} {k = k} {body = b} {others = bs} w g) name a =
        elim (among_either (level_names b) (operands_names bs) name a) [
          | inl own ↦ gathered_linked b (operands_linked cover k parts h) w name own
          | inr others ↦ inner_linked bs h g name others
        ]

-- ---- a chart

-- the pieces of a chart's text
chart_pieces : (c : Chart) (held : List Statement) → c.content ≡ Basic held → EachPiece (IsLinkedPiece (flat_map passage_links (chart_text c))) (statements_pieces (instances c) 0 (statements held))
chart_pieces c held is =
    let links = flat_map passage_links (chart_text c) in
    let text = each_right (IsLinkedPassage links) (map a_head c.decls) (content_text c.content) (each_linked links (chart_text c) (λ link h. h)) in
    statements_are (IsLinkedPassage links) (linked_movable links) 0 Whole (instances c) 0 (statements held) (subst (λ (x : Content). Each (IsLinkedPassage links) (content_text x)) is text)

pub chart_linked : (c : Chart) (held : List Statement) (b : Body) → c.content ≡ Basic held → IsWovenLevel (instances c) (statements_pieces (instances c) 0 (statements held)) b
    → (name : List ℕ) → IsAmong (level_names b) name → IsLinked (chart_links c) name
chart_linked c held b is w name a =
    let links = flat_map passage_links (chart_text c) in
    subst (λ (x : Content). IsLinked (used_links x links) name) (sym is) (body_linked links b (chart_pieces c held is) w name a)

pub chart_gathered : (c : Chart) (held : List Statement) (b : Body) (references : List (List Reference)) → c.content ≡ Basic held → IsGatheredLevel (instances c) (statements_pieces (instances c) 0 (statements held)) b references
    → (name : List ℕ) → IsAmong (level_names b) name → IsLinked (chart_links c) name
chart_gathered c held b references is w name a =
    let links = flat_map passage_links (chart_text c) in
    subst (λ (x : Content). IsLinked (used_links x links) name) (sym is) (gathered_linked links b (chart_pieces c held is) w name a)
