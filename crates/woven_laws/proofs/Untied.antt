-- Where no join of a chart's text ties two gates, the joins of what it is woven to add nothing.
use Rattle.std.proofs.Common.{◌≡◌, ◌||◌, ℕ, Bool, true, false, List, [], ◌∷◌, Option, map, refl, ap, subst, sym, ◌∙◌, arith}
use Rattle.chart_forms.specs.TiedTexts.{is_tied, is_tied_passage, is_tied_text, tie_gates, ties_gate}
use Rattle.chart_text.proofs.StandingLaws.{IsMovable, each_right}
use Rattle.chart_text.specs.Texts.{Passage, Whole, a_head, chart_text, content_text}
use Rattle.chart_text.specs.WellFormed.{Each}
use Rattle.gate_ends.specs.JoinCounts.{join_count, joins_count, reference_count}
use Rattle.level_pieces.proofs.PieceTexts.{operand_are, parts_operands, statements_are}
use Rattle.level_pieces.specs.FormedPieces.{EachPiece, piece_text}
use Rattle.msc_instances.specs.Instances.{instances}
use Rattle.msc_meaning.specs.Bodies.{Bodies, Body, WovenItem, WovenItems}
use Rattle.msc_meaning.specs.LevelItems.{level_items}
use Rattle.msc_meaning.specs.Levels.{AreWovenItems, AreWovenOperands, IsWovenItem, IsWovenLevel, a_coregion, a_reference, an_event, an_inline, no_woven, no_woven_operand, woven, woven_and, woven_operand_and}
use Rattle.msc_meaning.specs.Pieces.{Piece, operands_of, statements_pieces}
use Rattle.msc_tree.specs.Charts.{Basic, Chart, Content}
use Rattle.msc_tree.specs.Expressions.{Expression}
use Rattle.msc_tree.specs.Statements.{Statement, statements}
use Rattle.msc_tree.specs.declared.reference.Join.{Join}
use Rattle.msc_tree.specs.declared.reference.JoinEnd.{JoinEnd}
use Rattle.msc_tree.specs.declared.reference.JoinEnd.TheVariants as join_end
use Rattle.woven_laws.specs.JoinSums.{item_joins, items_joins, level_joins, operands_joins}
use Rattle.woven_laws.specs.JoinedCharts.{Inner}
use Rattle.woven_laws.proofs.EachPiece.{EachOfAll, level_each, parts_each}

neither : (a b : Bool) → (a || b) ≡ false → (a ≡ false) × (b ≡ false)
neither true b h = cc
neither false b h = (refl, h)

-- ---- joins

module _ (inner : Inner) (held : WovenItems) (own : Option (List ℕ)) (e : Expression) where
  join_nothing : (g : List ℕ) (to : JoinEnd) → ties_gate to ≡ false → join_count inner held own e g to ≡ 0
  join_nothing g (join_end.Env to) h = refl
  join_nothing g (join_end.Reference name to) h = cc

  joins_nothing : (js : List Join) → tie_gates js ≡ false → joins_count inner held own e js ≡ 0
  joins_nothing [] h = refl
  joins_nothing (j ∷ js) h =
      let both = neither (ties_gate j.to) (tie_gates js) h in
      omega (arith, join_nothing j.gate j.to both.0, joins_nothing js both.1)

-- ---- passages and pieces

abbrev IsUntied : Passage → Type 0
IsUntied p = is_tied_passage p ≡ false

untied_movable : IsMovable IsUntied
untied_movable = record {
  item = λ s t place f b h. h;
  statement = λ m n v w x h. h;
  operand = λ s t x h. h;
}

each_untied : (text : List Passage) → is_tied_text text ≡ false → Each IsUntied text
each_untied [] h = tt
each_untied (p ∷ text) h = let both = neither (is_tied_passage p) (is_tied_text text) h in (both.0, each_untied text both.1)

abbrev IsUntiedPiece : Piece → Type 0
IsUntiedPiece p = Each IsUntied (piece_text p)

operands_untied : (cover : List (List ℕ)) (k : ℕ) (ps : List Piece) → EachPiece IsUntiedPiece ps → EachPiece IsUntiedPiece (operands_of cover k ps)
operands_untied cover k ps h = parts_operands IsUntiedPiece cover k ps (λ p g. operand_are IsUntied untied_movable cover k p g) h

module _ (inner : Inner) where
  mutual
    body_nothing : {cover : List (List ℕ)} {ps : List Piece} (b : Body) → EachPiece IsUntiedPiece ps → IsWovenLevel cover ps b → level_joins (reference_count inner) b ≡ 0
    body_nothing {ps = ps} _ h (woven {held = held} o w p) = items_nothing (level_items ps) held held (level_each IsUntiedPiece ps h) w

    items_nothing : {cover : List (List ℕ)} {order : List ℕ} (all : List (List Piece)) (whole xs : WovenItems) → EachOfAll IsUntiedPiece all → AreWovenItems cover all order xs → items_joins (reference_count inner) whole xs ≡ 0
    items_nothing all whole _ h (no_woven) = refl
    items_nothing all whole _ h (woven_and {x = i} {parts = parts} {item = x} {held = xs} at w k) =
        let here : item_joins (reference_count inner) whole x ≡ 0 = item_nothing whole x (parts_each IsUntiedPiece all i parts h at) w in
        omega (arith, here, items_nothing all whole xs h k)

    item_nothing : {cover : List (List ℕ)} {parts : List Piece} (whole : WovenItems) (x : WovenItem) → EachPiece IsUntiedPiece parts → IsWovenItem cover parts x → item_joins (reference_count inner) whole x ≡ 0
    item_nothing whole _ h (an_event is here) = refl
    item_nothing whole _ h (a_coregion is here) = refl
    item_nothing whole _ h (an_inline {held = held} is w) = held_nothing held h w
    item_nothing whole _ h (a_reference {p = p} {r = r} is) = joins_nothing inner whole r.name r.expression r.joins (ap is_tied (sym is) ∙ h.0.0)

    held_nothing : {cover : List (List ℕ)} {parts : List Piece} {k count : ℕ} (bs : Bodies) → EachPiece IsUntiedPiece parts → AreWovenOperands cover parts k count bs → operands_joins (reference_count inner) bs ≡ 0
    held_nothing _ h (no_woven_operand) = refl
    held_nothing _ h (woven_operand_and {cover = cover} {parts = parts} {k = k} {body = b} {others = bs} w g) =
        let here : level_joins (reference_count inner) b ≡ 0 = body_nothing b (operands_untied cover k parts h) w in
        omega (arith, here, held_nothing bs h g)

pub chart_untied : (c : Chart) (held : List Statement) (b : Body) (inner : Inner) → c.content ≡ Basic held → is_tied_text (chart_text c) ≡ false → IsWovenLevel (instances c) (statements_pieces (instances c) 0 (statements held)) b
    → level_joins (reference_count inner) b ≡ 0
chart_untied c held b inner is none w =
    let text = each_right IsUntied (map a_head c.decls) (content_text c.content) (each_untied (chart_text c) none) in
    let pieces = statements_are IsUntied untied_movable 0 Whole (instances c) 0 (statements held) (subst (λ (x : Content). Each IsUntied (content_text x)) is text) in
    body_nothing inner b pieces w
