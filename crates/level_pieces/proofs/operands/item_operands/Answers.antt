use Rattle.std.proofs.Common.{rules, ◌≡◌, ◌+◌, ◌++◌, ◌∷◌, ◌∙◌, [], ℕ, suc, List, Vec, ap, arith, length, map, sym}
use Rattle.std.proofs.lemmas.List.{map-append}
use Rattle.std.specs.Global.{Global}
use Rattle.level_pieces.specs.ItemOperands.{operand_lists, pieces_view, rests_operand}
use Rattle.level_pieces.specs.PieceViews.{parts_view, piece_view}
use Rattle.level_pieces.specs.declared.pieces.Piece as code
use Rattle.msc_meaning.specs.Pieces.{Piece, operands_of}
use Rattle.level_pieces.proofs.ItemLaws.{length_snoc}
use Rattle.level_pieces.proofs.ReadLaws.{lists_snoc}
use Rattle.level_pieces.proofs.operands.item_operands.Goals as goal

pub loop-number-preserved : goal.loop-number-preserved
loop-number-preserved c =
    let lists : List (Vec code.Piece Global) = c.loop-number.lists.items in
    let parts : List Piece = parts_view c.args.item.now in
    let pushed : c.push.new.self.items ≡ lists ++ c.in_ok-read.read.pieces ∷ [] = search rules in
    let longer : length c.push.new.self.items ≡ suc (length lists) = ap length pushed ∙ length_snoc lists c.in_ok-read.read.pieces in
    let own : map piece_view c.in_ok-read.read.pieces.items ≡ rests_operand c.args.names.now.cover 0 c.loop-number.rests.items = search rules in
    let here : map piece_view c.in_ok-read.read.pieces.items ≡ operands_of c.args.names.now.cover (length lists + 0) parts = own ∙ c.loop-number.invariant.rests c.args.names.now.cover 0 in
    let at : length lists + 0 ≡ 0 + length lists = omega arith in
    record {
      count = omega (arith, longer, c.loop-number.invariant.count);
      lists = ap (map pieces_view) pushed ∙ map-append pieces_view lists (c.in_ok-read.read.pieces ∷ [])
          ∙ ap (λ (l : List (List Piece)). l ++ map piece_view c.in_ok-read.read.pieces.items ∷ []) c.loop-number.invariant.lists
          ∙ ap (λ (l : List Piece). operand_lists c.args.names.now.cover parts 0 (length lists) ++ l ∷ []) (here ∙ ap (λ (n : ℕ). operands_of c.args.names.now.cover n parts) at)
          ∙ sym (lists_snoc c.args.names.now.cover parts 0 (length lists)) ∙ ap (λ (n : ℕ). operand_lists c.args.names.now.cover parts 0 n) (sym longer);
      rests = λ cover k.
          let left : rests_operand cover k c.in_ok-read.read.rests.items ≡ rests_operand cover (suc k) c.loop-number.rests.items = search rules in
          let next : length lists + suc k ≡ length c.push.new.self.items + k = omega (arith, longer) in
          left ∙ c.loop-number.invariant.rests cover (suc k) ∙ ap (λ (n : ℕ). operands_of cover n parts) next;
    }
