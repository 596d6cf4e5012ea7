-- A chart whose columns share an alternative: what it is woven to, and its unfoldings.
use Rattle.std.proofs.Common.{◌≡◌, ◌⊎◌, [], ◌∷◌, codes, refl, inl, inr}
use Rattle.msc_unfolding.specs.Unfoldings.{Unfolding}
use Rattle.msc_tree.specs.Statements as tree
use Rattle.msc_meaning.specs.ChartUnfoldings.{OfWoven, of_level, no_item, item_then, single, inline_part, alternative, this, that, of_body}
use Rattle.msc_meaning.specs.FarEnds.{no_gates}
use Rattle.msc_meaning.specs.InnerEvents.{no_ends}
use Rattle.msc_meaning.specs.Levels.{IsWovenLevel, woven, no_woven, woven_and, an_event, an_inline, no_woven_operand, woven_operand_and}
use Rattle.msc_meaning.specs.Meanings.{Finished}
use Rattle.msc_meaning.specs.Pieces.{statements_pieces}
use Rattle.msc_meaning.specs.Tables.{Basic}
use Rattle.msc_meaning.specs.WorkedCharts.{i, j}
use Rattle.msc_meaning.specs.WorkedColumns.{text, shared_body, table, ColumnsAreWoven, ColumnsUnfold}
use Rattle.msc_meaning.proofs.PairingTest.{pairs_so}
use Rattle.msc_meaning.proofs.Showing.{Derived, drawn, only_two, in_finished}
use Rattle.msc_meaning.proofs.WeavingTest.{woven_so}

-- item 0 is the alternative, of both columns, and item 1 the output to the environment
shared_woven : IsWovenLevel (i ∷ j ∷ []) (statements_pieces (i ∷ j ∷ []) 0 (tree.statements text)) shared_body
shared_woven = woven {order = 1 ∷ 0 ∷ []} (woven_so 2 ((0 ∷ []) ∷ (1 ∷ 0 ∷ []) ∷ []) (1 ∷ 0 ∷ []) refl)
    (woven_and refl (an_event refl refl) (woven_and refl (an_inline refl
    (woven_operand_and (woven {order = 0 ∷ 1 ∷ []} (woven_so 2 ((0 ∷ []) ∷ (1 ∷ []) ∷ []) (0 ∷ 1 ∷ []) refl) (woven_and refl (an_event refl refl) (woven_and refl (an_event refl refl) no_woven)) (pairs_so _ _ ((0, 1) ∷ []) refl refl refl))
    (woven_operand_and (woven {order = 0 ∷ []} (woven_so 1 ((0 ∷ []) ∷ [] ∷ []) (0 ∷ []) refl) (woven_and refl (an_event refl refl) no_woven) (pairs_so _ _ [] refl refl refl))
    no_woven_operand))) no_woven))
    (pairs_so _ _ [] refl refl refl)

pub columns_are_woven : ColumnsAreWoven
columns_are_woven = record { name = refl; decls = refl; content = shared_woven }

abbrev exchanged : Derived (Finished table (codes "W"))
exchanged = record {
  of = _;
  is = record { chart = _; is = refl; unfolds = of_body (of_level no_ends (item_then single (item_then (inline_part (alternative (this (of_level no_ends (item_then single (item_then single no_item)))))) no_item))) };
}

abbrev acted : Derived (Finished table (codes "W"))
acted = record {
  of = _;
  is = record { chart = _; is = refl; unfolds = of_body (of_level no_ends (item_then single (item_then (inline_part (alternative (that (this (of_level no_ends (item_then single no_item)))))) no_item))) };
}

columns_only : (u : Unfolding) → Finished table (codes "W") u → (u ≡ exchanged.of) ⊎ (u ≡ acted.of)
columns_only u f = only (in_finished table (codes "W") _ refl u f)
  where
    only : {u : Unfolding} → OfWoven table no_gates [] (Basic shared_body) u → (u ≡ exchanged.of) ⊎ (u ≡ acted.of)
    only (of_body (of_level no_ends (item_then single (item_then (inline_part (alternative (this (of_level no_ends (item_then single (item_then single no_item)))))) no_item)))) = inl refl
    only (of_body (of_level no_ends (item_then single (item_then (inline_part (alternative (that (this (of_level no_ends (item_then single no_item)))))) no_item)))) = inr refl
    only (of_body (of_level no_ends (item_then single (item_then (inline_part (alternative (that (that x)))) no_item)))) = elim x [ ]

pub columns_unfold : ColumnsUnfold
columns_unfold = only_two _ _ exchanged acted columns_only (drawn _ exchanged.of refl refl) (drawn _ acted.of refl refl)
