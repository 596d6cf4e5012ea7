-- Children of a ready term are ready, and of a lower rank.
use Rattle.std.specs.Prelude.{ℕ, zero, suc, ◌+◌, ◌<◌, ◌≤◌, List, ◌≡◌, Option, Some, None, refl, length, slice_get}
use Rattle.std.proofs.Common.{ap, sym, ◌∙◌, subst, arith}
use Rattle.std.proofs.lemmas.Option.{slice_get_within}
use Rattle.chart_term.specs.NormalForms.{only}
use Rattle.chart_term.specs.Properties.{MayHave}
use Rattle.chart_term.specs.Tables.{Tables, nodes_of, node_of}
use Rattle.chart_term.specs.Terms.{Tree, Nil, Event, Join, Choice, Tied, Loop, Walk, Trees, none, more, Row, ends, gap, turn, items, parts}
use Rattle.term_step.specs.Children.{child, row_child, new_turn}
use Rattle.term_laws.specs.Permission.{permit, permits_of}
use Rattle.term_permission.specs.Ready.{IsReady, AreReadyTables, IsRowWithin}
use Rattle.term_laws.specs.Normality.{IsNormalRow}
use Rattle.term_step.specs.Searches.{child_count}
use Rattle.term_laws.proofs.Measures.{rank_in, rank_all, rank-at}
use Rattle.term_permission.proofs.NodeTerms.{node-is, sizes-are}
use Rattle.term_permission.proofs.Permits.{ready-at}
use Rattle.term_step.proofs.PutReady.{each_out}
use Rattle.term_laws.proofs.Ranking.{ranks, row_rank, permit_rank}
use Rattle.term_laws.proofs.TermSentences.{net_rank}
use Rattle.term_permission.proofs.Within.{kept_within, permit-ready}

-- a child that is ready, of a lower rank, at an index that the term has
pub record IsGoodChild (w : Tables) (x : Tree) (i : ℕ) (y : Tree) : Type 0 where
  pub within : i < child_count w x
  pub ready : IsReady w y
  pub rank : rank_in w y < rank_in w x

items_rank : (w : Tables) (xs : Trees) → rank_all w (items xs) ≡ ranks (net_rank w) xs
items_rank w none = refl
items_rank w (more x xs) = ap (λ n. rank_in w x + n) (items_rank w xs)

some_ready : (w : Tables) (o : Option Tree) (y : Tree) → o ≡ Some y → MayHave (IsReady w) o → IsReady w y
some_ready w o y e h = subst (λ (p : Option Tree). MayHave (IsReady w) p) e h

permitted : (w : Tables) (c : List ℕ) (x y : Tree) → IsReady w x → permit (permits_of w) (only c) x ≡ Some y → IsReady w y
permitted w c x y h e = some_ready w (permit (permits_of w) (only c) x) y e (permit-ready w (only c) x (permit (permits_of w) (only c) x) h refl)

-- a begun turn, or one that begins in a gap
new_some : (hi : Option ℕ) (o : Option Tree) (y : Tree) → new_turn hi o ≡ Some y → o ≡ Some y
new_some None o y h = h
new_some (Some zero) o y h = cc
new_some (Some (suc n)) o y h = h

pub record IsGoodTurn (w : Tables) (x : Tree) (r : Row) (i : ℕ) (y : Tree) : Type 0 where
  pub within : i < length (parts r)
  pub ready : IsReady w y
  pub rank : rank_in w y ≤ rank_in w x + row_rank (net_rank w) r

turn_good : (w : Tables) (x : Tree) (hi : Option ℕ) (r : Row) (i : ℕ) (y : Tree) → IsReady w x → IsRowWithin w r → IsNormalRow (permits_of w) r → row_child (permits_of w) x hi (slice_get (parts r) i) ≡ Some y → IsGoodTurn w x r i y
turn_good w x hi ends i y h a b e = cc
turn_good w x hi (gap c r) zero y h a b e =
    let p : permit (permits_of w) (only c) x ≡ Some y = new_some hi (permit (permits_of w) (only c) x) y e in
    record { within = omega arith; ready = permitted w c x y h p; rank = omega (arith, permit_rank (permits_of w) (net_rank w) (only c) x y p) }
turn_good w x hi (turn z r) zero y h a b e =
    let p : z ≡ y = cc in
    record { within = omega arith; ready = subst (λ (u : Tree). IsReady w u) p (record { within = a.0; normal = b.0 }); rank = subst (λ (u : Tree). rank_in w u ≤ rank_in w x + (rank_in w z + row_rank (net_rank w) r)) p (omega arith) }
turn_good w x hi (gap c r) (suc i) y h a b e =
    let g = turn_good w x hi r i y h a b e in
    record { within = omega (arith, g.within); ready = g.ready; rank = omega (arith, g.rank) }
turn_good w x hi (turn z r) (suc i) y h a b e =
    let g = turn_good w x hi r i y h a.1 b.1 e in
    record { within = omega (arith, g.within); ready = g.ready; rank = omega (arith, g.rank) }

module _ (w : Tables) (tables : AreReadyTables w) where
  pub child-good : (x : Tree) (i : ℕ) (y : Tree) → IsReady w x → child (permits_of w) x i ≡ Some y → IsGoodChild w x i y
  child-good Nil i y h e = cc
  child-good (Event f) i y h e = cc
  child-good (Join m xs) i y h e =
      record { within = slice_get_within (items xs) i y e; ready = ready-at w (items xs) i y e (each_out w xs h.within h.normal.0); rank = omega (arith, rank-at w (items xs) i y e, items_rank w xs) }
  child-good (Choice xs) i y h e =
      record { within = slice_get_within (items xs) i y e; ready = ready-at w (items xs) i y e (each_out w xs h.within h.normal.0); rank = omega (arith, rank-at w (items xs) i y e, items_rank w xs) }
  child-good (Tied x q) zero y h e =
      let p : x ≡ y = cc in
      record { within = omega arith; ready = subst (λ (u : Tree). IsReady w u) p (record { within = h.within.0; normal = h.normal.0 }); rank = subst (λ (u : Tree). rank_in w u < rank_in w (Tied x q)) p (omega arith) }
  child-good (Tied x q) (suc i) y h e = cc
  child-good (Loop x lo hi r) i y h e =
      let g = turn_good w x hi r i y (record { within = h.within.0; normal = h.normal.0 }) h.within.2 h.normal.1 e in
      record { within = g.within; ready = g.ready; rank = omega (arith, g.rank) }
  child-good (Walk n f t c) i y h e =
      let there : i < length (nodes_of w n) = kept_within w n i c y e in
      let node = node-is w tables n i h.within.0 there in
      let size = sizes-are w tables n h.within.0 in
      let p : permit (permits_of w) (only c) (node_of w n i) ≡ Some y = sym (node.kept c) ∙ e in
      record { within = omega arith; ready = permitted w c (node_of w n i) y node.ready p; rank = omega (arith, permit_rank (permits_of w) (net_rank w) (only c) (node_of w n i) y p, node.rank) }
