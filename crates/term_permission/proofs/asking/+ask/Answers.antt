use Rattle.std.proofs.Common.{drop, take, length, ◌≡◌, ◌<◌, ◌↔◌, IsTrue, ◌-◌, ◌∙◌, ◌+◌, ◌++◌, sym, ap, subst, arith, true, false, Option, Some, None, IfOk, ℕ, List, ◌≤◌, refl, slice_get}
use Rattle.chart_term.specs.NormalForms.{allowed, begun, only, cut, walk_cut, some_kept}
use Rattle.chart_term.specs.Rows.{part_of, parts_of}
use Rattle.chart_term.specs.Terms.{Tree, Choice, trees, Part, Turn, ◌∪◌}
use Rattle.chart_term.specs.Tables.{net_of, node_of}
use Rattle.hmsc_graph.specs.Nets.{size_of}
use Rattle.hmsc_graph.specs.Spots.{spot_of, goal_of}
use Rattle.msc_base.specs.Patterns.{seq, par}
use Rattle.term_permission.specs.Lefts.{mode_of, opened_left}
use Rattle.term_permission.specs.Passing.{HaveCommon}
use Rattle.term_permission.specs.Remnants.{RemnantSays, is_full, SaysParts, SaysSome, Tallies, TalliesSome, both}
use Rattle.term_permission.proofs.PassingFacts.{passing_ended, says_none}
use Rattle.chart_term.specs.Spreads.{spread_of}
use Rattle.term_laws.specs.Permission.{permit, permits_of, permit_some}
use Rattle.term_permission.specs.Ready.{IsReady, IsReadyPart}
use Rattle.term_permission.specs.RowRests.{RowRest, keep_parts, no_rest, keep_part}
use Rattle.bit_sets.specs.Blocks.{BlockValue}
use Rattle.term_permission.proofs.Halves.{first_lower, first_of_join, first_of_row, second_lower, second_of_join, second_of_row}
use Rattle.term_laws.specs.Values.{block_of}
use Rattle.term_permission.proofs.Joins.{second-fails, left-parts, ok-as}
use Rattle.term_permission.proofs.PermitLoops.{loop-left, loop-none, ready-loop, cut_alike}
use Rattle.term_permission.proofs.PermitWalks.{node-below, passing-next, walk-lost, walk-passes, walk-empty, ready-walk}
use Rattle.term_permission.proofs.NodeTerms.{node-is, sizes-are}
use Rattle.term_laws.proofs.TermSentences.{net_rank}
use Rattle.term_permission.proofs.PermitRows.{ready-part, item-at, normal-turns, ready-turns, rank-turns-only}
use Rattle.term_permission.proofs.Permits.{ready-at, ready-choice, turns-are-ready, turns-are-open}
use Rattle.term_laws.proofs.Measures.{rank_in, rank_row, rank-choice, rank-join, rank-loop, rank-at, rank-part}
use Rattle.term_permission.proofs.MissedParts.{left-missed}
use Rattle.term_permission.proofs.ItemsLeft.{each-at, items-gap, items-fail}
use Rattle.chart_term.specs.Views.{pairs_of}
use Rattle.chart_term.proofs.Turns.{begun-length}
use Rattle.term_laws.proofs.Missed.{row-misses}
use Rattle.term_permission.specs.declared.remnant.Remnant.{Remnant}
use Rattle.term_permission.specs.declared.remnant.RowTally.{RowTally}
use Rattle.term_laws.proofs.Normalising.{permit_normal}
use Rattle.term_permission.proofs.RemnantFacts.{says_both, says_tied, parts_stay, items_next, choice_next, choice_ended, tally_some, AreKept, row_fork, row_fails, row_begun, row_next, row_lost, row_ended, row_whole, parts-length}
use Rattle.term_permission.proofs.asking.+ask.Goals as goal

pub ask_parts-returns-then-misses : goal.ask_parts-returns-then-misses
ask_parts-returns-then-misses t c =
    let w = c.args.nets.now.tables in
    let e = left-missed w c.args.block.now (mode_of c.args.joint) c.args.parts.now c.requires.ready c.requires.open (sym c.misses.ensures ∙ c.if-misses.true) in
    subst (λ (r : Remnant). SaysParts r (opened_left (permits_of c.args.nets.now.tables) (block_of c.args.block.now) (mode_of c.args.joint) (begun c.args.parts.now))) (sym c.of_parts.ensures) (parts_stay (permits_of c.args.nets.now.tables) (block_of c.args.block.now) (mode_of c.args.joint) c.args.parts.now c.requires.turns c.requires.open e)

pub ask_parts-ask_parts-requires : goal.ask_parts-ask_parts-requires
ask_parts-ask_parts-requires t c =
    let low = second_lower c.args.nets.now.tables c.args.parts.now c.in-Fork.first.now c.in-Fork.second.now c.in-Fork.ensures.0 c.in-Fork.ensures.1 in
    (omega (arith, c.decreases, low), (c.requires.tables, second_of_join c.args.nets.now.tables c.args.parts.now c.in-Fork.first.now c.in-Fork.second.now c.in-Fork.ensures.0 (mode_of c.args.joint) c.requires.turns c.requires.ready c.requires.open))

pub ask_parts-returns-then-fails : goal.ask_parts-returns-then-fails
ask_parts-returns-then-fails t c =
    let w = c.args.nets.now.tables in
    let none = subst (λ (r : Remnant). SaysParts r (opened_left (permits_of c.args.nets.now.tables) (block_of c.args.block.now) (mode_of c.args.joint) (begun c.in-Fork.second.now))) (c.fails.ensures.yes c.if-fails.true) c.in_ok-behind-in-Fork.ensures in
    ap (λ l. opened_left (permits_of c.args.nets.now.tables) (block_of c.args.block.now) (mode_of c.args.joint) (begun l)) c.in-Fork.ensures.0
    ∙ (left-parts (permits_of c.args.nets.now.tables) (block_of c.args.block.now) (mode_of c.args.joint) c.in-Fork.first.now c.in-Fork.second.now
    ∙ second-fails (opened_left (permits_of c.args.nets.now.tables) (block_of c.args.block.now) (mode_of c.args.joint) (begun c.in-Fork.first.now)) (opened_left (permits_of c.args.nets.now.tables) (block_of c.args.block.now) (mode_of c.args.joint) (begun c.in-Fork.second.now)) c.in-Fork.first.now c.in-Fork.second.now none)

pub ask_parts-ask_parts-requires-in-Fork : goal.ask_parts-ask_parts-requires-in-Fork
ask_parts-ask_parts-requires-in-Fork t c =
    let low = first_lower c.args.nets.now.tables c.args.parts.now c.in-Fork.first.now c.in-Fork.second.now c.in-Fork.ensures.0 c.in-Fork.ensures.2 in
    (omega (arith, c.decreases, low), (c.requires.tables, first_of_join c.args.nets.now.tables c.args.parts.now c.in-Fork.first.now c.in-Fork.second.now c.in-Fork.ensures.0 (mode_of c.args.joint) c.requires.turns c.requires.ready c.requires.open))

pub ask_items-loop-index-preserved-in-Gap : goal.ask_items-loop-index-preserved-in-Gap
ask_items-loop-index-preserved-in-Gap t c =
    let g : slice_get (parts_of c.args.items.now) (c.loop-index.index - 1) ≡ Some (part_of c.index-items-index.result) = item-at c.args.items.now (c.loop-index.index - 1) c.index-items-index.result (omega arith) c.index-items-index.is in
    let e = items-gap (parts_of c.args.items.now) (c.loop-index.index - 1) c.loop-index.index _ (g ∙ ap (λ p. Some (part_of p)) c.in-Gap.is) (omega arith) in
    record { within = omega arith; kept = subst (λ l. SaysParts c.loop-index.kept (opened_left (permits_of c.args.nets.now.tables) (block_of c.args.block.now) (mode_of c.args.joint) l)) (sym e) c.loop-index.invariant.kept }

pub ask_items-loop-index-preserved : goal.ask_items-loop-index-preserved
ask_items-loop-index-preserved t c =
    let w = c.args.nets.now.tables in
    let g : slice_get (parts_of c.args.items.now) (c.loop-index.index - 1) ≡ Some (Turn c.in-Turn.term) = item-at c.args.items.now (c.loop-index.index - 1) c.index-items-index.result (omega arith) c.index-items-index.is ∙ ap (λ p. Some (part_of p)) c.in-Turn.is in
    let ready : IsReady w c.in-Turn.term = each-at (IsReady w) (parts_of c.args.items.now) (c.loop-index.index - 1) c.in-Turn.term g c.requires.ready in
    record {
      within = omega arith;
      kept = subst (λ (r : Remnant). SaysParts r (opened_left (permits_of c.args.nets.now.tables) (block_of c.args.block.now) (mode_of c.args.joint) (begun (drop (c.loop-index.index - 1) (parts_of c.args.items.now))))) (sym c.and-kept.ensures)
          (items_next (permits_of c.args.nets.now.tables) (block_of c.args.block.now) (mode_of c.args.joint) (parts_of c.args.items.now) (c.loop-index.index - 1) c.loop-index.index c.in-Turn.term c.in_ok-left.left c.loop-index.kept g (omega arith) (permit_normal (permits_of w) (block_of c.args.block.now) c.in-Turn.term ready.normal) c.in_ok-left.ensures c.loop-index.invariant.kept);
    }

pub ask_items-ask_term-requires : goal.ask_items-ask_term-requires
ask_items-ask_term-requires t c =
    let w = c.args.nets.now.tables in
    let g : slice_get (parts_of c.args.items.now) (c.loop-index.index - 1) ≡ Some (Turn c.in-Turn.term) = item-at c.args.items.now (c.loop-index.index - 1) c.index-items-index.result (omega arith) c.index-items-index.is ∙ ap (λ p. Some (part_of p)) c.in-Turn.is in
    let r = rank-part w (parts_of c.args.items.now) (c.loop-index.index - 1) (Turn c.in-Turn.term) g in
    (omega (arith, c.decreases, r), (c.requires.tables, each-at (IsReady w) (parts_of c.args.items.now) (c.loop-index.index - 1) c.in-Turn.term g c.requires.ready))

pub ask_items-returns-then-fails : goal.ask_items-returns-then-fails
ask_items-returns-then-fails t c =
    let g : slice_get (parts_of c.args.items.now) (c.loop-index.index - 1) ≡ Some (Turn c.in-Turn.term) = item-at c.args.items.now (c.loop-index.index - 1) c.index-items-index.result (omega arith) c.index-items-index.is ∙ ap (λ p. Some (part_of p)) c.in-Turn.is in
    items-fail (permits_of c.args.nets.now.tables) (block_of c.args.block.now) (mode_of c.args.joint) (parts_of c.args.items.now) (c.loop-index.index - 1) c.in-Turn.term g (says_none c.in_ok-left.left (permit (permits_of c.args.nets.now.tables) (block_of c.args.block.now) c.in-Turn.term) (c.fails.ensures.yes c.if-fails.true) c.in_ok-left.ensures)

pub ask_choice-returns : goal.ask_choice-returns
ask_choice-returns t c =
    let w = c.args.nets.now.tables in
    let xs = begun c.args.parts.now in
    choice_ended w (block_of c.args.block.now) xs c.loop-index.index c.loop-index.kept (omega (arith, c.len-index-end.ensures, begun-length c.args.parts.now c.requires.turns, c.loop-index-test.false)) (ready-choice w (Choice (trees xs)) xs refl c.requires.choice) c.loop-index.invariant

pub ask_choice-loop-index-preserved : goal.ask_choice-loop-index-preserved
ask_choice-loop-index-preserved t c =
    let w = c.args.nets.now.tables in
    let xs = begun c.args.parts.now in
    subst (λ (r : Remnant). SaysSome r (permit_some (permits_of w) (block_of c.args.block.now) (trees (take (c.loop-index.index + 1) xs)))) (sym c.or-kept.ensures)
    (choice_next w (block_of c.args.block.now) xs c.loop-index.index c.term_at.result.now c.loop-index.kept c.in_ok-left.left c.term_at.ensures c.in_ok-left.ensures c.loop-index.invariant)

pub ask_choice-ask_term-requires : goal.ask_choice-ask_term-requires
ask_choice-ask_term-requires t c =
    let w = c.args.nets.now.tables in
    let xs = begun c.args.parts.now in
    let r = rank-at w xs c.loop-index.index c.term_at.result.now c.term_at.ensures in
    let s = rank-turns-only w c.args.parts.now c.requires.turns in
    (omega (arith, c.decreases, r, s), (c.requires.tables, ready-at w xs c.loop-index.index c.term_at.result.now c.term_at.ensures (ready-choice w (Choice (trees xs)) xs refl c.requires.choice)))

pub ask_loop-returns : goal.ask_loop-returns
ask_loop-returns t c =
    let w = c.args.nets.now.tables in
    let (r, e, k) = subst (λ (o : Option RowTally). TalliesSome o (keep_parts (λ d. permit (permits_of w) (only d) c.args.turns.body.now) (λ y. permit (permits_of w) (block_of c.args.block.now) y) c.args.turns.upper c.in_ok-narrow.narrow.instances c.args.turns.row.now no_rest)) c.in-Some.is (c.in_ok-ask_row.ensures no_rest c.none.ensures) in
    subst (RemnantSays c.end.result) (sym (loop-left w c.args.turns.body.now c.args.turns.lower c.args.turns.upper c.args.turns.row.now (block_of c.args.block.now) c.in_ok-all.all.instances c.in_ok-narrow.narrow.instances c.requires.row c.in_ok-all.ensures (ap (λ (b : BlockValue). b.instances) c.in_ok-narrow.ensures) r e)) (c.end.ensures r c.args.turns.body.now c.args.turns.upper k)

pub ask_loop-returns-in-None : goal.ask_loop-returns-in-None
ask_loop-returns-in-None t c =
    let w = c.args.nets.now.tables in
    loop-none w c.args.turns.body.now c.args.turns.lower c.args.turns.upper c.args.turns.row.now (block_of c.args.block.now) c.in_ok-all.all.instances c.in_ok-narrow.narrow.instances c.requires.row c.in_ok-all.ensures (ap (λ (b : BlockValue). b.instances) c.in_ok-narrow.ensures) (subst (λ (o : Option RowTally). TalliesSome o (keep_parts (λ d. permit (permits_of w) (only d) c.args.turns.body.now) (λ y. permit (permits_of w) (block_of c.args.block.now) y) c.args.turns.upper c.in_ok-narrow.narrow.instances c.args.turns.row.now no_rest)) c.in-None.is (c.in_ok-ask_row.ensures no_rest c.none.ensures))

pub ask_row-returns-in-Leaf : goal.ask_row-returns-in-Leaf
ask_row-returns-in-Leaf t c =
    subst (λ (ps : List Part). IfOk c.ask_row_items.result (λ after. AreKept (λ d. permit (permits_of c.args.nets.now.tables) (only d) c.args.turns.body.now) (λ y. permit (permits_of c.args.nets.now.tables) (block_of c.args.by.whole.now) y) c.args.turns.upper c.args.by.narrow.now.instances after ps c.args.tally)) (sym c.in-Leaf.ensures) c.ask_row_items.ensures

pub ask_row-returns-in-None : goal.ask_row-returns-in-None
ask_row-returns-in-None t c =
    subst (λ (ps : List Part). AreKept (λ d. permit (permits_of c.args.nets.now.tables) (only d) c.args.turns.body.now) (λ y. permit (permits_of c.args.nets.now.tables) (block_of c.args.by.whole.now) y) c.args.turns.upper c.args.by.narrow.now.instances None ps c.args.tally) (sym c.in-Fork.ensures.0)
    (row_fails (λ d. permit (permits_of c.args.nets.now.tables) (only d) c.args.turns.body.now) (λ y. permit (permits_of c.args.nets.now.tables) (block_of c.args.by.whole.now) y) c.args.turns.upper c.args.by.narrow.now.instances c.in-Fork.first.now c.in-Fork.second.now c.args.tally (subst (λ (o : Option RowTally). AreKept (λ d. permit (permits_of c.args.nets.now.tables) (only d) c.args.turns.body.now) (λ y. permit (permits_of c.args.nets.now.tables) (block_of c.args.by.whole.now) y) c.args.turns.upper c.args.by.narrow.now.instances o c.in-Fork.second.now c.args.tally) c.in-None.is c.in_ok-ask_row-in-Fork.ensures))

pub ask_row-returns-in-Some : goal.ask_row-returns-in-Some
ask_row-returns-in-Some t c =
    let kept = subst (λ (o : Option RowTally). AreKept (λ d. permit (permits_of c.args.nets.now.tables) (only d) c.args.turns.body.now) (λ y. permit (permits_of c.args.nets.now.tables) (block_of c.args.by.whole.now) y) c.args.turns.upper c.args.by.narrow.now.instances o c.in-Fork.second.now c.args.tally) c.in-Some.is c.in_ok-ask_row-in-Fork.ensures in
    subst (λ (ps : List Part). IfOk c.ask_row-in-Some.result (λ after. AreKept (λ d. permit (permits_of c.args.nets.now.tables) (only d) c.args.turns.body.now) (λ y. permit (permits_of c.args.nets.now.tables) (block_of c.args.by.whole.now) y) c.args.turns.upper c.args.by.narrow.now.instances after ps c.args.tally)) (sym c.in-Fork.ensures.0)
    (ok-as (λ after. AreKept (λ d. permit (permits_of c.args.nets.now.tables) (only d) c.args.turns.body.now) (λ y. permit (permits_of c.args.nets.now.tables) (block_of c.args.by.whole.now) y) c.args.turns.upper c.args.by.narrow.now.instances after c.in-Fork.first.now c.in-Some.behind) (λ after. AreKept (λ d. permit (permits_of c.args.nets.now.tables) (only d) c.args.turns.body.now) (λ y. permit (permits_of c.args.nets.now.tables) (block_of c.args.by.whole.now) y) c.args.turns.upper c.args.by.narrow.now.instances after (c.in-Fork.first.now ++ c.in-Fork.second.now) c.args.tally) c.ask_row-in-Some.result
    (λ after h. row_fork (λ d. permit (permits_of c.args.nets.now.tables) (only d) c.args.turns.body.now) (λ y. permit (permits_of c.args.nets.now.tables) (block_of c.args.by.whole.now) y) c.args.turns.upper c.args.by.narrow.now.instances c.in-Fork.first.now c.in-Fork.second.now c.args.tally c.in-Some.behind after kept h) c.ask_row-in-Some.ensures)

pub ask_row-returns-then-misses : goal.ask_row-returns-then-misses
ask_row-returns-then-misses t c =
    let w = c.args.nets.now.tables in
    let normal = normal-turns w c.args.parts.now (ready-turns w c.args.parts.now c.requires.row) in
    let stay = row-misses (permits_of w) c.args.by.whole.now c.args.parts.now normal (sym c.misses.ensures ∙ c.if-misses.true) in
    subst (λ (t : RowTally). AreKept (λ d. permit (permits_of c.args.nets.now.tables) (only d) c.args.turns.body.now) (λ y. permit (permits_of c.args.nets.now.tables) (block_of c.args.by.whole.now) y) c.args.turns.upper c.args.by.narrow.now.instances (Some t) c.args.parts.now c.args.tally) (sym (c.with_turns.ensures ∙ ap (λ (r : Remnant). record c.args.tally { turns = both r c.args.tally.turns }) c.of_parts.ensures))
    (row_whole (λ d. permit (permits_of c.args.nets.now.tables) (only d) c.args.turns.body.now) (λ y. permit (permits_of c.args.nets.now.tables) (block_of c.args.by.whole.now) y) c.args.turns.upper c.args.by.narrow.now.instances (permits_of w) c.args.parts.now c.args.tally (sym c.has_gap.ensures ∙ c.if-not-has_gap.true) normal c.requires.over stay)

pub ask_row-ask_row-requires : goal.ask_row-ask_row-requires
ask_row-ask_row-requires t c =
    let low = second_lower c.args.nets.now.tables c.args.parts.now c.in-Fork.first.now c.in-Fork.second.now c.in-Fork.ensures.0 c.in-Fork.ensures.1 in
    (omega (arith, c.decreases, low), (c.requires.tables, (c.requires.body, second_of_row c.args.nets.now.tables c.args.parts.now c.in-Fork.first.now c.in-Fork.second.now c.in-Fork.ensures.0 c.requires.row c.requires.over)))

pub ask_row-ask_row-requires-in-Some : goal.ask_row-ask_row-requires-in-Some
ask_row-ask_row-requires-in-Some t c =
    let low = first_lower c.args.nets.now.tables c.args.parts.now c.in-Fork.first.now c.in-Fork.second.now c.in-Fork.ensures.0 c.in-Fork.ensures.2 in
    (omega (arith, c.decreases, low), (c.requires.tables, (c.requires.body, first_of_row c.args.nets.now.tables c.args.parts.now c.in-Fork.first.now c.in-Fork.second.now c.in-Fork.ensures.0 c.requires.row c.requires.over)))

pub ask_row_items-returns : goal.ask_row_items-returns
ask_row_items-returns t c =
    row_ended (λ d. permit (permits_of c.args.nets.now.tables) (only d) c.args.turns.body.now) (λ y. permit (permits_of c.args.nets.now.tables) (block_of c.args.by.whole.now) y) c.args.turns.upper c.args.by.narrow.now.instances (parts_of c.args.items.now) c.loop-index.index c.args.tally c.loop-index.kept c.loop-index.invariant.kept (omega (arith, c.loop-index-test.false))

pub ask_row_items-loop-index-init : goal.ask_row_items-loop-index-init
ask_row_items-loop-index-init t c =
    record { within = omega arith; kept = row_begun (λ d. permit (permits_of c.args.nets.now.tables) (only d) c.args.turns.body.now) (λ y. permit (permits_of c.args.nets.now.tables) (block_of c.args.by.whole.now) y) c.args.turns.upper c.args.by.narrow.now.instances (parts_of c.args.items.now) (length c.args.items.now) c.args.tally (parts-length c.args.items.now) }

pub ask_row_items-loop-index-preserved : goal.ask_row_items-loop-index-preserved
ask_row_items-loop-index-preserved t c =
    let g : slice_get (parts_of c.args.items.now) (c.loop-index.index - 1) ≡ Some (part_of c.index-items-index.result) = item-at c.args.items.now (c.loop-index.index - 1) c.index-items-index.result (omega arith) c.index-items-index.is in
    record {
      within = omega arith;
      kept = row_next (λ d. permit (permits_of c.args.nets.now.tables) (only d) c.args.turns.body.now) (λ y. permit (permits_of c.args.nets.now.tables) (block_of c.args.by.whole.now) y) c.args.turns.upper c.args.by.narrow.now.instances (parts_of c.args.items.now) (c.loop-index.index - 1) c.loop-index.index (part_of c.index-items-index.result) c.args.tally c.loop-index.kept (Some c.in-Some.more) g (omega arith) c.loop-index.invariant.kept
          (subst (λ (o : Option RowTally). (s : RowRest) → Tallies c.loop-index.kept s → TalliesSome o (keep_part (λ d. permit (permits_of c.args.nets.now.tables) (only d) c.args.turns.body.now) (λ y. permit (permits_of c.args.nets.now.tables) (block_of c.args.by.whole.now) y) c.args.turns.upper c.args.by.narrow.now.instances (part_of c.index-items-index.result) s)) c.in-Some.is c.in_ok-ask_row_part.ensures);
    }

pub ask_row_items-ask_row_part-requires : goal.ask_row_items-ask_row_part-requires
ask_row_items-ask_row_part-requires t c =
    let w = c.args.nets.now.tables in
    let g = item-at c.args.items.now (c.loop-index.index - 1) c.index-items-index.result (omega arith) c.index-items-index.is in
    let r = rank-part w (parts_of c.args.items.now) (c.loop-index.index - 1) (part_of c.index-items-index.result) g in
    (omega (arith, c.decreases, r), (c.requires.tables, (c.requires.body, ready-part w (parts_of c.args.items.now) (c.loop-index.index - 1) (part_of c.index-items-index.result) g c.requires.row)))

pub ask_row_items-returns-in-None : goal.ask_row_items-returns-in-None
ask_row_items-returns-in-None t c =
    let g : slice_get (parts_of c.args.items.now) (c.loop-index.index - 1) ≡ Some (part_of c.index-items-index.result) = item-at c.args.items.now (c.loop-index.index - 1) c.index-items-index.result (omega arith) c.index-items-index.is in
    row_lost (λ d. permit (permits_of c.args.nets.now.tables) (only d) c.args.turns.body.now) (λ y. permit (permits_of c.args.nets.now.tables) (block_of c.args.by.whole.now) y) c.args.turns.upper c.args.by.narrow.now.instances (parts_of c.args.items.now) (c.loop-index.index - 1) c.loop-index.index (part_of c.index-items-index.result) c.args.tally c.loop-index.kept g (omega arith) c.loop-index.invariant.kept
    (subst (λ (o : Option RowTally). (s : RowRest) → Tallies c.loop-index.kept s → TalliesSome o (keep_part (λ d. permit (permits_of c.args.nets.now.tables) (only d) c.args.turns.body.now) (λ y. permit (permits_of c.args.nets.now.tables) (block_of c.args.by.whole.now) y) c.args.turns.upper c.args.by.narrow.now.instances (part_of c.index-items-index.result) s)) c.in-None.is c.in_ok-ask_row_part.ensures)

pub ask_row_part-returns-else-fails : goal.ask_row_part-returns-else-fails
ask_row_part-returns-else-fails t c =
    let w = c.args.nets.now.tables in
    let ready : IsReady w c.in-Turn.turn = subst (IsReadyPart w) (ap part_of c.in-Turn.is) c.requires.part in λ r h.
    subst (λ (t : RowTally). TalliesSome (Some t) (keep_part (λ d. permit (permits_of c.args.nets.now.tables) (only d) c.args.turns.body.now) (λ y. permit (permits_of c.args.nets.now.tables) (block_of c.args.by.whole.now) y) c.args.turns.upper c.args.by.narrow.now.instances (part_of c.args.part.now) r)) (sym c.with_turns.ensures)
    (subst (λ (p : Part). TalliesSome (Some (record c.args.tally { turns = both c.in_ok-left-in-Turn.left c.args.tally.turns })) (keep_part (λ d. permit (permits_of c.args.nets.now.tables) (only d) c.args.turns.body.now) (λ y. permit (permits_of c.args.nets.now.tables) (block_of c.args.by.whole.now) y) c.args.turns.upper c.args.by.narrow.now.instances p r)) (sym (ap part_of c.in-Turn.is))
    (tally_some (permits_of w) c.args.tally r c.in_ok-left-in-Turn.left (permit (permits_of w) (block_of c.args.by.whole.now) c.in-Turn.turn) (permit_normal (permits_of w) (block_of c.args.by.whole.now) c.in-Turn.turn ready.normal) (c.fails.ensures.no c.if-fails.false) c.in_ok-left-in-Turn.ensures h))

pub ask_walk-returns : goal.ask_walk-returns
ask_walk-returns t c =
    let common : IsTrue c.has_one_of.result ↔ HaveCommon c.in_ok-nodes.nodes.full c.in_ok-leading.leading.nodes = subst (λ (l : List ℕ). IsTrue c.has_one_of.result ↔ HaveCommon l c.in_ok-leading.leading.nodes) c.as_slice.ensures c.has_one_of.ensures in
    let there : c.leads.result ≡ true = cc in
    let said : c.has_one_of.result ≡ false = cc in
    let e = walk-empty c.args.nets.now.tables c.args.net c.args.block.now.instances c.in_ok-nodes.nodes.passed.nodes c.in_ok-nodes.nodes.full c.in_ok-leading.leading.nodes (spot_of c.args.from) (goal_of c.args.to) c.net-graph.result.now c.net-graph.ensures.net c.in_ok-nodes.ensures.net (c.is_aimed.ensures.aimed cc) c.in_ok-nodes.ensures.nodes c.in_ok-leading.ensures.nodes c.leads.result c.leads.ensures c.has_one_of.result common there said in
    (sym (ap some_kept e), sym (ap is_full e))

pub ask_walk-returns-then-has_one_of : goal.ask_walk-returns-then-has_one_of
ask_walk-returns-then-has_one_of t c =
    let common : IsTrue c.has_one_of.result ↔ HaveCommon c.in_ok-nodes.nodes.full c.in_ok-leading.leading.nodes = subst (λ (l : List ℕ). IsTrue c.has_one_of.result ↔ HaveCommon l c.in_ok-leading.leading.nodes) c.as_slice.ensures c.has_one_of.ensures in
    let there : c.leads.result ≡ true = cc in
    let said : c.has_one_of.result ≡ true = cc in
    sym (ap is_full (walk-passes c.args.nets.now.tables c.args.net c.args.block.now.instances c.in_ok-nodes.nodes.passed.nodes c.in_ok-nodes.nodes.full c.in_ok-leading.leading.nodes (spot_of c.args.from) (goal_of c.args.to) c.net-graph.result.now c.net-graph.ensures.net c.in_ok-nodes.ensures.net (c.is_aimed.ensures.aimed cc) c.in_ok-nodes.ensures.nodes c.in_ok-leading.ensures.nodes c.leads.result c.leads.ensures c.has_one_of.result common there said))

pub ask_term-returns-in_ok-left-in-Tied : goal.ask_term-returns-in_ok-left-in-Tied
ask_term-returns-in_ok-left-in-Tied t c =
    subst (λ (x : Tree). RemnantSays c.in_ok-left-in-Tied.left (permit (permits_of c.args.nets.now.tables) (block_of c.args.block.now) x)) (sym c.in-Tied.ensures)
    (says_tied (pairs_of c.in-Tied.field-1.now) c.in_ok-left-in-Tied.left (permit (permits_of c.args.nets.now.tables) (block_of c.args.block.now) c.in-Tied.inner.now) c.in_ok-left-in-Tied.ensures)

pub ask_term-returns-in_ok-left-in-Walk : goal.ask_term-returns-in_ok-left-in-Walk
ask_term-returns-in_ok-left-in-Walk t c =
    let w = c.args.nets.now.tables in
    let narrow : c.in_ok-narrow-in-Walk.narrow.instances ≡ cut (spread_of w c.in-Walk.net) (c.in-Walk.own.now.instances ∪ c.args.block.now.instances) =
    ap (λ (b : BlockValue). b.instances) c.in_ok-narrow-in-Walk.ensures ∙ ((λ i. cut c.spread.result.now.instances (ap (λ (b : BlockValue). b.instances) c.in_ok-wide-in-Walk.ensures i)) ∙ cut_alike c.spread.result.now.instances (spread_of w c.in-Walk.net) (c.in-Walk.own.now.instances ∪ c.args.block.now.instances) c.spread.ensures) in
    subst (λ (x : Tree). RemnantSays c.in_ok-left-in-Walk.left (permit (permits_of w) (block_of c.args.block.now) x)) (sym c.in-Walk.ensures)
    (subst (λ (d : List ℕ). RemnantSays c.in_ok-left-in-Walk.left (walk_cut (permits_of w) c.in-Walk.net (spot_of c.in-Walk.from) (goal_of c.in-Walk.to) d)) narrow c.in_ok-left-in-Walk.ensures)

pub ask_walk-returns-then-not-leads : goal.ask_walk-returns-then-not-leads
ask_walk-returns-then-not-leads t c =
    sym (walk-lost c.args.nets.now.tables c.args.net c.args.block.now.instances c.in_ok-nodes.nodes.passed.nodes c.in_ok-nodes.nodes.full c.in_ok-leading.leading.nodes (spot_of c.args.from) (goal_of c.args.to) c.net-graph.result.now c.net-graph.ensures.net c.in_ok-nodes.ensures.net (c.is_aimed.ensures.aimed cc) c.in_ok-nodes.ensures.nodes c.in_ok-leading.ensures.nodes c.leads.result c.leads.ensures cc)

pub passable-returns-clause-nodes : goal.passable-returns-clause-nodes
passable-returns-clause-nodes t c =
    let w = c.args.nets.now.tables in
    passing_ended (net_of w c.args.net) (allowed (permits_of w) c.args.net c.args.block.now.instances) (λ m. (permits_of w).kept c.args.net m c.args.block.now.instances) (spot_of c.args.from)
    c.loop-node.search.reached.nodes c.loop-node.search.waiting.items c.loop-node.nodes.passed.nodes c.loop-node.nodes.full (c.in_default.ensures.none refl) c.loop-node.invariant.passing

pub passable-loop-node-preserved : goal.passable-loop-node-preserved
passable-loop-node-preserved t c =
    let w = c.args.nets.now.tables in
    let says : RemnantSays c.in_ok-left.left (permit (permits_of w) (only c.args.block.now.instances) (node_of w c.args.net c.in-Some.node)) =
    subst (RemnantSays c.in_ok-left.left) (λ i. permit (permits_of w) (c.requires.block i) (c.node.ensures i)) c.in_ok-left.ensures in
    let (nodes, search, passing) = passing-next w c.requires.tables c.args.net c.requires.net c.args.block.now.instances (spot_of c.args.from) c.net-graph.result.now c.net-graph.ensures.net c.in-Some.node c.in_ok-left.left
    c.loop-node.search c.next.new.self c.visit.new.search c.loop-node.nodes c.visit.new.nodes c.size.ensures.net c.in-Some.ensures.reached c.in-Some.ensures.node says c.in_ok-visit.ensures c.loop-node.invariant.nodes c.loop-node.invariant.search c.loop-node.invariant.passing in
    record { nodes = nodes; search = search; passing = passing }

pub passable-ask_term-requires : goal.passable-ask_term-requires
passable-ask_term-requires t c =
    let w = c.args.nets.now.tables in
    let below : c.in-Some.node < size_of (net_of w c.args.net) = node-below w c.requires.tables c.args.net c.requires.net c.args.block.now.instances (spot_of c.args.from) c.net-graph.result.now c.net-graph.ensures.net c.loop-node.search.reached c.loop-node.search.waiting.items c.next.new.self.waiting.items c.loop-node.nodes.passed.nodes c.loop-node.nodes.full c.in-Some.node c.size.ensures.net c.in-Some.ensures.node c.loop-node.invariant.passing in
    let i = node-is w c.requires.tables c.args.net c.in-Some.node c.requires.net (omega (arith, below, sizes-are w c.requires.tables c.args.net c.requires.net)) in
    let r : rank_in w c.node.result.now ≤ net_rank w c.args.net = subst (λ (y : Tree). rank_in w y ≤ net_rank w c.args.net) (sym c.node.ensures) i.rank in
    (omega (arith, c.decreases, r), (c.requires.tables, subst (λ (y : Tree). IsReady w y) (sym c.node.ensures) i.ready))

pub passable-node-requires-clause-node : goal.passable-node-requires-clause-node
passable-node-requires-clause-node t c =
    let w = c.args.nets.now.tables in
    let below : c.in-Some.node < size_of (net_of w c.args.net) = node-below w c.requires.tables c.args.net c.requires.net c.args.block.now.instances (spot_of c.args.from) c.net-graph.result.now c.net-graph.ensures.net c.loop-node.search.reached c.loop-node.search.waiting.items c.next.new.self.waiting.items c.loop-node.nodes.passed.nodes c.loop-node.nodes.full c.in-Some.node c.size.ensures.net c.in-Some.ensures.node c.loop-node.invariant.passing in
    omega (arith, below, sizes-are w c.requires.tables c.args.net c.requires.net)

pub passable-visit-requires-clause-node : goal.passable-visit-requires-clause-node
passable-visit-requires-clause-node t c =
    let w = c.args.nets.now.tables in
    let below : c.in-Some.node < size_of (net_of w c.args.net) = node-below w c.requires.tables c.args.net c.requires.net c.args.block.now.instances (spot_of c.args.from) c.net-graph.result.now c.net-graph.ensures.net c.loop-node.search.reached c.loop-node.search.waiting.items c.next.new.self.waiting.items c.loop-node.nodes.passed.nodes c.loop-node.nodes.full c.in-Some.node c.size.ensures.net c.in-Some.ensures.node c.loop-node.invariant.passing in
    let size : size_of c.net-graph.result.now ≡ size_of (net_of w c.args.net) = ap size_of c.net-graph.ensures.net in
    omega (arith, below, size)

pub ask_term-ask_parts-requires : goal.ask_term-ask_parts-requires
ask_term-ask_parts-requires t c =
    let w = c.args.nets.now.tables in
    let r : rank_in w c.args.term.now ≡ 1 + rank_row w c.in-Seq.parts.now = ap (rank_in w) c.in-Seq.ensures.0 ∙ (rank-join w seq (begun c.in-Seq.parts.now) ∙ ap (λ n. 1 + n) (sym (rank-turns-only w c.in-Seq.parts.now c.in-Seq.ensures.1))) in
    (omega (arith, c.decreases, r), (c.requires.tables, (c.in-Seq.ensures.1, (turns-are-ready w seq c.args.term.now c.in-Seq.parts.now c.in-Seq.ensures.0 c.requires.term, turns-are-open w seq c.args.term.now c.in-Seq.parts.now c.in-Seq.ensures.0 c.requires.term))))

pub ask_term-ask_parts-requires-in-Par : goal.ask_term-ask_parts-requires-in-Par
ask_term-ask_parts-requires-in-Par t c =
    let w = c.args.nets.now.tables in
    let r : rank_in w c.args.term.now ≡ 1 + rank_row w c.in-Par.parts.now = ap (rank_in w) c.in-Par.ensures.0 ∙ (rank-join w par (begun c.in-Par.parts.now) ∙ ap (λ n. 1 + n) (sym (rank-turns-only w c.in-Par.parts.now c.in-Par.ensures.1))) in
    (omega (arith, c.decreases, r), (c.requires.tables, (c.in-Par.ensures.1, (turns-are-ready w par c.args.term.now c.in-Par.parts.now c.in-Par.ensures.0 c.requires.term, turns-are-open w par c.args.term.now c.in-Par.parts.now c.in-Par.ensures.0 c.requires.term))))

pub ask_term-ask_choice-requires : goal.ask_term-ask_choice-requires
ask_term-ask_choice-requires t c =
    let w = c.args.nets.now.tables in
    let r : rank_in w c.args.term.now ≡ 1 + rank_row w c.in-Choice.parts.now = ap (rank_in w) c.in-Choice.ensures.0 ∙ (rank-choice w (begun c.in-Choice.parts.now) ∙ ap (λ n. 1 + n) (sym (rank-turns-only w c.in-Choice.parts.now c.in-Choice.ensures.1))) in
    (omega (arith, c.decreases, r), (c.requires.tables, (c.in-Choice.ensures.1, subst (λ (x : Tree). IsReady w x) c.in-Choice.ensures.0 c.requires.term)))

pub ask_term-ask_loop-requires : goal.ask_term-ask_loop-requires
ask_term-ask_loop-requires t c =
    let r = rank-loop c.args.nets.now.tables c.args.term.now c.in-Loop.body.now c.in-Loop.lower c.in-Loop.upper c.in-Loop.row.now c.in-Loop.ensures in
    (omega (arith, c.decreases), (c.requires.tables, ready-loop c.args.nets.now.tables c.args.term.now c.in-Loop.body.now c.in-Loop.lower c.in-Loop.upper c.in-Loop.row.now c.in-Loop.ensures c.requires.term))

pub ask_term-ask_walk-requires : goal.ask_term-ask_walk-requires
ask_term-ask_walk-requires t c =
    let r = ready-walk c.args.nets.now.tables c.args.term.now c.in-Walk.net c.in-Walk.from c.in-Walk.to c.in-Walk.own.now.instances c.requires.tables c.in-Walk.ensures c.requires.term in
    (omega (arith, c.decreases, r.rank), (c.requires.tables, (r.net, (r.from, (r.to, ap (λ (b : BlockValue). block_of b) c.in_ok-narrow-in-Walk.ensures ∙ ap (λ (b : BlockValue). only b.instances) (sym c.in_ok-narrow-in-Walk.ensures))))))

pub ask_parts-returns-in_ok-before-in-Fork : goal.ask_parts-returns-in_ok-before-in-Fork
ask_parts-returns-in_ok-before-in-Fork t c =
    let o : List Part → Option (List Tree) = λ ps. opened_left (permits_of c.args.nets.now.tables) (block_of c.args.block.now) (mode_of c.args.joint) (begun ps) in
    subst (λ (r : Remnant). SaysParts r (o c.args.parts.now)) (sym c.and.ensures)
    (subst (SaysParts (both c.in_ok-before-in-Fork.before c.in_ok-behind-in-Fork.behind)) (sym (ap o c.in-Fork.ensures.0 ∙ left-parts (permits_of c.args.nets.now.tables) (block_of c.args.block.now) (mode_of c.args.joint) c.in-Fork.first.now c.in-Fork.second.now))
    (says_both c.in_ok-before-in-Fork.before c.in_ok-behind-in-Fork.behind (o c.in-Fork.first.now) (o c.in-Fork.second.now) c.in_ok-before-in-Fork.ensures c.in_ok-behind-in-Fork.ensures))
