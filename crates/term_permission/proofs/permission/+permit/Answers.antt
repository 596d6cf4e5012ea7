use Rattle.std.proofs.Common.{◌≡◌, ◌-◌, ◌∙◌, ◌+◌, ◌∷◌, ◌++◌, sym, ap, subst, arith, true, false, Option, Some, None, IfOk, List, [], refl, slice_get, cond}
use Rattle.chart_term.specs.NormalForms.{begun, only, has_gap}
use Rattle.chart_term.specs.Rows.{part_of, parts_of}
use Rattle.chart_term.specs.Terms.{Tree, Choice, trees, Part, Turn}
use Rattle.msc_base.specs.Patterns.{seq, par}
use Rattle.term_permission.specs.Lefts.{left_of, mode_of, opened_left, ArePartsLeft}
use Rattle.term_laws.specs.Permission.{permit, permits_of}
use Rattle.term_permission.specs.Ready.{IsReady}
use Rattle.term_permission.specs.RowRests.{RowRest, keep_parts, no_rest}
use Rattle.bit_sets.specs.Blocks.{BlockValue}
use Rattle.term_laws.specs.Values.{block_of}
use Rattle.term_permission.proofs.Joins.{second-fails, left-parts, turns-both, turns-first, turns-second}
use Rattle.term_permission.proofs.PermitLoops.{loop-left, loop-none, ready-loop, if-kept, if-lost}
use Rattle.term_permission.proofs.PermitWalks.{ready-walk}
use Rattle.term_permission.proofs.PermitRows.{ready-part, item-at, keep-more, keep-none, keep-kept, keep-lost, keep-whole, normal-turns, ready-turns, rank-turns-only}
use Rattle.term_permission.proofs.Permits.{ready-at, ready-choice, some-more, some-skip, turns-are-ready, turns-are-open}
use Rattle.term_laws.proofs.Measures.{rank_in, rank_row, rank-choice, rank-join, rank-loop, rank-at, rank-part}
use Rattle.term_permission.proofs.MissedParts.{left-missed}
use Rattle.term_laws.specs.Normality.{IsPartOf}
use Rattle.term_permission.proofs.permission.+permit.Goals.{permit_choice-in-Fails, permit_choice-in-Unchanged+in_ok-copy-in-Unchanged+in_ok-push-in-Unchanged, permit_choice-in-Changed+in_ok-push-in-Changed}
use Rattle.term_permission.specs.declared.left.Left.{Left}
use Rattle.term_permission.proofs.ItemsLeft.{each-at, items-gap, items-next, items-same, items-fail, choice-stays, choice-kept, tied-stays}
use Rattle.chart_term.specs.Views.{pairs_of}
use Rattle.std.proofs.lemmas.Bool.{or_parts}
use Rattle.list_facts.proofs.Reading.{take_step}
use Rattle.term_permission.proofs.Halves.{first_lower, first_of_join, first_of_row, second_lower, second_of_join, second_of_row}
use Rattle.chart_term.proofs.Turns.{begun-length}
use Rattle.term_laws.proofs.Missed.{row-misses}
use Rattle.term_permission.proofs.Retying.{range_there, shown_by_span, tied_pairs}
use Rattle.chart_term.specs.NormalForms.{numbers}
use Rattle.term_permission.proofs.permission.+permit.Goals as goal

-- joins
pub permit_term-permit_parts-requires : goal.permit_term-permit_parts-requires
permit_term-permit_parts-requires t c =
    let w = c.args.nets.now.tables in
    let r : rank_in w c.args.term.now ≡ 1 + rank_row w c.in-Seq.parts.now = ap (rank_in w) c.in-Seq.ensures.0 ∙ (rank-join w seq (begun c.in-Seq.parts.now) ∙ ap (λ n. 1 + n) (sym (rank-turns-only w c.in-Seq.parts.now c.in-Seq.ensures.1))) in
    (omega (arith, c.decreases, r), (c.requires.tables, (c.in-Seq.ensures.1, (turns-are-ready w seq c.args.term.now c.in-Seq.parts.now c.in-Seq.ensures.0 c.requires.term, turns-are-open w seq c.args.term.now c.in-Seq.parts.now c.in-Seq.ensures.0 c.requires.term))))

pub permit_term-permit_parts-requires-in-Par : goal.permit_term-permit_parts-requires-in-Par
permit_term-permit_parts-requires-in-Par t c =
    let w = c.args.nets.now.tables in
    let r : rank_in w c.args.term.now ≡ 1 + rank_row w c.in-Par.parts.now = ap (rank_in w) c.in-Par.ensures.0 ∙ (rank-join w par (begun c.in-Par.parts.now) ∙ ap (λ n. 1 + n) (sym (rank-turns-only w c.in-Par.parts.now c.in-Par.ensures.1))) in
    (omega (arith, c.decreases, r), (c.requires.tables, (c.in-Par.ensures.1, (turns-are-ready w par c.args.term.now c.in-Par.parts.now c.in-Par.ensures.0 c.requires.term, turns-are-open w par c.args.term.now c.in-Par.parts.now c.in-Par.ensures.0 c.requires.term))))

pub keep_items-returns-then-not-branch : goal.keep_items-returns-then-not-branch
keep_items-returns-then-not-branch t c =
    sym
    (keep-none (λ d. permit (permits_of c.args.nets.now.tables) (only d) c.args.turns.body.now) (λ y. permit (permits_of c.args.nets.now.tables) (block_of c.args.by.whole.now) y) c.args.turns.upper c.args.by.narrow.now.instances (parts_of c.args.items.now) (c.loop-index.index - 1) c.loop-index.index (part_of c.index-items-index.result) c.args.end.now c.loop-index.end c.loop-index.invariant.kept (omega arith) (item-at c.args.items.now (c.loop-index.index - 1) c.index-items-index.result (omega arith) c.index-items-index.is)
    (if-lost _ _ _ c.in_ok-keep_part.ensures (cc)))

pub keep_items-loop-index-preserved : goal.keep_items-loop-index-preserved
keep_items-loop-index-preserved t c = record {
  within = omega arith;
  kept =
      keep-more (λ d. permit (permits_of c.args.nets.now.tables) (only d) c.args.turns.body.now) (λ y. permit (permits_of c.args.nets.now.tables) (block_of c.args.by.whole.now) y) c.args.turns.upper c.args.by.narrow.now.instances (parts_of c.args.items.now) (c.loop-index.index - 1) c.loop-index.index (part_of c.index-items-index.result) c.args.end.now c.loop-index.end c.loop-index.invariant.kept (omega arith) (item-at c.args.items.now (c.loop-index.index - 1) c.index-items-index.result (omega arith) c.index-items-index.is)
      ∙ if-kept _ _ _ c.in_ok-keep_part.ensures (cc);
}

pub permit_term-permit_loop-requires : goal.permit_term-permit_loop-requires
permit_term-permit_loop-requires t c =
    let r = rank-loop c.args.nets.now.tables c.args.term.now c.in-Loop.body.now c.in-Loop.lower c.in-Loop.upper c.in-Loop.row.now c.in-Loop.ensures in
    (omega (arith, c.decreases), (c.requires.tables, ready-loop c.args.nets.now.tables c.args.term.now c.in-Loop.body.now c.in-Loop.lower c.in-Loop.upper c.in-Loop.row.now c.in-Loop.ensures c.requires.term))

pub permit_loop-returns-then-branch : goal.permit_loop-returns-then-branch
permit_loop-returns-then-branch t c =
    let w = c.args.nets.now.tables in
    let kept = if-kept _ _ _ c.in_ok-keep_parts.ensures cc in
    let start : keep_parts (λ d. permit (permits_of w) (only d) c.args.turns.body.now) (λ y. permit (permits_of w) (block_of c.args.block.now) y) c.args.turns.upper c.in_ok-narrow.narrow.instances c.args.turns.row.now no_rest ≡ Some c.keep_parts.new.end = (λ i. keep_parts (λ d. permit (permits_of w) (only d) c.args.turns.body.now) (λ y. permit (permits_of w) (block_of c.args.block.now) y) c.args.turns.upper c.in_ok-narrow.narrow.instances c.args.turns.row.now (sym c.in_ok-end.ensures i)) ∙ kept in
    let left = loop-left w c.args.turns.body.now c.args.turns.lower c.args.turns.upper c.args.turns.row.now (block_of c.args.block.now) c.in_ok-all.all.instances c.in_ok-narrow.narrow.instances c.requires.row c.in_ok-all.ensures (ap (λ (b : BlockValue). b.instances) c.in_ok-narrow.ensures) c.keep_parts.new.end start in
    subst (λ (v : Option Tree). IfOk c.loop_end.result (λ x. x ≡ v)) (sym left) c.loop_end.ensures

pub permit_loop-returns : goal.permit_loop-returns
permit_loop-returns t c =
    let w = c.args.nets.now.tables in
    let lost = if-lost _ _ _ c.in_ok-keep_parts.ensures cc in
    let start : keep_parts (λ d. permit (permits_of w) (only d) c.args.turns.body.now) (λ y. permit (permits_of w) (block_of c.args.block.now) y) c.args.turns.upper c.in_ok-narrow.narrow.instances c.args.turns.row.now no_rest ≡ None = (λ i. keep_parts (λ d. permit (permits_of w) (only d) c.args.turns.body.now) (λ y. permit (permits_of w) (block_of c.args.block.now) y) c.args.turns.upper c.in_ok-narrow.narrow.instances c.args.turns.row.now (sym c.in_ok-end.ensures i)) ∙ lost in
    sym (loop-none w c.args.turns.body.now c.args.turns.lower c.args.turns.upper c.args.turns.row.now (block_of c.args.block.now) c.in_ok-all.all.instances c.in_ok-narrow.narrow.instances c.requires.row c.in_ok-all.ensures (ap (λ (b : BlockValue). b.instances) c.in_ok-narrow.ensures) start)

pub permit_term-permit_choice-requires : goal.permit_term-permit_choice-requires
permit_term-permit_choice-requires t c =
    let w = c.args.nets.now.tables in
    let r : rank_in w c.args.term.now ≡ 1 + rank_row w c.in-Choice.parts.now = ap (rank_in w) c.in-Choice.ensures.0 ∙ (rank-choice w (begun c.in-Choice.parts.now) ∙ ap (λ n. 1 + n) (sym (rank-turns-only w c.in-Choice.parts.now c.in-Choice.ensures.1))) in
    (omega (arith, c.decreases, r), (c.requires.tables, (c.in-Choice.ensures.1, subst (λ (x : Tree). IsReady w x) c.in-Choice.ensures.0 c.requires.term)))

-- the parts of a join
pub permit_parts-returns-then-misses : goal.permit_parts-returns-then-misses
permit_parts-returns-then-misses t c =
    left-missed c.args.nets.now.tables c.args.block.now (mode_of c.args.joint) c.args.parts.now c.requires.ready c.requires.open (sym c.misses.ensures ∙ c.if-misses.true)

pub permit_parts-permit_parts-requires : goal.permit_parts-permit_parts-requires
permit_parts-permit_parts-requires t c =
    let low = second_lower c.args.nets.now.tables c.args.parts.now c.in-Fork.first.now c.in-Fork.second.now c.in-Fork.ensures.0 c.in-Fork.ensures.1 in
    (omega (arith, c.decreases, low), (c.requires.tables, second_of_join c.args.nets.now.tables c.args.parts.now c.in-Fork.first.now c.in-Fork.second.now c.in-Fork.ensures.0 (mode_of c.args.joint) c.requires.turns c.requires.ready c.requires.open))

pub permit_parts-permit_parts-requires-in-Fork : goal.permit_parts-permit_parts-requires-in-Fork
permit_parts-permit_parts-requires-in-Fork t c =
    let low = first_lower c.args.nets.now.tables c.args.parts.now c.in-Fork.first.now c.in-Fork.second.now c.in-Fork.ensures.0 c.in-Fork.ensures.2 in
    (omega (arith, c.decreases, low), (c.requires.tables, first_of_join c.args.nets.now.tables c.args.parts.now c.in-Fork.first.now c.in-Fork.second.now c.in-Fork.ensures.0 (mode_of c.args.joint) c.requires.turns c.requires.ready c.requires.open))

pub permit_parts-both-requires-clause-first : goal.permit_parts-both-requires-clause-first
permit_parts-both-requires-clause-first t c = turns-first c.in-Fork.first.now c.in-Fork.second.now (sym (ap has_gap c.in-Fork.ensures.0) ∙ c.requires.turns)

pub permit_parts-both-requires-clause-second : goal.permit_parts-both-requires-clause-second
permit_parts-both-requires-clause-second t c = turns-second c.in-Fork.first.now c.in-Fork.second.now (sym (ap has_gap c.in-Fork.ensures.0) ∙ c.requires.turns)

pub permit_parts-returns-then-fails : goal.permit_parts-returns-then-fails
permit_parts-returns-then-fails t c =
    let w = c.args.nets.now.tables in
    let none = c.fails.ensures (opened_left (permits_of w) (block_of c.args.block.now) (mode_of c.args.joint) (begun c.in-Fork.second.now)) c.in-Fork.second.now c.if-fails.true c.in_ok-behind-in-Fork.ensures in
    ap (λ l. opened_left (permits_of w) (block_of c.args.block.now) (mode_of c.args.joint) (begun l)) c.in-Fork.ensures.0
    ∙ (left-parts (permits_of w) (block_of c.args.block.now) (mode_of c.args.joint) c.in-Fork.first.now c.in-Fork.second.now
    ∙ second-fails (opened_left (permits_of w) (block_of c.args.block.now) (mode_of c.args.joint) (begun c.in-Fork.first.now)) (opened_left (permits_of w) (block_of c.args.block.now) (mode_of c.args.joint) (begun c.in-Fork.second.now)) c.in-Fork.first.now c.in-Fork.second.now none)

pub permit_parts-returns-in_ok-left-in-Fork : goal.permit_parts-returns-in_ok-left-in-Fork
permit_parts-returns-in_ok-left-in-Fork t c =
    let w = c.args.nets.now.tables in
    let o : List Part → Option (List Tree) = λ ps. opened_left (permits_of w) (block_of c.args.block.now) (mode_of c.args.joint) (begun ps) in
    subst (λ (ps : List Part). ArePartsLeft (o ps) ps c.in_ok-left-in-Fork.left) (sym c.in-Fork.ensures.0)
    (subst (λ (p : Option (List Tree)). ArePartsLeft p (c.in-Fork.first.now ++ c.in-Fork.second.now) c.in_ok-left-in-Fork.left) (sym (left-parts (permits_of w) (block_of c.args.block.now) (mode_of c.args.joint) c.in-Fork.first.now c.in-Fork.second.now))
    (c.in_ok-left-in-Fork.ensures (o c.in-Fork.first.now) (o c.in-Fork.second.now) c.in_ok-before-in-Fork.ensures c.in_ok-behind-in-Fork.ensures))

-- the items of a join
pub permit_items-permit_term-requires : goal.permit_items-permit_term-requires
permit_items-permit_term-requires t c =
    let w = c.args.nets.now.tables in
    let g : slice_get (parts_of c.args.items.now) (c.loop-index.index - 1) ≡ Some (Turn c.in-Turn.term) = item-at c.args.items.now (c.loop-index.index - 1) c.index-items-index.result (omega arith) c.index-items-index.is ∙ ap (λ p. Some (part_of p)) c.in-Turn.is in
    let r = rank-part w (parts_of c.args.items.now) (c.loop-index.index - 1) (Turn c.in-Turn.term) g in
    (omega (arith, c.decreases, r), (c.requires.tables, each-at (IsReady w) (parts_of c.args.items.now) (c.loop-index.index - 1) c.in-Turn.term g c.requires.ready))

pub permit_items-loop-index-preserved-in-Gap : goal.permit_items-loop-index-preserved-in-Gap
permit_items-loop-index-preserved-in-Gap t c =
    let w = c.args.nets.now.tables in
    let g : slice_get (parts_of c.args.items.now) (c.loop-index.index - 1) ≡ Some (part_of c.index-items-index.result) = item-at c.args.items.now (c.loop-index.index - 1) c.index-items-index.result (omega arith) c.index-items-index.is in
    let e = items-gap (parts_of c.args.items.now) (c.loop-index.index - 1) c.loop-index.index _ (g ∙ ap (λ p. Some (part_of p)) c.in-Gap.is) (omega arith) in
    record {
      within = omega arith;
      turns = c.loop-index.invariant.turns;
      kept = ap (opened_left (permits_of w) (block_of c.args.block.now) (mode_of c.args.joint)) e ∙ c.loop-index.invariant.kept;
      same = λ h. c.loop-index.invariant.same h ∙ sym e;
    }

pub permit_items-returns-in_default : goal.permit_items-returns-in_default
permit_items-returns-in_default t c =
    let w = c.args.nets.now.tables in
    let g : slice_get (parts_of c.args.items.now) (c.loop-index.index - 1) ≡ Some (Turn c.in-Turn.term) = item-at c.args.items.now (c.loop-index.index - 1) c.index-items-index.result (omega arith) c.index-items-index.is ∙ ap (λ p. Some (part_of p)) c.in-Turn.is in
    let none = rw c.in_default.is at c.in_ok-front.ensures in
    items-fail (permits_of w) (block_of c.args.block.now) (mode_of c.args.joint) (parts_of c.args.items.now) (c.loop-index.index - 1) c.in-Turn.term g (sym c.in_ok-left.ensures ∙ none)

pub permit_items-loop-index-preserved : goal.permit_items-loop-index-preserved
permit_items-loop-index-preserved t c =
    let w = c.args.nets.now.tables in
    let m = mode_of c.args.joint in
    let ps = parts_of c.args.items.now in
    let x = c.in-Turn.term in
    let g : slice_get (parts_of c.args.items.now) (c.loop-index.index - 1) ≡ Some (Turn c.in-Turn.term) = item-at c.args.items.now (c.loop-index.index - 1) c.index-items-index.result (omega arith) c.index-items-index.is ∙ ap (λ p. Some (part_of p)) c.in-Turn.is in
    let (y, e, f, turns) = rw c.in-Some.is at c.in_ok-front.ensures in
    record {
      within = omega arith;
      turns = ap has_gap c.in_ok-kept-2.ensures ∙ turns-both c.in-Some.front c.loop-index.kept turns c.loop-index.invariant.turns;
      kept = items-next (permits_of w) (block_of c.args.block.now) m ps c.in-Some.front c.loop-index.kept c.in_ok-kept-2.kept (c.loop-index.index - 1) c.loop-index.index x y g (omega arith) (sym c.in_ok-left.ensures ∙ e) c.loop-index.invariant.kept f c.in_ok-kept-2.ensures;
      same = λ h.
          let (p, q) = or_parts c.loop-index.changed c.is_changed-changed.result h in
          items-same m ps c.in-Some.front c.loop-index.kept c.in_ok-kept-2.kept (c.loop-index.index - 1) c.loop-index.index x y g (omega arith) (each-at (IsPartOf m) ps (c.loop-index.index - 1) x g c.requires.open) (c.is_changed-changed.ensures x q y e) (c.loop-index.invariant.same p) f c.in_ok-kept-2.ensures;
    }

-- the parts of a choice
pub permit_choice-permit_term-requires : goal.permit_choice-permit_term-requires
permit_choice-permit_term-requires t c =
    let w = c.args.nets.now.tables in
    let xs = begun c.args.parts.now in
    let r = rank-at w xs c.loop-index.index c.term_at-part.result.now c.term_at-part.ensures in
    let s = rank-turns-only w c.args.parts.now c.requires.turns in
    (omega (arith, c.decreases, r, s), (c.requires.tables, ready-at w xs c.loop-index.index c.term_at-part.result.now c.term_at-part.ensures (ready-choice w (Choice (trees xs)) xs refl c.requires.choice)))

pub permit_choice-loop-index-preserved : goal.permit_choice-loop-index-preserved
permit_choice-loop-index-preserved t c =
    let k = permits_of c.args.nets.now.tables in
    let b = block_of c.args.block.now in
    let xs = begun c.args.parts.now in
    let x = c.term_at-part.result.now in
    elim c.match-branch-2.branch [
      | permit_choice-in-Fails w ↦ record {
        kept = some-skip k b xs c.loop-index.index x c.loop-index.kept c.loop-index.invariant.kept c.term_at-part.ensures (sym c.in_ok-permit_term.ensures ∙ ap (λ (l : Left). left_of l x) w.in-Fails.is) ∙ sym w.kept-is;
        same = λ h. let q : true ≡ false = sym w.changed-is ∙ h in cc;
      }
      | permit_choice-in-Unchanged+in_ok-copy-in-Unchanged+in_ok-push-in-Unchanged w ↦ record {
        kept = some-more k b xs c.loop-index.index x x c.loop-index.kept c.loop-index.invariant.kept c.term_at-part.ensures (sym c.in_ok-permit_term.ensures ∙ ap (λ (l : Left). left_of l x) w.in-Unchanged.is) ∙ sym (w.kept-is ∙ (w.in_ok-push-in-Unchanged.ensures.ok ∙ ap (λ y. c.loop-index.kept ++ y ∷ []) w.in_ok-copy-in-Unchanged.ensures));
        same = λ h.
            w.kept-is ∙ (w.in_ok-push-in-Unchanged.ensures.ok ∙ ((λ j. c.loop-index.invariant.same (sym w.changed-is ∙ h) j ++ w.in_ok-copy-in-Unchanged.ensures j ∷ []) ∙ sym (take_step xs c.loop-index.index x c.term_at-part.ensures)));
      }
      | permit_choice-in-Changed+in_ok-push-in-Changed w ↦ record {
        kept = some-more k b xs c.loop-index.index x w.in-Changed.left c.loop-index.kept c.loop-index.invariant.kept c.term_at-part.ensures (sym c.in_ok-permit_term.ensures ∙ ap (λ (l : Left). left_of l x) w.in-Changed.is) ∙ sym (w.kept-is ∙ w.in_ok-push-in-Changed.ensures.ok);
        same = λ h. let q : true ≡ false = sym w.changed-is ∙ h in cc;
      }
    ]

pub permit_choice-returns-then-not-changed : goal.permit_choice-returns-then-not-changed
permit_choice-returns-then-not-changed t c =
    choice-stays c.args.nets.now.tables (block_of c.args.block.now) (begun c.args.parts.now) c.loop-index.kept c.loop-index.index c.requires.choice (omega (arith, c.len-index-end.ensures, begun-length c.args.parts.now c.requires.turns, c.loop-index-test.false)) c.loop-index.invariant.kept (c.loop-index.invariant.same c.if-not-changed.true)

pub permit_choice-returns : goal.permit_choice-returns
permit_choice-returns t c =
    c.of.ensures (Choice (trees (begun c.args.parts.now))) ∙ (c.in_ok-left.ensures ∙ choice-kept c.args.nets.now.tables (block_of c.args.block.now) (begun c.args.parts.now) c.loop-index.kept c.loop-index.index (omega (arith, c.len-index-end.ensures, begun-length c.args.parts.now c.requires.turns, c.loop-index-test.false)) c.loop-index.invariant.kept)

-- a tie
pub permit_term-returns-in-Unchanged-3 : goal.permit_term-returns-in-Unchanged-3
permit_term-returns-in-Unchanged-3 t c =
    tied-stays c.args.nets.now.tables (block_of c.args.block.now) c.args.term.now c.in-Tied.inner.now (pairs_of c.in-Tied.pairs.now) c.in-Tied.ensures c.requires.term (sym c.in_ok-permit_term-in-Tied.ensures ∙ ap (λ (l : Left). left_of l c.in-Tied.inner.now) c.in-Unchanged-3.is)

pub permit_term-retied-requires-clause-once : goal.permit_term-retied-requires-clause-once
permit_term-retied-requires-clause-once t c = (tied_pairs c.args.nets.now.tables c.args.term.now c.in-Tied.inner.now (pairs_of c.in-Tied.pairs.now) c.in-Tied.ensures c.requires.term).1

pub permit_term-retied-requires-clause-shown : goal.permit_term-retied-requires-clause-shown
permit_term-retied-requires-clause-shown t c =
    shown_by_span c.range-gone.result (numbers c.in-Tied.inner.now) (numbers c.in-Changed-3.left) c.in-Tied.pairs.now (tied_pairs c.args.nets.now.tables c.args.term.now c.in-Tied.inner.now (pairs_of c.in-Tied.pairs.now) c.in-Tied.ensures c.requires.term).0
    (range_there c.in-Tied.inner.now c.facts.result.now c.range-gone.result c.facts.ensures c.range-gone.ensures)

-- rows
pub keep_items-keep_part-requires : goal.keep_items-keep_part-requires
keep_items-keep_part-requires t c =
    let w = c.args.nets.now.tables in
    let g = item-at c.args.items.now (c.loop-index.index - 1) c.index-items-index.result (omega arith) c.index-items-index.is in
    let r = rank-part w (parts_of c.args.items.now) (c.loop-index.index - 1) (part_of c.index-items-index.result) g in
    (omega (arith, c.decreases, r), (c.requires.tables, (c.requires.body, ready-part w (parts_of c.args.items.now) (c.loop-index.index - 1) (part_of c.index-items-index.result) g c.requires.row)))

pub keep_parts-returns-then-misses : goal.keep_parts-returns-then-misses
keep_parts-returns-then-misses t c =
    let w = c.args.nets.now.tables in
    let stay = row-misses (permits_of w) c.args.by.whole.now c.args.parts.now (normal-turns w c.args.parts.now (ready-turns w c.args.parts.now c.requires.row)) (sym c.misses.ensures ∙ c.if-misses.true) in
    ap Some c.in_ok-put_all.ensures
    ∙ sym (keep-whole (λ d. permit (permits_of w) (only d) c.args.turns.body.now) (λ y. permit (permits_of w) (block_of c.args.by.whole.now) y) c.args.turns.upper c.args.by.narrow.now.instances c.args.parts.now c.args.end.now (sym c.has_gap.ensures ∙ c.if-not-has_gap.true) c.requires.over stay)

pub keep_parts-keep_parts-requires : goal.keep_parts-keep_parts-requires
keep_parts-keep_parts-requires t c =
    let low = second_lower c.args.nets.now.tables c.args.parts.now c.in-Fork.first.now c.in-Fork.second.now c.in-Fork.ensures.0 c.in-Fork.ensures.1 in
    (omega (arith, c.decreases, low), (c.requires.tables, (c.requires.body, second_of_row c.args.nets.now.tables c.args.parts.now c.in-Fork.first.now c.in-Fork.second.now c.in-Fork.ensures.0 c.requires.row c.requires.over)))

pub keep_parts-keep_parts-requires-in-Fork : goal.keep_parts-keep_parts-requires-in-Fork
keep_parts-keep_parts-requires-in-Fork t c =
    let low = first_lower c.args.nets.now.tables c.args.parts.now c.in-Fork.first.now c.in-Fork.second.now c.in-Fork.ensures.0 c.in-Fork.ensures.2 in
    (omega (arith, c.decreases, low), (c.requires.tables, (c.requires.body, first_of_row c.args.nets.now.tables c.args.parts.now c.in-Fork.first.now c.in-Fork.second.now c.in-Fork.ensures.0 c.requires.row c.requires.over)))

pub keep_parts-returns-then-not-branch : goal.keep_parts-returns-then-not-branch
keep_parts-returns-then-not-branch t c =
    let w = c.args.nets.now.tables in
    let lost = if-lost _ _ _ c.in_ok-keep_parts-in-Fork.ensures cc in
    sym
    (ap (λ l. keep_parts (λ d. permit (permits_of w) (only d) c.args.turns.body.now) (λ y. permit (permits_of w) (block_of c.args.by.whole.now) y) c.args.turns.upper c.args.by.narrow.now.instances l c.args.end.now) c.in-Fork.ensures.0
    ∙ keep-lost (λ d. permit (permits_of w) (only d) c.args.turns.body.now) (λ y. permit (permits_of w) (block_of c.args.by.whole.now) y) c.args.turns.upper c.args.by.narrow.now.instances c.in-Fork.first.now c.in-Fork.second.now c.args.end.now lost)

pub keep_parts-returns-else-not-branch : goal.keep_parts-returns-else-not-branch
keep_parts-returns-else-not-branch t c =
    let w = c.args.nets.now.tables in
    let kept = if-kept _ _ _ c.in_ok-keep_parts-in-Fork.ensures cc in
    subst (λ (v : Option RowRest). IfOk c.keep_parts-in-Fork.result (λ kept. cond kept (Some c.keep_parts-in-Fork.new.end) None ≡ v))
    (sym
    (ap (λ l. keep_parts (λ d. permit (permits_of w) (only d) c.args.turns.body.now) (λ y. permit (permits_of w) (block_of c.args.by.whole.now) y) c.args.turns.upper c.args.by.narrow.now.instances l c.args.end.now) c.in-Fork.ensures.0
    ∙ keep-kept (λ d. permit (permits_of w) (only d) c.args.turns.body.now) (λ y. permit (permits_of w) (block_of c.args.by.whole.now) y) c.args.turns.upper c.args.by.narrow.now.instances c.in-Fork.first.now c.in-Fork.second.now c.args.end.now c.keep_parts.new.end kept))
    c.keep_parts-in-Fork.ensures

pub permit_term-widened_walk-requires-clause-from : goal.permit_term-widened_walk-requires-clause-from
permit_term-widened_walk-requires-clause-from t c = (ready-walk c.args.nets.now.tables c.args.term.now c.in-Walk.net c.in-Walk.from c.in-Walk.to c.in-Walk.own.now.instances c.requires.tables c.in-Walk.ensures c.requires.term).from

pub permit_term-widened_walk-requires-clause-to : goal.permit_term-widened_walk-requires-clause-to
permit_term-widened_walk-requires-clause-to t c = (ready-walk c.args.nets.now.tables c.args.term.now c.in-Walk.net c.in-Walk.from c.in-Walk.to c.in-Walk.own.now.instances c.requires.tables c.in-Walk.ensures c.requires.term).to
