use Rattle.std.proofs.Common.{◌≡◌, ◌<◌, ◌≤◌, ◌↔◌, ◌∙◌, ℕ, ap, sym, subst, arith, true, false, Bool, IsTrue, refl, length, ◌+◌}
use Rattle.hmsc_graph.specs.Graphs.{Net}
use Rattle.hmsc_graph.specs.Nets.{IsNet, size_of}
use Rattle.hmsc_graph.specs.Spots.{spot_of, goal_of}
use Rattle.chart_term.specs.NormalForms.{begun}
use Rattle.chart_term.specs.Rows.{part_of}
use Rattle.chart_term.proofs.Turns.{begun-length}
use Rattle.msc_base.specs.Patterns.{seq, par}
use Rattle.chart_term.specs.Tables.{net_of, nodes_of, terms_over}
use Rattle.chart_term.specs.Terms.{Tree, Loop, row_of}
use Rattle.hmsc_graph.specs.Walks.{Leads}
use Rattle.term_permission.specs.Endings.{AreEnding, EndsAs}
use Rattle.term_permission.specs.Ready.{IsReady}
use Rattle.term_laws.specs.Taking.{MayEnd, EndAll, EndOne, EndWalk}
use Rattle.term_permission.proofs.EndingFacts.{all-but, all-empty, all-at, but-more, but-skipped, ends_as, none-more, none-skipped, one-at, one-but, turns-first, turns-at, turns-part, seq-ends, par-ends, choice-ends, tied-ends, trail-ends, loop-not, loop-zero, loop-owed, walk-ends, ending-more, ok-map}
use Rattle.term_laws.proofs.Measures.{rank_in, rank_all, rank-choice, rank-join, rank-loop, rank-at, rank-par, rank-part, rank-seq, rank-some, rank-tied}
use Rattle.term_permission.proofs.NodeTerms.{node-is, sizes-are}
use Rattle.term_permission.proofs.PermitLoops.{ready-loop}
use Rattle.term_permission.proofs.PermitRows.{ready-part}
use Rattle.term_permission.proofs.PermitWalks.{ready-walk}
use Rattle.term_permission.proofs.Permits.{ready-at, ready-choice, ready-par, ready-seq, ready-tied}
use Rattle.term_laws.proofs.TermSentences.{net_rank}
use Rattle.term_permission.proofs.finishes.+may_end.Goals as goal
use Rattle.term_permission.proofs.finishes.+may_end.Goals.{all_may_end-else-index-heavy-via-then-index-heavy+in_ok-may_end+else-not-branch, all_may_end-else-index-heavy-via-else-index-heavy, one_may_end-else-index-heavy-via-then-index-heavy+in_ok-may_end+else-branch, one_may_end-else-index-heavy-via-else-index-heavy}

pub all_may_end-loop-index-init : goal.all_may_end-loop-index-init
all_may_end-loop-index-init t c = λ j x l n g. absurd (omega arith)

pub all_may_end-may_end-requires : goal.all_may_end-may_end-requires
all_may_end-may_end-requires t c =
    let r = rank-at c.args.nets.now.tables (begun c.args.parts.now) c.loop-index.index c.term_at.result.now c.term_at.ensures in
    (omega (arith, c.decreases, r), (c.requires.tables, ready-at c.args.nets.now.tables (begun c.args.parts.now) c.loop-index.index c.term_at.result.now c.term_at.ensures c.requires.parts))

pub all_may_end-returns-then-not-branch : goal.all_may_end-returns-then-not-branch
all_may_end-returns-then-not-branch t c =
    (λ e. cc, λ h. let q : c.in_ok-may_end.field-0 ≡ true = c.in_ok-may_end.ensures.1 (all-at (terms_over c.args.nets.now.tables) (begun c.args.parts.now) c.loop-index.index c.term_at.result.now c.term_at.ensures h) in cc)

pub all_may_end-loop-index-preserved : goal.all_may_end-loop-index-preserved
all_may_end-loop-index-preserved t c =
    let w = terms_over c.args.nets.now.tables in
    let xs = begun c.args.parts.now in
    elim c.else-index-heavy.branch [
      | all_may_end-else-index-heavy-via-then-index-heavy+in_ok-may_end+else-not-branch b ↦
          let e : b.in_ok-may_end.field-0 ≡ true = cc in
          but-more w xs c.heavier_end-heavy.result c.loop-index.index b.term_at.result.now b.term_at.ensures c.loop-index.invariant (b.in_ok-may_end.ensures.0 e)
      | all_may_end-else-index-heavy-via-else-index-heavy b ↦ but-skipped w xs c.heavier_end-heavy.result c.loop-index.index b.if-index-heavy.false c.loop-index.invariant
    ]

pub all_may_end-returns : goal.all_may_end-returns
all_may_end-returns t c =
    let w = c.args.nets.now.tables in
    let xs = begun c.args.parts.now in
    let over : length xs ≤ c.loop-index.index = omega (arith, c.loop-index-test.false, c.len-count.ensures, begun-length c.args.parts.now c.requires.turns) in
    record {
      ends = all-but (terms_over w) xs c.heavier_end-heavy.result c.loop-index.index c.term_at-2.result.now over c.term_at-2.ensures c.loop-index.invariant;
      ready = ready-at w xs c.heavier_end-heavy.result c.term_at-2.result.now c.term_at-2.ensures c.requires.parts;
      below = omega (arith, rank-at w xs c.heavier_end-heavy.result c.term_at-2.result.now c.term_at-2.ensures);
    }

pub one_may_end-may_end-requires : goal.one_may_end-may_end-requires
one_may_end-may_end-requires t c =
    let r = rank-at c.args.nets.now.tables (begun c.args.parts.now) c.loop-index.index c.term_at.result.now c.term_at.ensures in
    (omega (arith, c.decreases, r), (c.requires.tables, ready-at c.args.nets.now.tables (begun c.args.parts.now) c.loop-index.index c.term_at.result.now c.term_at.ensures c.requires.parts))

pub one_may_end-returns-then-branch : goal.one_may_end-returns-then-branch
one_may_end-returns-then-branch t c =
    let e : c.in_ok-may_end.field-0 ≡ true = cc in
    (λ i. one-at (terms_over c.args.nets.now.tables) (begun c.args.parts.now) c.loop-index.index c.term_at.result.now c.term_at.ensures (c.in_ok-may_end.ensures.0 e), λ h. refl)

pub one_may_end-loop-index-preserved : goal.one_may_end-loop-index-preserved
one_may_end-loop-index-preserved t c =
    let w = terms_over c.args.nets.now.tables in
    let xs = begun c.args.parts.now in
    elim c.else-index-heavy.branch [
      | one_may_end-else-index-heavy-via-then-index-heavy+in_ok-may_end+else-branch b ↦
          none-more w xs c.heavier_end-heavy.result c.loop-index.index b.term_at.result.now b.term_at.ensures c.loop-index.invariant (λ h. let q : b.in_ok-may_end.field-0 ≡ true = b.in_ok-may_end.ensures.1 h in cc)
      | one_may_end-else-index-heavy-via-else-index-heavy b ↦ none-skipped w xs c.heavier_end-heavy.result c.loop-index.index b.if-index-heavy.false c.loop-index.invariant
    ]

pub one_may_end-loop-index-init : goal.one_may_end-loop-index-init
one_may_end-loop-index-init t c = λ j x l n g m. absurd (omega arith)

pub one_may_end-returns : goal.one_may_end-returns
one_may_end-returns t c =
    let w = c.args.nets.now.tables in
    let xs = begun c.args.parts.now in
    let over : length xs ≤ c.loop-index.index = omega (arith, c.loop-index-test.false, c.len-count.ensures, begun-length c.args.parts.now c.requires.turns) in
    record {
      ends = one-but (terms_over w) xs c.heavier_end-heavy.result c.loop-index.index c.term_at-2.result.now over c.term_at-2.ensures c.loop-index.invariant;
      ready = ready-at w xs c.heavier_end-heavy.result c.term_at-2.result.now c.term_at-2.ensures c.requires.parts;
      below = omega (arith, rank-at w xs c.heavier_end-heavy.result c.term_at-2.result.now c.term_at-2.ensures);
    }

pub turns_may_end-loop-index-init : goal.turns_may_end-loop-index-init
turns_may_end-loop-index-init t c = turns-first (terms_over c.args.nets.now.tables) c.args.row.now

pub turns_may_end-part_may_end-requires : goal.turns_may_end-part_may_end-requires
turns_may_end-part_may_end-requires t c =
    let r = rank-part c.args.nets.now.tables c.args.row.now c.loop-index.index (part_of c.at.result.now) c.at.ensures in
    (omega (arith, c.decreases), (c.requires.tables, ready-part c.args.nets.now.tables c.args.row.now c.loop-index.index (part_of c.at.result.now) c.at.ensures c.requires.row))

pub turns_may_end-returns-then-not-branch : goal.turns_may_end-returns-then-not-branch
turns_may_end-returns-then-not-branch t c =
    (λ e. cc, λ h. let q : c.in_ok-part_may_end.field-0 ≡ true = c.in_ok-part_may_end.ensures.1 (turns-at (terms_over c.args.nets.now.tables) c.args.row.now c.loop-index.index (part_of c.at.result.now) c.at.ensures h) in cc)

pub turns_may_end-loop-index-preserved : goal.turns_may_end-loop-index-preserved
turns_may_end-loop-index-preserved t c =
    let e : c.in_ok-part_may_end.field-0 ≡ true = cc in
    turns-part (terms_over c.args.nets.now.tables) c.args.row.now c.loop-index.index (part_of c.at.result.now) c.at.ensures c.loop-index.invariant (c.in_ok-part_may_end.ensures.0 e)

pub ending_nodes-node-requires-clause-node : goal.ending_nodes-node-requires-clause-node
ending_nodes-node-requires-clause-node t c =
    let size : size_of c.net.result.now ≡ size_of (net_of c.args.nets.now.tables c.args.net) = ap size_of c.net.ensures.net in
    let sized : size_of (net_of c.args.nets.now.tables c.args.net) ≡ length (nodes_of c.args.nets.now.tables c.args.net) = sizes-are c.args.nets.now.tables c.requires.tables c.args.net c.requires.net in
    omega (arith, c.size-size.ensures.size, c.loop-node-test.true)

pub ending_nodes-may_end-requires : goal.ending_nodes-may_end-requires
ending_nodes-may_end-requires t c =
    let w = c.args.nets.now.tables in
    let size : size_of c.net.result.now ≡ size_of (net_of w c.args.net) = ap size_of c.net.ensures.net in
    let sized : size_of (net_of w c.args.net) ≡ length (nodes_of w c.args.net) = sizes-are w c.requires.tables c.args.net c.requires.net in
    let i = node-is w c.requires.tables c.args.net c.loop-node.node c.requires.net (omega (arith, c.size-size.ensures.size, c.loop-node-test.true)) in
    let r : rank_in w c.node.result.now ≤ net_rank w c.args.net = subst (λ (y : Tree). rank_in w y ≤ net_rank w c.args.net) (sym c.node.ensures) i.rank in
    (omega (arith, c.decreases), (c.requires.tables, subst (λ (y : Tree). IsReady w y) (sym c.node.ensures) i.ready))

pub ending_nodes-loop-node-preserved : goal.ending_nodes-loop-node-preserved
ending_nodes-loop-node-preserved t c =
    let w = c.args.nets.now.tables in
    record {
      size = c.add_where.ensures.size ∙ c.loop-node.invariant.size;
      ending = ending-more w c.args.net c.loop-node.node _ _ c.in_ok-ends.ends (subst (λ (y : Tree). IsTrue c.in_ok-ends.ends ↔ MayEnd (terms_over w) y) c.node.ensures c.in_ok-ends.ensures) c.loop-node.invariant.ending c.add_where.ensures.nodes;
    }

pub ending_nodes-returns-clause-nodes : goal.ending_nodes-returns-clause-nodes
ending_nodes-returns-clause-nodes t c =
    let w = c.args.nets.now.tables in
    let size : size_of c.net.result.now ≡ size_of (net_of w c.args.net) = ap size_of c.net.ensures.net in
    let last : c.loop-node.node ≡ size_of (net_of w c.args.net) = omega (arith, c.size-size.ensures.size, c.loop-node-test.false) in
    subst (λ (m : ℕ). AreEnding w c.args.net m c.loop-node.nodes.nodes) last c.loop-node.invariant.ending

pub ending_nodes-returns-clause-net : goal.ending_nodes-returns-clause-net
ending_nodes-returns-clause-net t c = subst (λ (g : Net). IsNet g) c.net.ensures.net c.size-size.ensures.net

pub loop_may_end-returns-then-not-branch : goal.loop_may_end-returns-then-not-branch
loop_may_end-returns-then-not-branch t c =
    let e : c.in_ok-turns_may_end.field-0 ≡ false = cc in
    subst (λ (b : Bool). IsTrue b ↔ MayEnd (terms_over c.args.nets.now.tables) (Loop c.args.body.now c.args.lower c.args.upper (row_of c.args.row.now))) e
    (loop-not (terms_over c.args.nets.now.tables) c.args.body.now c.args.lower c.args.upper c.args.row.now c.in_ok-turns_may_end.field-0 c.in_ok-turns_may_end.ensures e)

pub loop_may_end-returns-then-lower-eq0 : goal.loop_may_end-returns-then-lower-eq0
loop_may_end-returns-then-lower-eq0 t c =
    let e : c.in_ok-turns_may_end.field-0 ≡ true = cc in
    let z : c.args.lower ≡ 0 = omega (arith, c.if-lower-eq0.true) in
    subst (λ (b : Bool). IsTrue b ↔ MayEnd (terms_over c.args.nets.now.tables) (Loop c.args.body.now c.args.lower c.args.upper (row_of c.args.row.now))) e
    (loop-zero (terms_over c.args.nets.now.tables) c.args.body.now c.args.lower c.args.upper c.args.row.now c.in_ok-turns_may_end.field-0 c.requires.row.normal.some c.in_ok-turns_may_end.ensures z)

pub loop_may_end-returns : goal.loop_may_end-returns
loop_may_end-returns t c =
    let e : c.in_ok-turns_may_end.field-0 ≡ true = cc in
    let z : 0 < c.args.lower = omega (arith, c.if-lower-eq0.false) in
    ok-map (λ (b : Bool). IsTrue b ↔ MayEnd (terms_over c.args.nets.now.tables) c.args.body.now) (λ (b : Bool). IsTrue b ↔ MayEnd (terms_over c.args.nets.now.tables) (Loop c.args.body.now c.args.lower c.args.upper (row_of c.args.row.now))) c.may_end.result
    (λ b h. loop-owed (terms_over c.args.nets.now.tables) c.args.body.now c.args.lower c.args.upper c.args.row.now c.in_ok-turns_may_end.field-0 b c.requires.row.normal.some c.in_ok-turns_may_end.ensures e z h) c.may_end.ensures

pub ending_of-loop_may_end-requires : goal.ending_of-loop_may_end-requires
ending_of-loop_may_end-requires t c =
    let r = rank-loop c.args.nets.now.tables c.args.term.now c.in-Loop.body.now c.in-Loop.lower c.in-Loop.upper c.in-Loop.row.now c.in-Loop.ensures in
    (omega (arith, c.decreases), (c.requires.tables, ready-loop c.args.nets.now.tables c.args.term.now c.in-Loop.body.now c.in-Loop.lower c.in-Loop.upper c.in-Loop.row.now c.in-Loop.ensures c.requires.term))

pub ending_of-walk_may_end-requires : goal.ending_of-walk_may_end-requires
ending_of-walk_may_end-requires t c =
    let r = ready-walk c.args.nets.now.tables c.args.term.now c.in-Walk.net c.in-Walk.from c.in-Walk.to _ c.requires.tables c.in-Walk.ensures c.requires.term in
    (omega (arith, c.decreases, r.rank), (c.requires.tables, (r.net, (r.from, r.to))))

pub ending_of-returns-in-Seq : goal.ending_of-returns-in-Seq
ending_of-returns-in-Seq t c =
    let w = c.args.nets.now.tables in
    ok-map (EndsAs w (EndAll (terms_over w) (begun c.in-Seq.parts.now)) (rank_all w (begun c.in-Seq.parts.now) + 1)) (EndsAs w (MayEnd (terms_over w) c.args.term.now) (rank_in w c.args.term.now)) c.all_may_end.result
    (λ r h. ends_as w (EndAll (terms_over w) (begun c.in-Seq.parts.now)) (MayEnd (terms_over w) c.args.term.now) (rank_all w (begun c.in-Seq.parts.now) + 1) (rank_in w c.args.term.now) r (seq-ends (terms_over w) c.args.term.now (begun c.in-Seq.parts.now) c.in-Seq.ensures.0) (omega (arith, rank-seq w c.args.term.now (begun c.in-Seq.parts.now) c.in-Seq.ensures.0)) h) c.all_may_end.ensures

pub ending_of-returns-in-Par : goal.ending_of-returns-in-Par
ending_of-returns-in-Par t c =
    let w = c.args.nets.now.tables in
    ok-map (EndsAs w (EndAll (terms_over w) (begun c.in-Par.parts.now)) (rank_all w (begun c.in-Par.parts.now) + 1)) (EndsAs w (MayEnd (terms_over w) c.args.term.now) (rank_in w c.args.term.now)) c.all_may_end-in-Par.result
    (λ r h. ends_as w (EndAll (terms_over w) (begun c.in-Par.parts.now)) (MayEnd (terms_over w) c.args.term.now) (rank_all w (begun c.in-Par.parts.now) + 1) (rank_in w c.args.term.now) r (par-ends (terms_over w) c.args.term.now (begun c.in-Par.parts.now) c.in-Par.ensures.0) (omega (arith, rank-par w c.args.term.now (begun c.in-Par.parts.now) c.in-Par.ensures.0)) h) c.all_may_end-in-Par.ensures

pub ending_of-returns-in-Choice : goal.ending_of-returns-in-Choice
ending_of-returns-in-Choice t c =
    let w = c.args.nets.now.tables in
    ok-map (EndsAs w (EndOne (terms_over w) (begun c.in-Choice.parts.now)) (rank_all w (begun c.in-Choice.parts.now) + 1)) (EndsAs w (MayEnd (terms_over w) c.args.term.now) (rank_in w c.args.term.now)) c.one_may_end.result
    (λ r h. ends_as w (EndOne (terms_over w) (begun c.in-Choice.parts.now)) (MayEnd (terms_over w) c.args.term.now) (rank_all w (begun c.in-Choice.parts.now) + 1) (rank_in w c.args.term.now) r (choice-ends (terms_over w) c.args.term.now (begun c.in-Choice.parts.now) c.in-Choice.ensures.0) (omega (arith, rank-some w c.args.term.now (begun c.in-Choice.parts.now) c.in-Choice.ensures.0)) h) c.one_may_end.ensures

pub ending_of-all_may_end-requires : goal.ending_of-all_may_end-requires
ending_of-all_may_end-requires t c =
    let w = c.args.nets.now.tables in
    let r : rank_in w c.args.term.now ≡ 1 + rank_all w (begun c.in-Seq.parts.now) = ap (rank_in w) c.in-Seq.ensures.0 ∙ rank-join w seq (begun c.in-Seq.parts.now) in
    (omega (arith, c.decreases, r), (c.requires.tables, (c.in-Seq.ensures.1, ready-seq w c.args.term.now (begun c.in-Seq.parts.now) c.in-Seq.ensures.0 c.requires.term)))

pub ending_of-all_may_end-requires-in-Par : goal.ending_of-all_may_end-requires-in-Par
ending_of-all_may_end-requires-in-Par t c =
    let w = c.args.nets.now.tables in
    let r : rank_in w c.args.term.now ≡ 1 + rank_all w (begun c.in-Par.parts.now) = ap (rank_in w) c.in-Par.ensures.0 ∙ rank-join w par (begun c.in-Par.parts.now) in
    (omega (arith, c.decreases, r), (c.requires.tables, (c.in-Par.ensures.1, ready-par w c.args.term.now (begun c.in-Par.parts.now) c.in-Par.ensures.0 c.requires.term)))

pub ending_of-one_may_end-requires : goal.ending_of-one_may_end-requires
ending_of-one_may_end-requires t c =
    let w = c.args.nets.now.tables in
    let r : rank_in w c.args.term.now ≡ 1 + rank_all w (begun c.in-Choice.parts.now) = ap (rank_in w) c.in-Choice.ensures.0 ∙ rank-choice w (begun c.in-Choice.parts.now) in
    (omega (arith, c.decreases, r), (c.requires.tables, (c.in-Choice.ensures.1, ready-choice w c.args.term.now (begun c.in-Choice.parts.now) c.in-Choice.ensures.0 c.requires.term)))

pub ending_of-returns-in-Tied : goal.ending_of-returns-in-Tied
ending_of-returns-in-Tied t c =
    let w = c.args.nets.now.tables in
    record {
      ends = tied-ends (terms_over w) c.args.term.now c.in-Tied.inner.now _ c.in-Tied.ensures;
      ready = ready-tied w c.args.term.now c.in-Tied.inner.now _ c.in-Tied.ensures c.requires.term;
      below = rank-tied w c.args.term.now c.in-Tied.inner.now _ c.in-Tied.ensures;
    }

pub ending_of-returns-in_ok-walk_may_end-in-Walk : goal.ending_of-returns-in_ok-walk_may_end-in-Walk
ending_of-returns-in_ok-walk_may_end-in-Walk t c = trail-ends (terms_over c.args.nets.now.tables) c.in_ok-walk_may_end-in-Walk.field-0 c.args.term.now c.in-Walk.net (spot_of c.in-Walk.from) (goal_of c.in-Walk.to) _ c.in-Walk.ensures c.in_ok-walk_may_end-in-Walk.ensures

pub all_may_end-returns-then-count-eq0 : goal.all_may_end-returns-then-count-eq0
all_may_end-returns-then-count-eq0 t c = (λ e. all-empty (terms_over c.args.nets.now.tables) (begun c.args.parts.now) (omega (arith, begun-length c.args.parts.now c.requires.turns, c.len-count.ensures, c.if-count-eq0.true)), λ h. refl)

pub walk_may_end-returns : goal.walk_may_end-returns
walk_may_end-returns t c =
    ok-map (λ (b : Bool). IsTrue b ↔ Leads c.net.result.now c.in_ok-ending.ending.nodes (spot_of c.args.from) (goal_of c.finish.result)) (λ (b : Bool). IsTrue b ↔ EndWalk (terms_over c.args.nets.now.tables) c.args.net (spot_of c.args.from) (goal_of c.args.to)) c.has_walk.result
    (λ b h. walk-ends c.args.nets.now.tables c.args.net c.in_ok-ending.ending.nodes c.in_ok-ending.ensures.net c.in_ok-ending.ensures.nodes (spot_of c.args.from) (goal_of c.args.to) (goal_of c.finish.result) c.net.result.now b c.finish.ensures c.net.ensures.net h) c.has_walk.ensures
