use Rattle.std.proofs.Common.{◌∙◌, arith, sym}
use Rattle.std.proofs.lemmas.Bool.{true≢false}
use Rattle.shared_parts.proofs.Pairs.{IsAlikeJoin, always, as_long, compared_all, compared_more, compared_other, joins_of, never, of_joins}
use Rattle.shared_parts.proofs.joins.same_joins.Goals as goal

pub loop-index-preserved : goal.loop-index-preserved
loop-index-preserved c =
    compared_more IsAlikeJoin c.args.a.now c.args.b.now c.loop-index.index c.index-a-index.result c.index-b-index.result c.loop-index-test.true (omega (arith, c.loop-index-test.true, c.if-a-b.false))
    c.index-a-index.is c.index-b-index.is (c.same_join.ensures.0 c.if-not-same_join.false) c.loop-index.invariant

pub returns : goal.returns
returns c =
    always (joins_of c.args.a.now c.args.b.now
    (compared_all IsAlikeJoin c.args.a.now c.args.b.now c.loop-index.index c.loop-index-test.false (omega (arith, c.loop-index-test.false, c.if-a-b.false)) c.loop-index.invariant))

pub returns-then-a-b : goal.returns-then-a-b
returns-then-a-b c = never (λ same. c.if-a-b.true (as_long IsAlikeJoin c.args.a.now c.args.b.now (of_joins c.args.a.now c.args.b.now same)))

pub returns-then-not-same_join : goal.returns-then-not-same_join
returns-then-not-same_join c =
    never (λ same. compared_other IsAlikeJoin c.args.a.now c.args.b.now c.loop-index.index c.index-a-index.result c.index-b-index.result c.loop-index-test.true (omega (arith, c.loop-index-test.true, c.if-a-b.false))
    c.index-a-index.is c.index-b-index.is (λ e. true≢false (sym (c.same_join.ensures.1 e) ∙ c.if-not-same_join.true)) c.loop-index.invariant (of_joins c.args.a.now c.args.b.now same))
