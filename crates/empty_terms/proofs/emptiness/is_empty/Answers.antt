use Rattle.std.proofs.Common.{◌∙◌, true, length, ap, sym, arith, refl}
use Rattle.chart_term.specs.NormalForms.{begun}
use Rattle.chart_term.specs.Tables.{terms_over}
use Rattle.chart_term.specs.Terms.{row_of}
use Rattle.chart_term.proofs.Turns.{begun-length}
use Rattle.hmsc_graph.specs.Spots.{spot_of, goal_of}
use Rattle.empty_terms.proofs.Numbering.{seq_parts, par_parts, choice_parts}
use Rattle.empty_terms.proofs.Emptying.{nil_told, seq_told, par_told, one_told, tied_told, zero_told, owed_told, walk_by}
use Rattle.empty_terms.proofs.emptiness.is_empty.Goals as goal

pub all_are-requires : goal.all_are-requires
all_are-requires c = λ j l. c.requires.parts j (omega (arith, l, c.len.ensures, begun-length c.in-Seq.parts.now c.in-Seq.ensures.1, ap length (seq_parts c.args.term.now (begun c.in-Seq.parts.now) c.in-Seq.ensures.0)))

pub all_are-requires-in-Par : goal.all_are-requires-in-Par
all_are-requires-in-Par c = λ j l. c.requires.parts j (omega (arith, l, c.len-in-Par.ensures, begun-length c.in-Par.parts.now c.in-Par.ensures.1, ap length (par_parts c.args.term.now (begun c.in-Par.parts.now) c.in-Par.ensures.0)))

pub one_is-requires : goal.one_is-requires
one_is-requires c = λ j l. c.requires.parts j (omega (arith, l, c.len-in-Choice.ensures, begun-length c.in-Choice.parts.now c.in-Choice.ensures.1, ap length (choice_parts c.args.term.now (begun c.in-Choice.parts.now) c.in-Choice.ensures.0)))

pub returns-in-Nil : goal.returns-in-Nil
returns-in-Nil c = λ w known told. nil_told (terms_over w) c.args.term.now true c.in-Nil.ensures refl

pub returns-in-Seq : goal.returns-in-Seq
returns-in-Seq c = λ w known told. seq_told (terms_over w) c.args.term.now (begun c.in-Seq.parts.now) c.args.answers.now c.args.first c.len.result c.all_are.result c.in-Seq.ensures.0
    (c.len.ensures ∙ sym (begun-length c.in-Seq.parts.now c.in-Seq.ensures.1)) c.all_are.ensures told

pub returns-in-Par : goal.returns-in-Par
returns-in-Par c = λ w known told. par_told (terms_over w) c.args.term.now (begun c.in-Par.parts.now) c.args.answers.now c.args.first c.len-in-Par.result c.all_are-in-Par.result c.in-Par.ensures.0
    (c.len-in-Par.ensures ∙ sym (begun-length c.in-Par.parts.now c.in-Par.ensures.1)) c.all_are-in-Par.ensures told

pub returns-in-Choice : goal.returns-in-Choice
returns-in-Choice c = λ w known told. one_told (terms_over w) c.args.term.now (begun c.in-Choice.parts.now) c.args.answers.now c.args.first c.len-in-Choice.result c.one_is.result c.in-Choice.ensures.0
    (c.len-in-Choice.ensures ∙ sym (begun-length c.in-Choice.parts.now c.in-Choice.ensures.1)) c.one_is.ensures told

pub returns-in-Tied : goal.returns-in-Tied
returns-in-Tied c = λ w known told. tied_told (terms_over w) c.args.term.now c.in-Tied.field-0.now _ c.args.answers.now c.args.first c.answer_at.result c.in-Tied.ensures c.answer_at.ensures told

pub returns-then-lower-eq0 : goal.returns-then-lower-eq0
returns-then-lower-eq0 c = λ w known told. zero_told (terms_over w) c.args.term.now c.in-Loop.body.now c.in-Loop.lower c.in-Loop.upper (row_of c.in-Loop.row.now) c.in-Loop.ensures c.requires.unbegun c.if-lower-eq0.true

pub returns-else-lower-eq0 : goal.returns-else-lower-eq0
returns-else-lower-eq0 c = λ w known told. owed_told (terms_over w) c.args.term.now c.in-Loop.body.now c.in-Loop.lower c.in-Loop.upper (row_of c.in-Loop.row.now) c.args.answers.now c.args.first c.answer_at-else-lower-eq0.result c.in-Loop.ensures c.requires.unbegun (omega (arith, c.if-lower-eq0.false)) c.answer_at-else-lower-eq0.ensures told

pub returns-in-Walk : goal.returns-in-Walk
returns-in-Walk c = λ w known told. walk_by (terms_over w) c.args.term.now c.in-Walk.net (spot_of c.in-Walk.from) (goal_of c.in-Walk.to) _ c.args.walks.now c.answer_at-in-Walk.result c.in-Walk.ensures c.requires.unbegun c.requires.below c.answer_at-in-Walk.ensures known
