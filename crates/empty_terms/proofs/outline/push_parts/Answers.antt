use Rattle.std.proofs.Common.{◌≡◌, ◌∙◌, ◌++◌, ap, sym}
use Rattle.chart_term.specs.NormalForms.{begun}
use Rattle.empty_terms.specs.Outlines.{parts_in}
use Rattle.empty_terms.proofs.Numbering.{on_ok, seq_parts, par_parts, choice_parts}
use Rattle.empty_terms.proofs.outline.push_parts.Goals as goal

pub returns-in-Seq : goal.returns-in-Seq
returns-in-Seq c =
    on_ok (c.push_turns.new.terms ≡ c.args.terms.now ++ begun c.in-Seq.parts.now) (c.push_turns.new.terms ≡ c.args.terms.now ++ parts_in c.args.term.now) c.push_turns.result
    (λ e. e ∙ ap (λ l. c.args.terms.now ++ l) (sym (seq_parts c.args.term.now (begun c.in-Seq.parts.now) c.in-Seq.ensures.0))) c.push_turns.ensures

pub returns-in-Par : goal.returns-in-Par
returns-in-Par c =
    on_ok (c.push_turns-in-Par.new.terms ≡ c.args.terms.now ++ begun c.in-Par.parts.now) (c.push_turns-in-Par.new.terms ≡ c.args.terms.now ++ parts_in c.args.term.now) c.push_turns-in-Par.result
    (λ e. e ∙ ap (λ l. c.args.terms.now ++ l) (sym (par_parts c.args.term.now (begun c.in-Par.parts.now) c.in-Par.ensures.0))) c.push_turns-in-Par.ensures

pub returns-in-Choice : goal.returns-in-Choice
returns-in-Choice c =
    on_ok (c.push_turns-in-Choice.new.terms ≡ c.args.terms.now ++ begun c.in-Choice.parts.now) (c.push_turns-in-Choice.new.terms ≡ c.args.terms.now ++ parts_in c.args.term.now) c.push_turns-in-Choice.result
    (λ e. e ∙ ap (λ l. c.args.terms.now ++ l) (sym (choice_parts c.args.term.now (begun c.in-Choice.parts.now) c.in-Choice.ensures.0))) c.push_turns-in-Choice.ensures
