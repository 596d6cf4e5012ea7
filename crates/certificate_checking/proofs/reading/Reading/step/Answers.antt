use Rattle.std.proofs.Common.{◌≡◌, ◌+◌, false, true, arith, drop, rules}
use Rattle.chart_term.specs.Tables.{terms_over}
use Rattle.certificate_texts.specs.Texts.{line_of, lines_of}
use Rattle.certificate_checking.specs.Tasks.{wants_line}
use Rattle.certificate_checking.proofs.Ending.{quiet_goes, line_goes, none_goes, next_line, no_next}
use Rattle.certificate_checking.proofs.reading.Reading.step.Goals as goal

pub returns-then-not-wants_line-clause-on : goal.returns-then-not-wants_line-clause-on
returns-then-not-wants_line-clause-on c =
    let w = terms_over c.args.nets.now.tables in
    let e : wants_line c.args.task ≡ false = search rules in
    quiet_goes w c.args.outline.now.terms c.args.task (drop c.args.self.now.read (lines_of c.args.lines.now)) c.quiet_step.result (c.quiet_step.ensures e w)

pub returns-then-self-lines-clause-on : goal.returns-then-self-lines-clause-on
returns-then-self-lines-clause-on c =
    let w = terms_over c.args.nets.now.tables in
    let e : wants_line c.args.task ≡ true = search rules in
    none_goes w c.args.outline.now.terms c.args.task (drop c.args.self.now.read (lines_of c.args.lines.now)) (drop c.args.self.now.read (lines_of c.args.lines.now)) e
    (no_next c.args.lines.now c.args.self.now.read (omega (arith, c.if-self-lines.true)))

pub returns-clause-on : goal.returns-clause-on
returns-clause-on c =
    let w = terms_over c.args.nets.now.tables in
    let e : wants_line c.args.task ≡ true = search rules in
    line_goes w c.args.outline.now.terms c.args.task (line_of c.line_at-line.result) (drop c.args.self.now.read (lines_of c.args.lines.now)) (drop (c.args.self.now.read + 1) (lines_of c.args.lines.now)) c.step_by.result e
    (next_line c.args.lines.now c.args.self.now.read c.line_at-line.result c.line_at-line.ensures) c.step_by.ensures
