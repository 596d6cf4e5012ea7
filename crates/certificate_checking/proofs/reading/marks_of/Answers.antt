use Rattle.std.proofs.Common.{◌≡◌, ◌++◌, ◌∷◌, [], None, Some, drop, rules, sym, subst}
use Rattle.std.specs.Option.{option_to_list}
use Rattle.chart_term.specs.Tables.{terms_over}
use Rattle.certificate_texts.specs.Texts.{lines_of}
use Rattle.certificate_checking.specs.Tasks.{GoesOn}
use Rattle.certificate_checking.proofs.Ending.{read_on, read_stuck, read_end}
use Rattle.certificate_checking.proofs.reading.marks_of.Goals as goal

pub returns-in_default : goal.returns-in_default
returns-in_default c = λ x o.
    let w = terms_over c.args.nets.now.tables in
    let none : c.loop.reading.tasks.items ≡ [] = search rules in
    read_end w c.args.outline.now.terms (λ m. m.items) x c.args.lines.now c.loop.reading.read c.loop.reading.marks.items c.loop.reading.tasks.items o.outlined.root none c.loop.invariant.is c.whole_marks-marks.result (search rules) (search rules)

pub returns-in-None : goal.returns-in-None
returns-in-None c = λ x o.
    let w = terms_over c.args.nets.now.tables in
    let some : c.loop.reading.tasks.items ≡ c.next_task.new.self.tasks.items ++ c.in-Some.task ∷ [] = c.in-Some.ensures.some in
    let stuck : GoesOn w c.args.outline.now.terms c.in-Some.task (drop c.loop.reading.read (lines_of c.args.lines.now)) (drop c.step.new.self.read (lines_of c.args.lines.now)) None = search rules in
    read_stuck w c.args.outline.now.terms (lines_of c.args.lines.now) (drop c.loop.reading.read (lines_of c.args.lines.now)) (drop c.step.new.self.read (lines_of c.args.lines.now)) c.loop.reading.marks.items c.loop.reading.tasks.items c.next_task.new.self.tasks.items c.in-Some.task x
    o.outlined.root some stuck c.loop.invariant.is

pub loop-preserved : goal.loop-preserved
loop-preserved c =
    let w = terms_over c.args.nets.now.tables in
    let some : c.loop.reading.tasks.items ≡ c.next_task.new.self.tasks.items ++ c.in-Some.task ∷ [] = c.in-Some.ensures.some in
    let goes : GoesOn w c.args.outline.now.terms c.in-Some.task (drop c.loop.reading.read (lines_of c.args.lines.now)) (drop c.step.new.self.read (lines_of c.args.lines.now)) (Some c.in-Some-step.step) = search rules in
    let marks : c.go.new.self.marks.items ≡ c.loop.reading.marks.items ++ option_to_list c.in-Some-step.step.mark = search rules in
    let tasks : c.go.new.self.tasks.items ≡ c.next_task.new.self.tasks.items ++ (option_to_list c.in-Some-step.step.then ++ option_to_list c.in-Some-step.step.first) = search rules in
    record {
      read = search rules;
      is = read_on w c.args.outline.now.terms (lines_of c.args.lines.now) (drop c.loop.reading.read (lines_of c.args.lines.now)) (drop c.go.new.self.read (lines_of c.args.lines.now)) c.loop.reading.marks.items c.go.new.self.marks.items
          c.loop.reading.tasks.items c.next_task.new.self.tasks.items c.go.new.self.tasks.items c.in-Some.task c.in-Some-step.step some
          (subst (λ (n : _). GoesOn w c.args.outline.now.terms c.in-Some.task (drop c.loop.reading.read (lines_of c.args.lines.now)) (drop n (lines_of c.args.lines.now)) (Some c.in-Some-step.step)) (sym c.in_ok-go-in-Some-step.ensures.read) goes) marks tasks c.loop.invariant.is;
    }
