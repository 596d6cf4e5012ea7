use Rattle.std.proofs.Common.{ℕ, List, sym, subst}
use Rattle.label_lines.specs.ReadingBack.{IsLineOf, SaysLabel}
use Rattle.label_lines.proofs.LabelBack.{line_says, text_says}
use Rattle.label_lines.proofs.line.label_text.Goals as goal

pub returns-clause-reads_back : goal.returns-clause-reads_back
returns-clause-reads_back c = λ bytes h. subst (λ (text : List ℕ). SaysLabel text c.args.label.now) (sym c.in_ok-text.ensures) (text_says bytes c.args.label.now h)

pub returns-clause-line : goal.returns-clause-line
returns-clause-line c = λ bytes h. subst (λ (text : List ℕ). IsLineOf text c.args.label.now) (sym c.in_ok-text.ensures) (line_says bytes c.args.label.now h)
