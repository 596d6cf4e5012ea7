use Rattle.std.proofs.Common.{◌≡◌, ◌∙◌, ◌-◌, ap, subst, arith, Some, slice_get}
use Rattle.bit_sets.specs.Blocks.{BlockValue}
use Rattle.chart_term.specs.Rows.{part_of}
use Rattle.chart_term.specs.Terms.{Turn, has}
use Rattle.chart_term.specs.declared.term.RowPart.{RowPart}
use Rattle.term_permission.specs.Ready.{IsReadyPart}
use Rattle.term_permission.proofs.PassingFacts.{says_none}
use Rattle.term_step.proofs.Passes.{skip-behind}
use Rattle.term_laws.specs.Permission.{permit, permits_of}
use Rattle.term_laws.specs.Values.{block_of}
use Rattle.term_permission.proofs.PermitRows.{ready-part}
use Rattle.term_step.proofs.descent.blocked.Goals as goal

pub ask_term-requires-clause-term : goal.ask_term-requires-clause-term
ask_term-requires-clause-term c = subst (λ (p : RowPart). IsReadyPart c.args.nets.now.tables (part_of p)) c.in-Turn.is (ready-part c.args.nets.now.tables c.args.parts.now (c.args.from - 1) (part_of c.at.result.now) c.at.ensures c.requires.parts)

pub returns-in_ok-skip-in-Turn : goal.returns-in_ok-skip-in-Turn
returns-in_ok-skip-in-Turn c =
    let there : slice_get c.args.parts.now (c.args.from - 1) ≡ Some (Turn c.in-Turn.turn) = c.at.ensures ∙ ap (λ (p : RowPart). Some (part_of p)) c.in-Turn.is in
    let taken = rw c.in-Some.is at c.requires.met in
    record {
      skip =
          skip-behind c.args.nets.now.tables c.in-Some.met c.args.parts.now c.args.from (c.args.from - 1) c.in-Turn.turn c.in_ok-skip-in-Turn.skip.instances taken (c.is_alone.ensures c.if-not-is_alone.false) (omega arith) there
          (subst (λ (p : RowPart). IsReadyPart c.args.nets.now.tables (part_of p)) c.in-Turn.is (ready-part c.args.nets.now.tables c.args.parts.now (c.args.from - 1) (part_of c.at.result.now) c.at.ensures c.requires.parts))
          (says_none c.in_ok-left-in-Turn.left (permit (permits_of c.args.nets.now.tables) (block_of c.in-Some.met.at) c.in-Turn.turn) (c.fails.ensures.yes c.if-not-fails.false) c.in_ok-left-in-Turn.ensures) (λ n. ap (λ (b : BlockValue). has b.instances n) c.in_ok-skip-in-Turn.ensures.copy);
      event = c.in-Some.met;
      is_met = c.in-Some.is;
      same = λ n. ap (λ (b : BlockValue). has b.instances n) c.in_ok-skip-in-Turn.ensures.copy;
    }
