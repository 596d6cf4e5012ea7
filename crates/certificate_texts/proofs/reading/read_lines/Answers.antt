use Rattle.std.proofs.Common.{◌≡◌, Some, Option, MatchOption, [], arith, subst, rules}
use Rattle.std.proofs.lemmas.Grind.{common_steps}
use Rattle.certificate_texts.specs.Levels.{CannotFollow, IsLine, levels_behind}
use Rattle.certificate_texts.specs.Readings.{text_lines}
use Rattle.certificate_texts.specs.Texts.{line_of}
use Rattle.certificate_texts.specs.declared.line.CertificateLine.{CertificateLine}
use Rattle.certificate_texts.proofs.Loops.{apart, ends, goes_on, lacks, starts, stops}
use Rattle.certificate_texts.proofs.reading.read_lines.Goals as goal

pub loop-rest-init : goal.loop-rest-init
loop-rest-init c = record {
  at = starts c.args.bytes.now c.new-held.result.items c.in_ok-missing.missing c.new-held.ensures.items c.in_ok-missing.ensures;
  room = omega arith;
}

pub loop-rest-preserved : goal.loop-rest-preserved
loop-rest-preserved c =
    let text = c.cut_line.result.0.now in
    let follows = subst (λ (f : Option CertificateLine). MatchOption f (CannotFollow c.loop-rest.missing text)
    (λ line. IsLine text (line_of line) × (levels_behind c.loop-rest.missing (line_of line) ≡ Some c.next_line.new.missing))) c.in-Some.is c.in_ok-found.ensures in
    record {
      at = goes_on (text_lines c.args.bytes.now) c.loop-rest.held.items c.keep.new.held.items c.loop-rest.missing c.next_line.new.missing c.loop-rest.rest.now text c.cut_line.result.1.now c.in-Some.line c.loop-rest.number
          c.loop-rest.invariant.at c.cut_line.ensures.lines follows c.in_ok-keep-in-Some.ensures;
      room = omega (arith, c.loop-rest.invariant.room, c.cut_line.ensures.shorter);
    }

pub returns-in-None-clause-fault : goal.returns-in-None-clause-fault
returns-in-None-clause-fault c =
    let text = c.cut_line.result.0.now in
    let cannot = subst (λ (f : Option CertificateLine). MatchOption f (CannotFollow c.loop-rest.missing text)
    (λ line. IsLine text (line_of line) × (levels_behind c.loop-rest.missing (line_of line) ≡ Some c.next_line.new.missing))) c.in-None.is c.in_ok-found.ensures in
    stops (text_lines c.args.bytes.now) c.loop-rest.held.items c.loop-rest.missing c.loop-rest.rest.now text (text_lines c.cut_line.result.1.now) c.loop-rest.number
    c.loop-rest.invariant.at c.cut_line.ensures.lines cannot

pub returns-then-is_over-clause-whole : goal.returns-then-is_over-clause-whole
returns-then-is_over-clause-whole c =
    let none : c.loop-rest.rest.now ≡ [] = first_of (search rules, grind (arith, common_steps)) in
    let w = ends (text_lines c.args.bytes.now) c.loop-rest.held.items c.loop-rest.missing c.loop-rest.rest.now c.loop-rest.number c.loop-rest.invariant.at none (c.is_over.ensures.0 c.if-is_over.true) in
    (w.certificate, w.whole)

pub returns-else-is_over-clause-fault : goal.returns-else-is_over-clause-fault
returns-else-is_over-clause-fault c =
    let none : c.loop-rest.rest.now ≡ [] = first_of (search rules, grind (arith, common_steps)) in
    lacks (text_lines c.args.bytes.now) c.loop-rest.held.items c.loop-rest.missing c.loop-rest.rest.now c.loop-rest.number c.loop-rest.invariant.at none
    (λ e. apart c.is_over.result (c.is_over.ensures.1 e) c.if-is_over.false)
