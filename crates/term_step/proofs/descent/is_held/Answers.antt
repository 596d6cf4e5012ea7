use Rattle.std.proofs.Common.{sym, subst, ap, ◌∙◌, List, refl}
use Rattle.chart_term.specs.NormalForms.{begun, has_gap}
use Rattle.chart_term.specs.Properties.{EachTurn}
use Rattle.chart_term.specs.Terms.{Join, Part, trees}
use Rattle.msc_base.specs.Patterns.{seq}
use Rattle.term_permission.specs.Ready.{IsReady}
use Rattle.term_laws.specs.Normality.{IsPartOf}
use Rattle.term_step.proofs.Placed.{front-holds}
use Rattle.term_permission.specs.Lefts.{opened_left}
use Rattle.term_permission.specs.Remnants.{SaysParts}
use Rattle.term_permission.specs.declared.remnant.Remnant.{Remnant}
use Rattle.term_laws.specs.Permission.{permits_of}
use Rattle.term_laws.specs.Values.{block_of}
use Rattle.term_permission.proofs.Joins.{each-take, turns-take}
use Rattle.term_permission.proofs.Permits.{turns-are-open, turns-are-ready}
use Rattle.term_step.proofs.descent.is_held.Goals as goal

pub ask_parts-requires-clause-turns : goal.ask_parts-requires-clause-turns
ask_parts-requires-clause-turns c = ap has_gap c.in_ok-before.ensures ∙ turns-take c.args.parts.now c.args.from c.requires.turns

pub ask_parts-requires-clause-ready : goal.ask_parts-requires-clause-ready
ask_parts-requires-clause-ready c =
    subst (λ (ps : List Part). EachTurn (IsReady c.args.nets.now.tables) ps) (sym c.in_ok-before.ensures)
    (each-take (IsReady c.args.nets.now.tables) c.args.parts.now c.args.from (turns-are-ready c.args.nets.now.tables seq (Join seq (trees (begun c.args.parts.now))) c.args.parts.now refl c.requires.row))

pub ask_parts-requires-clause-open : goal.ask_parts-requires-clause-open
ask_parts-requires-clause-open c =
    subst (λ (ps : List Part). EachTurn (IsPartOf seq) ps) (sym c.in_ok-before.ensures)
    (each-take (IsPartOf seq) c.args.parts.now c.args.from (turns-are-open c.args.nets.now.tables seq (Join seq (trees (begun c.args.parts.now))) c.args.parts.now refl c.requires.row))

pub returns : goal.returns
returns c = λ h.
    let fails = subst (λ (r : Remnant). SaysParts r (opened_left (permits_of c.args.nets.now.tables) (block_of c.in-Some.met.at) seq (begun c.in_ok-before.before))) (c.fails.ensures.yes h) c.in_ok-left.ensures in (
      c.if-not-one_place.false,
      front-holds c.args.nets.now.tables c.in-Some.met c.args.met.now c.args.parts.now c.in_ok-before.before c.args.from c.in-Some.is (rw c.in-Some.is at c.requires.met) (c.is_alone.ensures c.if-not-is_alone.false) c.requires.turns
          (turns-are-ready c.args.nets.now.tables seq (Join seq (trees (begun c.args.parts.now))) c.args.parts.now refl c.requires.row) c.in_ok-before.ensures fails,
    )
