use Rattle.std.proofs.Common.{refl, take}
use Rattle.chart_term.specs.Views.{event_of}
use Rattle.term_laws.specs.Permission.{permits_of}
use Rattle.term_step.proofs.Ascending.{par-whole}
use Rattle.msc_base.specs.Patterns.{par}
use Rattle.term_step.proofs.KeptNumbers.{join_keeps}
use Rattle.term_step.proofs.ascent.rows.put_in_par.Goals as goal

pub returns-clause-whole : goal.returns-clause-whole
returns-clause-whole c =
    par-whole (permits_of c.args.nets.now.tables) (event_of c.args.taken.now.event) c.args.parts.now (take c.args.index c.args.parts.now) c.in_ok-whole.whole c.args.index c.args.left.now c.in_ok-whole-2.whole c.requires.turns c.requires.open c.requires.index refl c.in_ok-whole.ensures.whole c.in_ok-whole-2.ensures

pub returns-clause-kept : goal.returns-clause-kept
returns-clause-kept c s kept =
    join_keeps par s c.args.parts.now (take c.args.index c.args.parts.now) (take c.args.index c.args.parts.now) c.in_ok-whole.whole c.args.index c.args.left.now c.in_ok-whole-2.whole c.requires.turns c.requires.index refl (λ n i j. i) c.in_ok-whole.ensures.whole c.in_ok-whole-2.ensures kept
