use Rattle.std.proofs.Common.{◌≡◌, ap, List}
use Rattle.chart_term.specs.NormalForms.{begun, open_part}
use Rattle.chart_term.specs.Terms.{Part}
use Rattle.msc_base.specs.Patterns.{seq, par}
use Rattle.term_permission.specs.Lefts.{mode_of}
use Rattle.term_permission.proofs.Joins.{ok-as, opened-here}
use Rattle.term_permission.proofs.left.opened.Goals as goal

pub returns-in-Row-clause-parts : goal.returns-in-Row-clause-parts
returns-in-Row-clause-parts c =
    ok-as (λ (ps : List Part). ps ≡ c.in-Seq.parts.now) (λ (ps : List Part). begun ps ≡ open_part (mode_of c.args.joint) c.args.term.now) c.copy.result (λ ps h. opened-here (mode_of c.args.joint) seq c.args.term.now c.in-Seq.parts.now ps (ap mode_of c.in-Row.is) c.in-Seq.ensures.0 h) c.copy.ensures

pub returns-in-Aside-joint-clause-parts : goal.returns-in-Aside-joint-clause-parts
returns-in-Aside-joint-clause-parts c =
    ok-as (λ (ps : List Part). ps ≡ c.in-Par.parts.now) (λ (ps : List Part). begun ps ≡ open_part (mode_of c.args.joint) c.args.term.now) c.copy-in-Aside-joint.result (λ ps h. opened-here (mode_of c.args.joint) par c.args.term.now c.in-Par.parts.now ps (ap mode_of c.in-Aside-joint.is) c.in-Par.ensures.0 h) c.copy-in-Aside-joint.ensures
