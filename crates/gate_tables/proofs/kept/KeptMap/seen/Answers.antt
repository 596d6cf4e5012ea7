use Rattle.std.proofs.Common.{◌∙◌, ◌-◌, ap, sym, if◌then◌else◌, arith, Some}
use Rattle.std.specs.Str.{bytes_eq}
use Rattle.gate_tables.specs.FactViews.{seen_view}
use Rattle.gate_tables.proofs.KeptSteps.{kept_step}
use Rattle.gate_tables.proofs.kept.KeptMap.seen.Goals as goal

pub loop-left-preserved : goal.loop-left-preserved
loop-left-preserved c = record {
  low = omega arith;
  made = λ g.
      c.in_ok-set.ensures g
      ∙ ap (λ (o : _). if bytes_eq c.entry-seen.result.gate.now g then Some (seen_view c.entry-seen.result.facts) else o) (c.loop-left.invariant.made g)
      ∙ sym (kept_step c.args.self.now.held.entries (c.loop-left.left - 1) c.loop-left.left g c.entry-seen.result.gate.now (seen_view c.entry-seen.result.facts) (omega arith) c.entry-seen.ensures);
}
