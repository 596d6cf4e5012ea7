use Rattle.std.proofs.Common.{rules, sym, ◌∙◌}
use Rattle.term_facts.proofs.Listing.{is_equal, set_equal}
use Rattle.term_facts.proofs.facts.Facts.are_within.Goals as goal

pub returns-then-not-self : goal.returns-then-not-self
returns-then-not-self c e = record {
  trail = search rules;
  instances = set_equal c.args.self.now.instances.instances c.args.block.now.instances (sym c.compare_instances.ensures ∙ is_equal c.compare_instances.result (sym c.eq.ensures ∙ e));
}
