use Rattle.std.proofs.Common.{◌∙◌, ap, sym, subst, List, ℕ}
use Rattle.bit_sets.specs.Blocks.{BlockValue}
use Rattle.chart_term.specs.NormalForms.{allowed, only}
use Rattle.chart_term.specs.Tables.{net_of}
use Rattle.hmsc_graph.specs.Graphs.{To, WalkThrough}
use Rattle.hmsc_graph.specs.Spots.{spot_of}
use Rattle.term_laws.specs.Permission.{permits_of}
use Rattle.term_laws.specs.Values.{block_of}
use Rattle.term_step.proofs.nodes.reached.Goals as goal

pub reached_nodes-requires-clause-block : goal.reached_nodes-requires-clause-block
reached_nodes-requires-clause-block c = ap block_of c.in_ok-wide.ensures ∙ sym (ap (λ (b : BlockValue). only b.instances) c.in_ok-wide.ensures)

pub returns : goal.returns
returns c =
    let same = ap (λ (b : BlockValue). b.instances) c.in_ok-wide.ensures in
    record {
      one = c.if-not-one_place.false;
      event = c.in-Some.event;
      is_met = c.in-Some.is;
      all = λ m v. (c.in_ok-nodes.ensures m).1 (subst (λ (d : List ℕ). WalkThrough (net_of c.args.nets.now.tables c.args.way.net) (allowed (permits_of c.args.nets.now.tables) c.args.way.net d) (spot_of c.args.way.from) (To m)) (sym same) v);
    }
