use Rattle.std.proofs.Common.{refl, inl}
use Rattle.gate_tables.proofs.NamedSteps.{all_kept, kept_more}
use Rattle.gate_tables.proofs.named.NamedFacts.kept.Goals as goal

pub loop-named-init : goal.loop-named-init
loop-named-init c = λ n. inl (refl, c.new-kept.ensures.at n)

pub loop-named-preserved : goal.loop-named-preserved
loop-named-preserved c = kept_more c.args.self c.loop-named.left c.pop.new.self c.loop-named.kept c.set.new.self c.in-Some.named.name.now c.in-Some.named.map c.in_ok-map.map c.loop-named.invariant c.in-Some.ensures.some c.in_ok-map.ensures c.in_ok-set.ensures.at

pub returns : goal.returns
returns c = all_kept c.args.self c.loop-named.left c.loop-named.kept c.loop-named.invariant c.in_default.ensures.none
