use Rattle.std.proofs.Common.{◌≡◌, Option, subst, sym, ap₂, ◌∙◌}
use Rattle.msc_rules.specs.declared.first_fault.Broken.{Broken}
use Rattle.msc_rules.specs.FirstFaults.{IsBest, earlier_of, fault_of}
use Rattle.msc_rules.specs.declared.rule.Rule.{Rule}
use Rattle.msc_rules.specs.declared.rule.Rule.TheVariants.{GateOnLoop, GateSplit, GateTwice, GateWays, NoGate}
use Rattle.msc_rules.specs.Rules.{number_of}
use Rattle.msc_acceptance.specs.Acceptance.{BreaksOf}
use Rattle.msc_acceptance.specs.Deciding.{gates}
use Rattle.msc_acceptance.proofs.GatePlaces.{gates_best}
use Rattle.msc_acceptance.proofs.gates.gate_fault.Goals as goal

abbrev first_of : Option (Broken Rule) → Option (Broken Rule) → Option (Broken Rule)
first_of x y = earlier_of number_of x y

pub returns : goal.returns
returns c = λ charts table are h.
    let p = c.args.places in
    let two : c.earlier_fault.result ≡ first_of (fault_of NoGate p.no_gate) (fault_of GateTwice p.twice) = c.earlier_fault.ensures ∙ ap₂ first_of c.broken_at-none.ensures c.broken_at-twice.ensures in
    let three : c.earlier_fault-first.result ≡ first_of (first_of (fault_of NoGate p.no_gate) (fault_of GateTwice p.twice)) (fault_of GateWays p.ways) = c.earlier_fault-first.ensures ∙ ap₂ first_of two c.broken_at-ways.ensures in
    let four : c.earlier_fault-2.result ≡ first_of (first_of (first_of (fault_of NoGate p.no_gate) (fault_of GateTwice p.twice)) (fault_of GateWays p.ways)) (fault_of GateSplit p.split) = c.earlier_fault-2.ensures ∙ ap₂ first_of three c.broken_at-split.ensures in
    let all : c.earlier_fault-3.result ≡ first_of (first_of (first_of (first_of (fault_of NoGate p.no_gate) (fault_of GateTwice p.twice)) (fault_of GateWays p.ways)) (fault_of GateSplit p.split)) (fault_of GateOnLoop p.on_loop) =
    c.earlier_fault-3.ensures ∙ ap₂ first_of four c.broken_at-on_loop.ensures in
    subst (λ (x : Option (Broken Rule)). IsBest number_of (BreaksOf charts) gates x) (sym all) (gates_best charts table are p h)
