use Rattle.msc_meaning.proofs.WorkedGates.{gate_through_levels_unfolds, gate_through_levels_conforms, input_through_levels_fails}
use Rattle.msc_meaning.proofs.WorkedJoins.{joined_gates_unfold, joined_gates_conform, inline_gate_unfolds, caller_alone_conforms}
use Rattle.msc_meaning.proofs.worked.gates_lead_through_levels_and_joins.Goals as goal

pub returns-clause-levels : goal.returns-clause-levels
returns-clause-levels c = gate_through_levels_unfolds

pub returns-clause-through : goal.returns-clause-through
returns-clause-through c = gate_through_levels_conforms

pub returns-clause-input_first : goal.returns-clause-input_first
returns-clause-input_first c = input_through_levels_fails

pub returns-clause-joins : goal.returns-clause-joins
returns-clause-joins c = joined_gates_unfold

pub returns-clause-joined : goal.returns-clause-joined
returns-clause-joined c = joined_gates_conform

pub returns-clause-inline : goal.returns-clause-inline
returns-clause-inline c = inline_gate_unfolds

pub returns-clause-caller_alone : goal.returns-clause-caller_alone
returns-clause-caller_alone c = caller_alone_conforms
