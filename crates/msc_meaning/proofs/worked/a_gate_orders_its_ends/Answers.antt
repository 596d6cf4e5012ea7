use Rattle.msc_meaning.proofs.WorkedGates.{gate_unfolds, gate_conforms, input_across_fails, gate_alone_unfolds, gate_alone_conforms}
use Rattle.msc_meaning.proofs.worked.a_gate_orders_its_ends.Goals as goal

pub returns-clause-unfolds : goal.returns-clause-unfolds
returns-clause-unfolds c = gate_unfolds

pub returns-clause-conforms : goal.returns-clause-conforms
returns-clause-conforms c = gate_conforms

pub returns-clause-input_first : goal.returns-clause-input_first
returns-clause-input_first c = input_across_fails

pub returns-clause-alone : goal.returns-clause-alone
returns-clause-alone c = gate_alone_unfolds

pub returns-clause-alone_conforms : goal.returns-clause-alone_conforms
returns-clause-alone_conforms c = gate_alone_conforms
