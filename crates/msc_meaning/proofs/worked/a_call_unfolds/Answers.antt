use Rattle.msc_meaning.proofs.WorkedCall.{call_is_woven, call_unfolds, call_conforms}
use Rattle.msc_meaning.proofs.worked.a_call_unfolds.Goals as goal

pub returns-clause-woven : goal.returns-clause-woven
returns-clause-woven c = call_is_woven

pub returns-clause-unfolds : goal.returns-clause-unfolds
returns-clause-unfolds c = call_unfolds

pub returns-clause-conforms : goal.returns-clause-conforms
returns-clause-conforms c = call_conforms
