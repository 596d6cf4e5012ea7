use Rattle.std.proofs.Common.{subst, List, ℕ}
use Rattle.std.specs.Bool.{Decides}
use Rattle.std.proofs.lemmas.Bool.Decides.{same_from_decides}
use Rattle.msc_base.specs.Lists.{IsAmong}
use Rattle.token_grammar.specs.Classes.{is_one_of}
use Rattle.token_grammar.specs.Parts.{other_leads}
use Rattle.token_grammar.proofs.Classes.{one_of_decides}
use Rattle.token_grammar.proofs.leads.is_other_token.Goals as goal

pub returns : goal.returns
returns c =
    let tells : Decides c.is_other_lead.result (IsAmong other_leads c.args.token.now.bytes) = subst (λ (b : List ℕ). Decides c.is_other_lead.result (IsAmong other_leads b)) c.bytes.ensures c.is_other_lead.ensures in
    same_from_decides c.is_other_lead.result (is_one_of other_leads c.args.token.now.bytes) tells (one_of_decides other_leads c.args.token.now.bytes)
