use Rattle.std.proofs.Common.{subst, List, ℕ}
use Rattle.std.specs.Bool.{Decides}
use Rattle.std.proofs.lemmas.Bool.Decides.{same_from_decides}
use Rattle.msc_base.specs.Names.{IsName}
use Rattle.token_grammar.specs.Classes.{is_name}
use Rattle.token_grammar.proofs.Classes.{name_decides}
use Rattle.token_grammar.proofs.readers.is_name_token.Goals as goal

pub returns : goal.returns
returns c =
    let tells : Decides c.is_name.result (IsName c.args.token.now.bytes) = subst (λ (b : List ℕ). Decides c.is_name.result (IsName b)) c.bytes.ensures c.is_name.ensures in
    same_from_decides c.is_name.result (is_name c.args.token.now.bytes) tells (name_decides c.args.token.now.bytes)
