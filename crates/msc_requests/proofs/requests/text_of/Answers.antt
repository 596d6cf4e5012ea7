use Rattle.std.proofs.Common.{◌≡◌, ◌∙◌, ap, sym, rules}
use Rattle.std.proofs.lemmas.Str.{is_utf8-from_IsUtf8}
use Rattle.std.specs.Str.{IsUtf8, is_utf8}
use Rattle.msc_requests.proofs.requests.text_of.Goals as goal

pub returns-in-Ok-clause-text : goal.returns-in-Ok-clause-text
returns-in-Ok-clause-text c =
    let text : c.in-Ok.text.now ≡ c.args.word.now = search rules in
    let utf8 : IsUtf8 c.bytes.result.now = search rules in
    (text, ap is_utf8 (sym c.bytes.ensures) ∙ is_utf8-from_IsUtf8 c.bytes.result.now utf8)
