use Rattle.std.proofs.Common.{arith, sym, ◌∙◌}
use Rattle.msc_tokens.proofs.Wholes.{word_is_whole}
use Rattle.msc_tokens.proofs.whole.whole_word.Goals as goal

pub returns-clause-whole : goal.returns-clause-whole
returns-clause-whole c =
    word_is_whole c.args.bytes.now c.args.count c.split_at.result.0.now c.split_at.result.1.now c.requires (omega (arith, c.if-bytes-count.false))
    c.if-count-gt-NAME_BYTES.false c.split_at.ensures.front c.split_at.ensures.back (sym c.has_letter.ensures ∙ c.if-not-has_letter.false)
