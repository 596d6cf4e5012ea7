use Rattle.std.proofs.Common.{refl}
use Rattle.bit_sets.proofs.BitFacts.{with_bit_is, wide_enough}
use Rattle.chart_links.proofs.bit_row.set_bit.Goals as goal

pub returns : goal.returns
returns c =
    let words = c.args.words.now.items in
    with_bit_is words words c.args.at c.index_mut.result.now (wide_enough words words c.args.at c.requires refl) c.requires c.index_mut.ensures.value
