use Rattle.std.proofs.Common.{arith, sym, length-take-le}
use Rattle.certificate_texts.proofs.reading.line_of_limit.Goals as goal

pub slice_bounds-within-end : goal.slice_bounds-within-end
slice_bounds-within-end c = sym (length-take-le 67108864 c.args.bytes.now (omega (arith, c.requires)))
