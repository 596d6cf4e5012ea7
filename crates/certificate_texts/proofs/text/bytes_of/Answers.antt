use Rattle.certificate_texts.proofs.Writing.{line_written}
use Rattle.certificate_texts.proofs.text.bytes_of.Goals as goal

pub loop-line-preserved : goal.loop-line-preserved
loop-line-preserved c =
    line_written c.args.lines.now c.loop-line.line-index _ c.loop-line.out.items c.put_line.new.out.items c.loop-line-test.true c.loop-line.invariant c.in_ok-put_line.ensures
