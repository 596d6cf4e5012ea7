use Rattle.certificate_texts.proofs.Cutting.{first_feed}
use Rattle.certificate_texts.proofs.reading.line_feed.Goals as goal

pub returns : goal.returns
returns c = first_feed c.args.bytes.now c.memchr.result c.memchr.ensures
