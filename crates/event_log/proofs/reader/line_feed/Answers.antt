use Rattle.event_log.proofs.WholeLines.{first_feed}
use Rattle.event_log.proofs.reader.line_feed.Goals as goal

pub returns : goal.returns
returns c = first_feed c.args.bytes.now c.memchr.result c.memchr.ensures
