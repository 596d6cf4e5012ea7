use Rattle.trace_judge.proofs.Tracking.{on_err, same_fed, take_fed}
use Rattle.trace_judge.proofs.track.Track.take.Goals as goal

pub returns-clause-fed : goal.returns-clause-fed
returns-clause-fed g c = λ x budget events f. λ a is. take_fed g.S.Store.holds c.args.nets.now x budget events c.args.number a c.args.line c.args.self.now c.follow_open.new.self c.count.new.self is c.in_ok-follow_open.ensures.ok c.count.ensures f

pub returns-in_err-follow_open-clause-stays : goal.returns-in_err-follow_open-clause-stays
returns-in_err-follow_open-clause-stays g c = λ x budget events f. on_err c.from_residual.result (same_fed g.S.Store.holds c.args.nets.now x budget events c.args.self.now c.follow_open.new.self c.in_err-follow_open.ensures.err f)
