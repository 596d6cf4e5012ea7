use Rattle.log_ways.proofs.Trailing.{history_more}
use Rattle.log_ways.proofs.history.go_on.Goals as goal

pub returns-clause-yes : goal.returns-clause-yes
returns-clause-yes c x numbers h at within =
    let leads = rw c.in-Some.is at c.in_ok-to.ensures.next in
    history_more c.args.nets.now c.args.budget x numbers c.args.history.now (record { memory = c.next_set.new.memory; sets = c.push.new.self }) c.args.from c.args.number c.in-Some.to h at c.in_ok-to.ensures.serves c.in_ok-to.ensures.grows leads c.in_ok-push.ensures.items
