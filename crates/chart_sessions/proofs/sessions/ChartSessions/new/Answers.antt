use Rattle.msc_meaning.specs.Views.{table_view}
use Rattle.chart_sessions.proofs.Judging.{judging}
use Rattle.chart_sessions.proofs.sessions.ChartSessions.new.Goals as goal

pub term_of-requires-clause-graphs : goal.term_of-requires-clause-graphs
term_of-requires-clause-graphs c = c.charts_have_terms.ensures.graphs (table_view c.args.accepted.now) c.args.name.now c.requires.there.0 c.requires.there.1 c.requires.accepted

pub term_of-requires-clause-room : goal.term_of-requires-clause-room
term_of-requires-clause-room c = c.charts_have_terms.ensures.room (table_view c.args.accepted.now) c.args.name.now c.requires.there.0 c.requires.there.1 c.requires.accepted

pub returns : goal.returns
returns c =
    judging (table_view c.args.accepted.now) c.args.name.now c.requires.there.0 c.args.form c.args.budget c.in_ok-made.made.nets c.in_ok-made.made.term c.in_ok-sessions.sessions c.requires.there.1 c.requires.accepted
    c.in_ok-made.ensures c.in_ok-sessions.ensures.fed c.in_ok-sessions.ensures.fault

pub new-requires-clause-sound : goal.new-requires-clause-sound
new-requires-clause-sound c =
    c.charts_have_terms.ensures.sound (table_view c.args.accepted.now) c.args.name.now c.requires.there.0 c.in_ok-made.made.nets c.in_ok-made.made.term c.requires.there.1 c.requires.accepted c.in_ok-made.ensures
