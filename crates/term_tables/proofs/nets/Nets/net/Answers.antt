use Rattle.std.proofs.Common.{◌∙◌, length, arith, ap, sym, refl}
use Rattle.std.proofs.lemmas.Option.{slice_get_read}
use Rattle.chart_term.specs.Tables.{net_of, nodes_of}
use Rattle.term_tables.proofs.Tabling.{number_within, net_at, nodes_length, sized_at}
use Rattle.term_tables.proofs.nets.Nets.net.Goals as goal

pub index-requires : goal.index-requires
index-requires c = let within = number_within c.self.inside.stored.items c.args.self.now.tables c.args.net (ap (λ v. v.tables) c.self.view_is) c.requires in omega (arith, within)

pub returns-clause-net : goal.returns-clause-net
returns-clause-net c =
    let within = number_within c.self.inside.stored.items c.args.self.now.tables c.args.net (ap (λ v. v.tables) c.self.view_is) c.requires in
    let read = slice_get_read c.self.inside.stored.items (length c.self.inside.stored.items) c.args.net c.index.result.now refl within c.index.ensures in
    net_at c.self.inside.stored.items c.args.net c.index.result.now read ∙ ap (λ v. net_of v.tables c.args.net) c.self.view_is

pub returns-clause-sized : goal.returns-clause-sized
returns-clause-sized c =
    let within = number_within c.self.inside.stored.items c.args.self.now.tables c.args.net (ap (λ v. v.tables) c.self.view_is) c.requires in
    let read = slice_get_read c.self.inside.stored.items (length c.self.inside.stored.items) c.args.net c.index.result.now refl within c.index.ensures in
    sized_at c.self.inside.stored.items c.args.net c.index.result.now read c.self.invariant.sized
    ∙ sym (nodes_length c.self.inside.stored.items c.args.net c.index.result.now read)
    ∙ ap (λ v. length (nodes_of v.tables c.args.net)) c.self.view_is
