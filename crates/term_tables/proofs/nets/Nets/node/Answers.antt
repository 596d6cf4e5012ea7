use Rattle.std.proofs.Common.{◌≡◌, ◌∙◌, length, arith, ap, refl}
use Rattle.std.proofs.lemmas.Option.{slice_get_read}
use Rattle.term_tables.specs.NetTables.{tables_of}
use Rattle.chart_term.specs.Tables.{node_of, nodes_of}
use Rattle.term_tables.proofs.Tabling.{number_within, node_at, nodes_length}
use Rattle.term_tables.proofs.nets.Nets.node.Goals as goal

pub index-requires : goal.index-requires
index-requires c = let within = number_within c.self.inside.stored.items c.args.self.now.tables c.args.net (ap (λ v. v.tables) c.self.view_is) c.requires.net in omega (arith, within)

pub at-requires : goal.at-requires
at-requires c =
    let within = number_within c.self.inside.stored.items c.args.self.now.tables c.args.net (ap (λ v. v.tables) c.self.view_is) c.requires.net in
    let read = slice_get_read c.self.inside.stored.items (length c.self.inside.stored.items) c.args.net c.index.result.now refl within c.index.ensures in
    let long = nodes_length c.self.inside.stored.items c.args.net c.index.result.now read in
    let seen : length (nodes_of (tables_of c.self.inside.stored.items) c.args.net) ≡ length (nodes_of c.args.self.now.tables c.args.net) = ap (λ v. length (nodes_of v.tables c.args.net)) c.self.view_is in
    omega (arith, long, seen, c.requires.node)

pub returns : goal.returns
returns c =
    let within = number_within c.self.inside.stored.items c.args.self.now.tables c.args.net (ap (λ v. v.tables) c.self.view_is) c.requires.net in
    let read = slice_get_read c.self.inside.stored.items (length c.self.inside.stored.items) c.args.net c.index.result.now refl within c.index.ensures in
    node_at c.self.inside.stored.items c.args.net c.index.result.now c.args.node c.at.result.now read c.at.ensures
    ∙ ap (λ v. node_of v.tables c.args.net c.args.node) c.self.view_is
