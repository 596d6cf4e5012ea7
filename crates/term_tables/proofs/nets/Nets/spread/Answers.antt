use Rattle.std.proofs.Common.{◌∙◌, arith, ap, refl, length}
use Rattle.std.proofs.lemmas.Option.{slice_get_read}
use Rattle.chart_term.specs.Spreads.{spread_of}
use Rattle.chart_term.specs.Terms.{has}
use Rattle.term_tables.proofs.Tabling.{number_within}
use Rattle.term_tables.proofs.TouchFacts.{spread-read}
use Rattle.term_tables.proofs.nets.Nets.spread.Goals as goal

pub index-requires : goal.index-requires
index-requires c = let within = number_within c.self.inside.stored.items c.args.self.now.tables c.args.net (ap (λ v. v.tables) c.self.view_is) c.requires in omega (arith, within)

pub returns : goal.returns
returns c =
    let within = number_within c.self.inside.stored.items c.args.self.now.tables c.args.net (ap (λ v. v.tables) c.self.view_is) c.requires in
    let read = slice_get_read c.self.inside.stored.items (length c.self.inside.stored.items) c.args.net c.index.result.now refl within c.index.ensures in
    λ n. ap (λ l. has l n) (spread-read c.self.inside.stored.items c.args.net c.index.result.now read) ∙ c.self.invariant.spread c.args.net n ∙ ap (λ v. has (spread_of v.tables c.args.net) n) c.self.view_is
