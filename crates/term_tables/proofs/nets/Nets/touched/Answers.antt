use Rattle.std.proofs.Common.{◌∙◌, [], ap, rules}
use Rattle.chart_term.specs.Spreads.{touch, spread_of}
use Rattle.chart_term.specs.Terms.{has}
use Rattle.term_tables.specs.NetTables.{spread_at, tables_of}
use Rattle.term_tables.specs.Unions.{IsUnion}
use Rattle.term_tables.proofs.TouchFacts.{same_touch}
use Rattle.term_tables.proofs.nets.Nets.touched.Goals as goal

pub returns : goal.returns
returns c =
    let union : IsUnion [] (touch (spread_at c.self.inside.stored.items) c.args.term.now) c.add_term.new.block.instances = search rules in
    λ n. union.same n
    ∙ same_touch (spread_at c.self.inside.stored.items) (spread_of (tables_of c.self.inside.stored.items)) c.self.invariant.spread c.args.term.now n
    ∙ ap (λ v. has (touch (spread_of v.tables) c.args.term.now) n) c.self.view_is
